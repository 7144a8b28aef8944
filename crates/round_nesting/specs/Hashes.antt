-- Equality of notes, and what a note feeds to a hasher.
use Rattle.std.specs.Prelude.{ℕ, ◌≡◌, List, ◌++◌, Bool, ◌&&◌, true, nat_eq, IsTrue}
use Rattle.std.proofs.Common.{ap}
use Rattle.std.proofs.lemmas.Bool.Decides.{Decides-eqb}
use Rattle.std.specs.Cmp.{IsEquivalence, IsPartialEquivalence, partial_equiv_from_equiv}
use Rattle.std.specs.Hash as fed
use Rattle.std.proofs.lemmas.Cmp.{nat_eq_equiv, on_equiv, and_equiv}
use Rattle.std.proofs.lemmas.Bool.{and_parts}
use Rattle.node_keys.specs.declared.keys.InstKey.{InstKey}
use Rattle.node_keys.specs.Hashes.{inst_hash}
use Rattle.node_keys.specs.Order.{same_inst}
use Rattle.node_keys.specs.Total.{inst_equivalence}
use Rattle.node_keys.proofs.AllLaws.{keys_are_ordered}
use Rattle.round_nesting.specs.Nestings.{Spot, Entrance}

-- ---- of a spot

abbrev pub same_spot : Spot → Spot → Bool
same_spot a b = same_inst a.inst b.inst && nat_eq a.offset b.offset

pub spots_equivalence : IsPartialEquivalence same_spot × IsEquivalence same_spot
spots_equivalence = (partial_equiv_from_equiv laws, laws)
  where
    laws : IsEquivalence same_spot
    laws = and_equiv (on_equiv (λ (s : Spot). s.inst) inst_equivalence.1) (on_equiv (λ (s : Spot). s.offset) nat_eq_equiv)

abbrev pub spot_hash : Spot → List (List ℕ)
spot_hash s = inst_hash s.inst ++ fed.u16 s.offset

-- ---- of an entrance

abbrev pub same_entrance : Entrance → Entrance → Bool
same_entrance a b = same_inst a.from b.from && (same_inst a.into b.into && nat_eq a.offset b.offset)

pub entrances_equivalence : IsPartialEquivalence same_entrance × IsEquivalence same_entrance
entrances_equivalence = (partial_equiv_from_equiv laws, laws)
  where
    laws : IsEquivalence same_entrance
    laws =
        and_equiv (on_equiv (λ (e : Entrance). e.from) inst_equivalence.1)
        (and_equiv (on_equiv (λ (e : Entrance). e.into) inst_equivalence.1) (on_equiv (λ (e : Entrance). e.offset) nat_eq_equiv))

abbrev pub entrance_hash : Entrance → List (List ℕ)
entrance_hash e = inst_hash e.from ++ inst_hash e.into ++ fed.u16 e.offset

-- ---- the same is equal

inst_is : (a b : InstKey) → same_inst a b ≡ true → a ≡ b
inst_is a b h = (keys_are_ordered.same_insts a b).0 h

pub spot_is : (a b : Spot) → same_spot a b ≡ true → a ≡ b
spot_is a b h =
    let p = and_parts (same_inst a.inst b.inst) (nat_eq a.offset b.offset) h in
    let inst = inst_is a.inst b.inst p.0 in
    let offset = (Decides-eqb a.offset b.offset).0 p.1 in
    λ i. record { inst = inst i; offset = offset i }

pub spot_alike : (a b : Spot) → IsTrue (same_spot a b) → spot_hash a ≡ spot_hash b
spot_alike a b h = ap spot_hash (spot_is a b h)

pub entrance_is : (a b : Entrance) → same_entrance a b ≡ true → a ≡ b
entrance_is a b h =
    let p = and_parts (same_inst a.from b.from) (same_inst a.into b.into && nat_eq a.offset b.offset) h in
    let q = and_parts (same_inst a.into b.into) (nat_eq a.offset b.offset) p.1 in
    let from = inst_is a.from b.from p.0 in
    let into = inst_is a.into b.into q.0 in
    let offset = (Decides-eqb a.offset b.offset).0 q.1 in
    λ i. record { from = from i; into = into i; offset = offset i }

pub entrance_alike : (a b : Entrance) → IsTrue (same_entrance a b) → entrance_hash a ≡ entrance_hash b
entrance_alike a b h = ap entrance_hash (entrance_is a b h)
