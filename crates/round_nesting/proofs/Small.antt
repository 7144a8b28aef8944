-- At most as many instances are noted as the family has nodes.
use Rattle.std.proofs.Common.{◌≡◌, refl, ap, subst, zero, suc, ◌≤◌, Bool, true, false, List, [], ◌∷◌, map, length, Some, Contains, arith}
use Rattle.std.specs.List.{IsDistinct, AllByRecursion}
use Rattle.std.specs.Bool.{Decides}
use Rattle.std.specs.Set.{is_member}
use Rattle.std.specs.FinMap.{entries, len, len-entries}
use Rattle.std.proofs.lemmas.Map.Made.{is_member-Decides, length-le_from_is_member}
use Rattle.basics.specs.Items.{first_in, further_in}
use Rattle.node_keys.specs.declared.keys.InstKey.{InstKey}
use Rattle.node_keys.specs.Order.{same_inst}
use Rattle.node_keys.specs.Total.{inst_equivalence}
use Rattle.node_keys.proofs.AllLaws.{keys_are_ordered}
use Rattle.local_rules.specs.declared.local.Node.{Node}
use Rattle.local_laws.proofs.AllLaws.{in_map}
use Rattle.round_rules.specs.Families.{Family, node_of, nodes_of}
use Rattle.round_laws.proofs.AllLaws.{families_are_their_nodes}
use Rattle.round_nesting.specs.Nestings.{Noted, AreOnce, IsNestingOf, NestingsAreSmall}
use Rattle.round_nesting.proofs.Numbers.{at_index}
use Rattle.local_rules.specs.Site.{Task}

abbrev inst_of : Node → InstKey
inst_of n = n.key.inst

mapped_length : {X Y : Type 0} (f : X → Y) (xs : List X) → length (map f xs) ≡ length xs
mapped_length f [] = refl
mapped_length f (x ∷ xs) = omega (arith, mapped_length f xs)

none_later : (k : InstKey) (ks : List InstKey) → ((inst : InstKey) → Contains ks inst → k ≡ inst → ⊥) → AllByRecursion (λ y. same_inst k y ≡ false) ks
none_later k [] none = tt
none_later k (y ∷ ys) none = (by (same_inst k y) refl, none_later k ys (λ inst h. none inst (further_in y inst ys h)))
  where
    by : (b : Bool) → same_inst k y ≡ b → same_inst k y ≡ false
    by true t = absurd (none y (first_in y ys) ((keys_are_ordered.same_insts k y).0 t))
    by false t = t

none_twice : (keys : List InstKey) → AreOnce keys → IsDistinct same_inst keys
unfolding IsDistinct
none_twice [] once = tt
none_twice (k ∷ ks) once = (
  none_later k ks
      (λ inst h e. let same : zero ≡ suc h.0 = once zero (suc h.0) inst (ap Some e) (at_index ks inst h.0 h.1 h.2) in absurd (omega (arith, same))),
  none_twice ks (λ i j inst e f. let same : suc i ≡ suc j = once (suc i) (suc j) inst e f in omega (arith, same)),
)

module _ (task : Task) (f : Family) (n : Noted) (is : IsNestingOf task f n) where
  abbrev insts : List InstKey
  insts = map inst_of (nodes_of f)

  among : (inst : InstKey) → Contains n.insts inst → Contains insts inst
  among inst h =
      let node = (is.insts inst).0 h in
      subst (Contains insts) node.2 (in_map inst_of (nodes_of f) node.0 ((families_are_their_nodes.members f node.0).1 node.1))

  member : (inst : InstKey) → is_member same_inst n.insts inst ≡ true → is_member same_inst insts inst ≡ true
  member inst t = (decides insts inst).1 (among inst ((decides n.insts inst).0 t))
    where
      decides : (ks : List InstKey) (q : InstKey) → Decides (is_member same_inst ks q) (Contains ks q)
      decides = is_member-Decides keys_are_ordered.same_insts

  small : AreOnce n.insts → length n.insts ≤ len f
  small once =
      let le = length-le_from_is_member inst_equivalence.1 n.insts insts (none_twice n.insts once) member in
      omega (arith, le, mapped_length inst_of (nodes_of f), mapped_length node_of (entries f), len-entries f)

pub nestings_are_small : NestingsAreSmall
nestings_are_small task f n is once = small task f n is once
