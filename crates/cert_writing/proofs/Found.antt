-- The number of an instance in a list.
use Rattle.std.proofs.Common.{ℕ, zero, suc, ◌+◌, ◌<◌, ◌≤◌, ◌≡◌, List, [], ◌∷◌, length, get_or, Bool, true, false, refl, ap, sym, ◌∙◌, arith, Option, Some, None, nat_lt, subst}
use Rattle.std.specs.Prelude.{IfSome, IfNone, Contains, slice_get}
use Rattle.std.specs.Option.{unwrap_or}
use Rattle.std.specs.List.{AllByRecursion}
use Rattle.std.specs.List.Sorted.{IsStrictlySortedBy}
use Rattle.std.proofs.lemmas.Bool.Decides.{nat_tests}
use Rattle.std.proofs.lemmas.Option.{slice_get_within, slice_get_read, same_Some}
use Rattle.node_keys.specs.declared.keys.InstKey.{InstKey}
use Rattle.node_keys.specs.declared.keys.NodeKey.{NodeKey}
use Rattle.node_keys.specs.Order.{inst_cmp}
use Rattle.node_keys.specs.Laws.{KeysAreOrdered}
use Rattle.edge_rules.specs.declared.seeded.NodeForm.{NodeForm}
use Rattle.edge_rules.specs.Expansion.{Seeds}
use Rattle.certificate.specs.declared.instance.Inst.{Inst}
use Rattle.certificate.specs.Insts.{inst_keys}
use Rattle.certificate.specs.Claims.{Belongs, seed_keys}
use Rattle.cert_words.specs.Text.{inst_number}
use Rattle.cert_words.proofs.AllLaws.{number_unique, has_number}
use Rattle.cert_writing.specs.Numbers.{IsAt, IsNowhereFrom}

abbrev pub NoneBefore : List Inst → InstKey → ℕ → ℕ → Type 0
NoneBefore insts key from j = (i : ℕ) → from ≤ i → i < j → IsAt insts key i → ⊥

none_by : (insts : List Inst) (key : InstKey) (from j i : ℕ) (x : Inst) (t : Bool) → NoneBefore insts key from j → slice_get insts j ≡ Some x → (x.key ≡ key → ⊥) → from ≤ i → i < j + 1 → nat_lt i j ≡ t → IsAt insts key i → ⊥
none_by insts key from j i x true before here other low lt e at = before i low (grind (arith, nat_tests, e)) at
none_by insts key from j i x false before here other low lt e at =
    let same : i ≡ j = grind (arith, nat_tests, e, lt) in
    other (ap (λ (y : Inst). y.key) (same_Some x at.0 (sym here ∙ ap (slice_get insts) (sym same) ∙ at.1)) ∙ at.2)

-- one more instance, with another key
pub none_more : (insts : List Inst) (key : InstKey) (from j : ℕ) (x : Inst) → NoneBefore insts key from j → j < length insts → x ≡ get_or insts j x → ((get_or insts j x).key ≡ key → ⊥) → NoneBefore insts key from (j + 1)
none_more insts key from j x before lt is other = λ i low less at.
    none_by insts key from j i x (nat_lt i j) before (slice_get_read insts (length insts) j x refl lt is) (λ e. other (ap (λ (y : Inst). y.key) (sym is) ∙ e)) low less refl at

pub nowhere : (insts : List Inst) (key : InstKey) (from j : ℕ) → NoneBefore insts key from j → length insts ≤ j → IsNowhereFrom insts key from
nowhere insts key from j before all = λ i low at. before i low (omega (arith, all, slice_get_within insts i at.0 at.1)) at

pub number_at : KeysAreOrdered → (insts : List Inst) (key : InstKey) (j : ℕ) → IsStrictlySortedBy inst_cmp (inst_keys insts) → IsAt insts key j → j ≡ inst_number key insts
number_at o insts key j sorted at = sym (number_unique o insts j at.0 sorted at.1) ∙ ap (λ (k : InstKey). inst_number k insts) at.2

pub number_found : KeysAreOrdered → (insts : List Inst) (key : InstKey) (r : Option ℕ) → IsStrictlySortedBy inst_cmp (inst_keys insts) → Contains (inst_keys insts) key → IfSome r (λ j. IsAt insts key j) → IfNone r (IsNowhereFrom insts key 0)
    → unwrap_or r 0 ≡ inst_number key insts
number_found o insts key (Some j) sorted there found none = number_at o insts key j sorted found
number_found o insts key None sorted there found none =
    let t = has_number o insts key there in
    absurd (none (inst_number key insts) (omega arith) (t.inst, t.there, t.same))

pub belongs_at : (insts : List Inst) (ns : Seeds) (i : ℕ) (n : NodeKey × NodeForm) → AllByRecursion (Belongs insts) (seed_keys ns) → i < length ns → n ≡ get_or ns i n → Belongs insts n.0
belongs_at insts [] i n h lt is = absurd (omega (arith, lt))
belongs_at insts (m ∷ ns) zero n h lt is = let P : NodeKey × NodeForm → Type 0 = λ x. Belongs insts x.0 in subst P (sym is) h.0
belongs_at insts (m ∷ ns) (suc i) n h lt is = belongs_at insts ns i n h.1 (omega (arith, lt)) is
