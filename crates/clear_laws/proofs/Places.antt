-- Nodes by key and by number, in an ascending list.
use Rattle.std.proofs.Common.{◌≡◌, refl, sym, ap, ◌∙◌, ℕ, ⊎_elim, List, Option, Some, None, slice_get, Contains, arith}
use Rattle.std.proofs.lemmas.Bool.{cases_lt}
use Rattle.std.proofs.lemmas.Option.{same_Some, slice_get_within, get_or_from_slice_get}
use Rattle.edge_rules.specs.Places.{found_at, none_from, pair}
use Rattle.local_laws.proofs.AllLaws.{never_before}
use Rattle.avr_model.specs.declared.device.Device.{Device}
use Rattle.node_keys.specs.declared.keys.NodeKey.{NodeKey}
use Rattle.local_rules.specs.declared.local.Node.{Node}
use Rattle.edge_rules.specs.Views.{AreShown, index_of}

-- ---- numbers

pub contains_at : (nodes : List Node) (i : ℕ) (n : Node) → slice_get nodes i ≡ Some n → Contains nodes n
contains_at nodes i n e = (i, slice_get_within nodes i n e, get_or_from_slice_get nodes i n n e)

pub same_node_at : (nodes : List Node) (i : ℕ) (a b : Node) → slice_get nodes i ≡ Some a → slice_get nodes i ≡ Some b → a ≡ b
same_node_at nodes i a b e f = same_Some a b (sym e ∙ f)

-- ---- by key

-- a key in the list has a number
pub there_is : (k : NodeKey) (nodes : List Node) (n : Node) → Contains nodes n → n.key ≡ k → (at : ℕ) × (index_of k nodes ≡ Some at)
there_is k nodes n h same = by (index_of k nodes) refl
  where
    by : (o : Option ℕ) → index_of k nodes ≡ o → (at : ℕ) × (o ≡ Some at)
    by None e = absurd (none_from k nodes 0 e n h same)
    by (Some at) e = (at, refl)

-- ---- a node's own number is that of its key

pub one_number : {device : Device} (nodes : List Node) (i j : ℕ) (a b : Node) → AreShown device nodes → slice_get nodes i ≡ Some a → slice_get nodes j ≡ Some b → a.key ≡ b.key → i ≡ j
one_number nodes i j a b shown ea eb same =
    ⊎_elim (λ lt. absurd (never_before a.key b.key same (pair nodes i j a b shown.ascending ea eb lt)))
    (λ le. ⊎_elim (λ lt. absurd (never_before b.key a.key (sym same) (pair nodes j i b a shown.ascending eb ea lt))) (λ ge. omega (arith, le, ge)) (cases_lt j i))
    (cases_lt i j)

pub own_number : {device : Device} (nodes : List Node) (j : ℕ) (n : Node) → AreShown device nodes → slice_get nodes j ≡ Some n → index_of n.key nodes ≡ Some j
own_number nodes j n shown e =
    let there = there_is n.key nodes n (contains_at nodes j n e) refl in
    let found = found_at n.key nodes there.0 there.1 in
    there.1 ∙ ap (λ (i : ℕ). Some i) (one_number nodes there.0 j found.node n shown found.is e found.same)
