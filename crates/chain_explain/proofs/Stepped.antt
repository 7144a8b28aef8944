-- Single steps of the code.
use Rattle.std.proofs.Common.{◌≡◌, refl, sym, ap, ◌∙◌, ℕ, zero, suc, ◌<◌, List, [], ◌∷◌, length, get_or, Option, Some, None, slice_get, arith}
use Rattle.std.specs.Option.{option_map}
use Rattle.std.proofs.lemmas.Option.{none-some, same_Some, slice_get-get_or}
use Rattle.avr_model.specs.declared.assumption.Entry.{Entry}
use Rattle.abs_state.specs.declared.state.AbsState.{AbsState}
use Rattle.node_keys.specs.declared.keys.NodeKey.{NodeKey}
use Rattle.node_keys.specs.Keys.{root_inst, entry_key}
use Rattle.local_rules.specs.declared.local.Node.{Node}
use Rattle.local_laws.specs.Laws.{HasKey}
use Rattle.edge_rules.specs.Families.{IsCovered}
use Rattle.edge_rules.specs.Views.{key_of, state_of}
use Rattle.certificate.specs.Valid.{reset_node}

-- ---- what is kept

pub reset_has : (A : List Entry) (nodes : List Node) → IsCovered nodes (reset_node A) → HasKey nodes (entry_key root_inst)
reset_has A nodes c = (record { key = entry_key root_inst; state = c.state }, (c.present, refl))

-- ---- keys that are read

pub key_there : (nodes : List Node) (at : ℕ) (k : NodeKey) → option_map key_of (slice_get nodes at) ≡ Some k → (n : Node) × ((slice_get nodes at ≡ Some n) × (n.key ≡ k))
key_there nodes at k e = by (slice_get nodes at) refl e
  where
    by : (o : Option Node) → slice_get nodes at ≡ o → option_map key_of o ≡ Some k → (n : Node) × ((slice_get nodes at ≡ Some n) × (n.key ≡ k))
    by None is h = absurd (none-some k h)
    by (Some n) is h = (n, (is, same_Some n.key k h))

pub node_at : (nodes : List Node) (at : ℕ) (n : Node) (k : NodeKey) → slice_get nodes at ≡ Some n → option_map key_of (slice_get nodes at) ≡ Some k → n.key ≡ k
node_at nodes at n k is e = same_Some n.key k (sym (ap (option_map key_of) is) ∙ e)

-- a node from its key and its state
pub node_is : (nodes : List Node) (at : ℕ) (n : Node) → slice_get nodes at ≡ Some n → (k : NodeKey) (s t : AbsState) → option_map key_of (slice_get nodes at) ≡ Some k
    → option_map state_of (slice_get nodes at) ≡ Some s → t ≡ s → record { key = k; state = t } ≡ n
node_is nodes at n is k s t key state same =
    let a : k ≡ n.key = sym (node_at nodes at n k is key) in
    let b : t ≡ n.state = same ∙ sym (same_Some n.state s (sym (ap (option_map state_of) is) ∙ state)) in
    λ i. record { key = a i; state = b i }

-- an item read by number
pub read_at : {X : Type 0} (xs : List X) (i : ℕ) (x d : X) → i < length xs → get_or xs i d ≡ x → slice_get xs i ≡ Some x
read_at xs i x d lt e = slice_get-get_or xs i d lt ∙ ap (λ y. Some y) e

pub read_list : {X : Type 0} (xss : List (List X)) (i : ℕ) (x : List X) → i < length xss → x ≡ get_or xss i x → x ≡ get_or xss i []
read_list [] i x lt is = absurd (omega (arith, lt))
read_list (xs ∷ xss) zero x lt is = is
read_list (xs ∷ xss) (suc i) x lt is = read_list xss i x (omega (arith, lt)) is
