-- Conditions of nodes, one after the other.
use Rattle.std.proofs.Common.{◌≡◌, refl, sym, ap, ◌∙◌, subst, ℕ, ◌+◌, ◌<◌, ⊎_elim, Bool, List, [], ◌∷◌, ◌++◌, get_or, Some, slice_get, arith}
use Rattle.std.specs.Option.{option_map}
use Rattle.std.proofs.lemmas.Option.{same_Some}
use Rattle.basics.specs.Lists.{one_at, get_or_front, get_or_pushed}
use Rattle.std.proofs.lemmas.List.{length_push}
use Rattle.basics.specs.Numbers.{before_or_last}
use Rattle.avr_model.specs.Sites.{instruction_at}
use Rattle.abs_state.specs.declared.state.AbsState.{AbsState}
use Rattle.node_keys.specs.declared.keys.NodeKey.{NodeKey}
use Rattle.local_rules.specs.declared.local.Node.{Node}
use Rattle.edge_rules.specs.Views.{key_of, state_of}
use Rattle.clear_laws.specs.Clear.{is_clear, is_clear_by}
use Rattle.clear_laws.specs.declared.slots.Condition.{Condition}
use Rattle.clear_laws.specs.declared.slots.Condition.TheVariants.{Always}
use Rattle.clear_laws.specs.Needs.{meets}
use Rattle.store_clear.specs.Conditions.{condition_at, AreConditionsTo}
use Rattle.local_rules.specs.Site.{Task}

module _ (nodes : List Node) (at : ℕ) (n : Node) (is : slice_get nodes at ≡ Some n) where
  -- an item read by the number of a node
  pub key_is : (k : NodeKey) → option_map key_of (slice_get nodes at) ≡ Some k → n.key ≡ k
  key_is k e = same_Some n.key k (sym (ap (option_map key_of) is) ∙ e)

  pub state_is : (s : AbsState) → option_map state_of (slice_get nodes at) ≡ Some s → n.state ≡ s
  state_is s e = same_Some n.state s (sym (ap (option_map state_of) is) ∙ e)

module _ (task : Task) (bound : ℕ) (nodes : List Node) where
  abbrev Asking : Node → Condition → Type 0
  Asking n a = (held : ℕ → Bool) → is_clear task bound n held ≡ meets a held

  pub asked_none : AreConditionsTo task bound nodes 0 []
  asked_none = record { count_is = refl; each = λ at n lt e. absurd (omega (arith, lt)) }

  pub asking_is : (n : Node) (k : NodeKey) (s : AbsState) (a : Condition) → n.key ≡ k → n.state ≡ s
      → ((held : ℕ → Bool) → is_clear_by task bound (record { key = k; state = s }) held (instruction_at task.flash k.pc) ≡ meets a held) → Asking n a
  asking_is n k s a key state told held =
      ap (λ (x : NodeKey). is_clear_by task bound (record { key = x; state = n.state }) held (instruction_at task.flash x.pc)) key
      ∙ (ap (λ (x : AbsState). is_clear_by task bound (record { key = k; state = x }) held (instruction_at task.flash k.pc)) state ∙ told held)

  pub asked_more : (at : ℕ) (conditions : List Condition) (n : Node) (a : Condition) → AreConditionsTo task bound nodes at conditions → slice_get nodes at ≡ Some n → Asking n a
      → AreConditionsTo task bound nodes (at + 1) (conditions ++ a ∷ [])
  asked_more at conditions n a m is told =
      record {
        count_is = length_push conditions a ∙ ap (λ x. x + 1) m.count_is;
        each = λ i x lt e. ⊎_elim (old i x e) (new i x e) (before_or_last i at lt);
      }
    where
      old : (i : ℕ) (x : Node) → slice_get nodes i ≡ Some x → i < at → Asking x (condition_at (conditions ++ a ∷ []) i)
      old i x e lt = subst (Asking x) (sym (get_or_front conditions (a ∷ []) i Always (subst (λ k. i < k) (sym m.count_is) lt))) (m.each i x lt e)

      new : (i : ℕ) (x : Node) → slice_get nodes i ≡ Some x → i ≡ at → Asking x (condition_at (conditions ++ a ∷ []) i)
      new i x e same =
          let one : n ≡ x = one_at nodes at n x is (subst (λ k. slice_get nodes k ≡ Some x) same e) in
          let last : a ≡ condition_at (conditions ++ a ∷ []) i = sym (ap (λ k. get_or (conditions ++ a ∷ []) k Always) (same ∙ sym m.count_is) ∙ get_or_pushed conditions a Always) in
          subst (Asking x) last (subst (λ (y : Node). Asking y a) one told)
