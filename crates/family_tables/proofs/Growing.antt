-- Growing lists of nodes that are given by states or by earlier nodes.
use Rattle.std.proofs.Common.{◌≡◌, refl, sym, ap, subst, ℕ, suc, ◌^◌, ◌<◌, ◌≤◌, ⊎_elim, [], ◌∷◌, ◌++◌, true, false, List, length, map, Some, None, slice_get, length-append, arith}
use Rattle.std.specs.List.{AllByRecursion}
use Rattle.std.specs.List.Sorted.{IsStrictlySortedBy}
use Rattle.std.specs.declared.cmp.Ordering.TheVariants.{Less}
use Rattle.std.proofs.lemmas.Option.{none-some}
use Rattle.avr_model.specs.declared.assumption.Entry.{Entry}
use Rattle.avr_model.specs.Assumptions.{has_pairs}
use Rattle.avr_model.specs.declared.device.Device.{Device}
use Rattle.avr_model.specs.Devices.{limit_of, depth_of}
use Rattle.avr_model.specs.Vectors.{enable_count}
use Rattle.abs_state.specs.declared.state.AbsState.{AbsState}
use Rattle.abs_state.specs.Values.{root}
use Rattle.abs_state.specs.Frames.{entered}
use Rattle.abs_state.specs.Formed.{IsFormed, IsUntagged, TagsFit}
use Rattle.abs_state.specs.Hulls.{IsInHulls}
use Rattle.abs_state.specs.Banks.{IsStateOf}
use Rattle.pair_domain.specs.Facts.{is_followed}
use Rattle.sp_domain.specs.Tags.{HasByteNumbers}
use Rattle.abs_state.proofs.AllLaws.{reset_stands, entries_are_true, tags_stay_fit, states_are_of}
use Rattle.node_keys.specs.declared.keys.Kind.{Kind}
use Rattle.node_keys.specs.declared.keys.Kind.TheVariants.{Root, Call, Vector}
use Rattle.node_keys.specs.declared.keys.NodeKey.{NodeKey}
use Rattle.node_keys.specs.declared.keys.SpForm.TheVariants.{Closed}
use Rattle.node_keys.specs.Keys.{offset_of, is_root, PickFits}
use Rattle.node_keys.specs.Order.{node_cmp}
use Rattle.local_rules.specs.Cover.{FormFitsKind, IsNode}
use Rattle.edge_rules.specs.declared.seeded.NodeForm.{NodeForm}
use Rattle.edge_rules.specs.declared.seeded.NodeForm.TheVariants.{State, From}
use Rattle.edge_rules.specs.Expansion.{Seeds, AreSeeds}
use Rattle.edge_laws.specs.Expansions.{AreSeedsAscending}
use Rattle.edge_laws.proofs.ExpansionLaws.{get_push}
use Rattle.family_tables.specs.Seeds.{first_state}

-- what a state needs beside its key's parts, if its stack is empty
record IsFirst (device : Device) (kind : Kind) (s : AbsState) : Type 0 where
  formed : IsFormed s 0
  tags : TagsFit s
  carry_bytes : HasByteNumbers s.flags.carry
  untagged : kind ≡ Root → IsUntagged s
  registers_of : IsStateOf device (is_root kind) s
  mode : is_followed s.facts ≡ false
  hulls : IsInHulls s

entered_first : (device : Device) (kind : Kind) → is_root kind ≡ false → (kind ≡ Root → ⊥) → IsFirst device kind (entered root)
entered_first device kind outside other = record {
  formed = entries_are_true.formed root 0 reset_stands.formed;
  tags = (tags_stay_fit.at_entry root).0;
  carry_bytes = (tags_stay_fit.at_entry root).1;
  untagged = λ e. absurd (other e);
  registers_of = subst (λ b. IsStateOf device b (entered root)) (sym outside) (states_are_of.entered device true root reset_stands.formed.count_registers (states_are_of.root device));
  mode = refl;
  hulls = tt;
}

is_first : (device : Device) (kind : Kind) → IsFirst device kind (first_state kind)
is_first device Root = record {
  formed = reset_stands.formed;
  tags = tags_stay_fit.at_reset;
  carry_bytes = tt;
  untagged = λ e. reset_stands.untagged;
  registers_of = states_are_of.root device;
  mode = refl;
  hulls = tt;
}
is_first device Call = entered_first device Call refl (λ e. cc)
is_first device (Vector v) = entered_first device (Vector v) refl (λ e. cc)

pub first_node : (device : Device) (k : NodeKey) → k.pc < limit_of device → k.masks < 2 ^ enable_count device → k.sp ≡ Closed 0 → k.pick ≡ None → IsNode device k (first_state k.inst.kind)
first_node device k word masks closed unpicked = let s = is_first device k.inst.kind in record {
  word = word;
  small = subst (λ p. offset_of p ≤ depth_of device) (sym closed) (omega arith);
  masks = masks;
  fits = subst (FormFitsKind device k.inst.kind) (sym closed) tt;
  pick = subst PickFits (sym unpicked) tt;
  formed = subst (λ p. IsFormed (first_state k.inst.kind) (offset_of p)) (sym closed) s.formed;
  tags = s.tags;
  carry_bytes = s.carry_bytes;
  untagged = s.untagged;
  registers_of = s.registers_of;
  mode = s.mode;
  hulls = s.hulls;
}

module _ (device : Device) (xs : Seeds) (k : NodeKey) (f : NodeForm) where
  pushed_seeds : AreSeeds device false xs → length xs < 65536 → ((s : AbsState) → f ≡ State s → IsNode device k s) → ((m : ℕ) → f ≡ From m → m < length xs)
      → AreSeeds device false (xs ++ (k, f) ∷ [])
  pushed_seeds seeds few own below = record {
    few = omega (arith, length-append xs ((k, f) ∷ []), few);
    own = λ at j s e. ⊎_elim (λ h. seeds.own at j s h)
        (λ last. subst (λ x. IsNode device x s) (sym (ap (λ (x : NodeKey × NodeForm). x.0) last.1)) (own s (sym (ap (λ (x : NodeKey × NodeForm). x.1) last.1))))
        (get_push xs (k, f) (j, State s) at e);
    earlier = λ at m j e. ⊎_elim (λ h. seeds.earlier at m j h)
        (λ last. subst (λ n. m < n) (sym last.0) (below m (sym (ap (λ (x : NodeKey × NodeForm). x.1) last.1))))
        (get_push xs (k, f) (j, From m) at e);
  }

all_push : (P : NodeKey → Type 0) (xs : Seeds) (k : NodeKey) (f : NodeForm) → AllByRecursion P (map (λ (e : NodeKey × NodeForm). e.0) xs) → P k
    → AllByRecursion P (map (λ (e : NodeKey × NodeForm). e.0) (xs ++ (k, f) ∷ []))
all_push P [] k f h p = (p, tt)
all_push P (x ∷ xs) k f h p = (h.0, all_push P xs k f h.1 p)

pub pushed_ascending : (xs : Seeds) (k : NodeKey) (f : NodeForm) → AreSeedsAscending xs
    → ((at : ℕ) (e : NodeKey × NodeForm) → slice_get xs at ≡ Some e → node_cmp e.0 k ≡ Less) → AreSeedsAscending (xs ++ (k, f) ∷ [])
unfolding IsStrictlySortedBy
pushed_ascending [] k f h above = (tt, tt)
pushed_ascending (x ∷ xs) k f h above =
    (all_push (λ y. node_cmp x.0 y ≡ Less) xs k f h.0 (above 0 x refl), pushed_ascending xs k f h.1 (λ at e g. above (suc at) e g))

state_is : (s t : AbsState) → State s ≡ State t → s ≡ t
state_is s t e = cc

from_is : (m n : ℕ) → From m ≡ From n → m ≡ n
from_is m n e = cc

pub with_first : (device : Device) (xs : Seeds) (k : NodeKey) → AreSeeds device false xs → length xs < 65536 → k.pc < limit_of device → k.masks < 2 ^ enable_count device → k.sp ≡ Closed 0 → k.pick ≡ None
    → AreSeeds device false (xs ++ (k, State (first_state k.inst.kind)) ∷ [])
with_first device xs k seeds few word masks closed unpicked =
    pushed_seeds device xs k (State (first_state k.inst.kind)) seeds few (λ s e. subst (IsNode device k) (state_is (first_state k.inst.kind) s e) (first_node device k word masks closed unpicked)) (λ m e. absurd (cc))

pub with_from : (device : Device) (xs : Seeds) (k : NodeKey) (m : ℕ) → AreSeeds device false xs → length xs < 65536 → m < length xs → AreSeeds device false (xs ++ (k, From m) ∷ [])
with_from device xs k m seeds few lt =
    pushed_seeds device xs k (From m) seeds few (λ s e. absurd (cc)) (λ n e. subst (λ x. x < length xs) (from_is m n e) lt)

no_seeds : (device : Device) → AreSeeds device false []
no_seeds device = record { few = omega arith; own = λ at k s e. absurd (none-some (k, State s) e); earlier = λ at m k e. absurd (none-some (k, From m) e) }

pub none_given : (device : Device) → AreSeeds device false [] × AreSeedsAscending []
unfolding IsStrictlySortedBy
none_given device = (no_seeds device, tt)

-- without an assumption pairs aren't followed
seeds_of_none : (device : Device) (xs : Seeds) → AreSeeds device false xs → AreSeeds device (has_pairs []) xs
unfolding has_pairs
seeds_of_none device xs seeds = seeds

pub seeds_under : (device : Device) (A : List Entry) (xs : Seeds) → A ≡ [] → AreSeeds device false xs → AreSeeds device (has_pairs A) xs
seeds_under device A xs is seeds = subst (λ (B : List Entry). AreSeeds device (has_pairs B) xs) (sym is) (seeds_of_none device xs seeds)
