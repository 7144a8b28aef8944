-- A call that is flagged for its depth enters a word that the node calls, and that has a `recur` line.
use Rattle.std.proofs.Common.{◌≡◌, refl, sym, ap, ◌∙◌, subst, ℕ, ◌<◌, Bool, true, false, not, if◌then◌else◌, List, [], ◌∷◌, Option, Some, None, ⊎_elim, Contains, ◌+◌, ◌*◌, arith}
use Rattle.std.specs.List.{list_any}
use Rattle.std.proofs.lemmas.Bool.{not-true, or_left, or_right}
use Rattle.basics.specs.Items.{none_in, first_or_further}
use Rattle.bit_domain.proofs.AllLaws.{bytes_are_sets}
use Rattle.avr_model.specs.declared.device.Device.{Device}
use Rattle.avr_model.specs.declared.instruction.Instr.{Instr}
use Rattle.avr_model.specs.declared.instruction.Instr.TheVariants as i
use Rattle.avr_model.specs.Assumptions.{jump_line, recur_line}
use Rattle.avr_model.specs.Devices.{has_sph, wrapped, device_of}
use Rattle.avr_model.specs.Sites.{is_scratch}
use Rattle.avr_model.specs.State.{State, EIND, fall, register, pair}
use Rattle.avr_model.specs.Effects.{extended_word}
use Rattle.avr_model.specs.Step.{unless_listed, unlisted_transfer, is_call, unless_within, deep_call}
use Rattle.avr_model.specs.Text.{far}
use Rattle.bit_domain.specs.declared.bytes.TriByte.{TriByte}
use Rattle.bit_domain.specs.TriByte.{Has, byte_known}
use Rattle.bit_domain.specs.Numbers.{PointerBits}
use Rattle.abs_state.specs.declared.state.AbsState.{AbsState}
use Rattle.node_keys.specs.declared.keys.NodeKey.{NodeKey}
use Rattle.sp_domain.specs.Tags.{Origin}
use Rattle.local_rules.specs.Raw.{fails, untracked_if}
use Rattle.local_rules.specs.declared.local.NodeFault.{NodeFault}
use Rattle.local_rules.specs.Registers.{bits, before}
use Rattle.local_rules.specs.Flow.{is_half_written, words_on, z_with, targets_by, targets_at, far_targets_at, indirect_call}
use Rattle.local_rules.specs.Cover.{InFrameIn, effect_by}
use Rattle.local_rules.specs.Site.{Task, site_at}
use Rattle.local_laws.proofs.AllLaws.{bare_frame, register_stands}
use Rattle.local_laws.proofs.Targets.{word_permitted, targets_have}
use Rattle.clear_laws.specs.Clear.{has_depth, or_none, is_cut, calls_cut}
use Rattle.clear_laws.proofs.Rows.{IsPlainRow}

-- ---- members

any_of : (p : ℕ → Bool) (xs : List ℕ) (x : ℕ) → Contains xs x → p x ≡ true → list_any p xs ≡ true
any_of p [] x h passes = absurd (none_in x h)
any_of p (y ∷ xs) x h passes =
    ⊎_elim (λ e. or_left (p y) (list_any p xs) (ap p (sym e) ∙ passes)) (λ more. or_right (p y) (list_any p xs) (any_of p xs x more passes))
    (first_or_further y x xs h)

-- ---- the depth

deep_is : (b : Bool) (most : Option ℕ) (depth target x : ℕ) → (if b then unless_within most depth target else None) ≡ Some x
    → (b ≡ true) × (has_depth most ≡ true)
deep_is false most depth target x e = absurd (cc)
deep_is true None depth target x e = absurd (cc)
deep_is true (Some most) depth target x e = (refl, refl)

no_call : (b : Bool) (most : Option ℕ) (depth target x : ℕ) → b ≡ false → (if b then unless_within most depth target else None) ≡ Some x → ⊥
no_call true most depth target x other e = absurd (cc)
no_call false most depth target x other e = cc

-- ---- an indirect call

unresolved : (b : Bool) (pc : ℕ) (f : NodeFault) → (untracked_if b pc (fails f)).faults ≡ [] → ⊥
unresolved true pc f h = cc
unresolved false pc f h = cc

has_targets : (device : Device) (k : NodeKey) (found : Option (List ℕ)) → (indirect_call device found k).faults ≡ [] → (targets : List ℕ) × (found ≡ Some targets)
has_targets device k None h = absurd (unresolved (is_half_written k.sp) k.pc _ h)
has_targets device k (Some targets) h = (targets, refl)

module _ {followed may : Bool} (task : Task) (m : State) (o : Origin) (k : NodeKey) (s : AbsState) (at : InFrameIn followed may m o k s)
    (sees : has_sph m.device ≡ false → may ≡ true) (b1 b2 : ℕ) (device : m.device ≡ device_of task.flash) where
  z_has : (r : ℕ) → Has (bits s r) (register m r)
  z_has r = (register_stands m o k s (bare_frame m o k s sees at) r).bits

  abbrev cut : ℕ → Bool
  cut word = is_cut task.assumptions word

  -- an indirect call with this third byte goes to one of the words that the node's bits permit
  module _ (bank : TriByte) (third word : ℕ) (third_has : Has bank third) (same : third * 65536 + pair m 30 ≡ word) where
    -- what the node's bits permit
    abbrev z_bits : PointerBits
    z_bits = z_with s bank

    z_permitted : register m 30 < 256 → register m 31 < 256 → Contains (words_on (device_of task.flash) z_bits) (wrapped (device_of task.flash) word)
    z_permitted low high =
        subst (λ (z : ℕ). Contains (words_on (device_of task.flash) z_bits) (wrapped (device_of task.flash) z)) (omega (arith, same))
        (word_permitted (device_of task.flash) z_bits (register m 30) (register m 31) third low high (z_has 30) (z_has 31) third_has)

    indirect_cut : register m 30 < 256 → register m 31 < 256 → (targets : List ℕ) → targets_by (device_of task.flash) (jump_line task.assumptions k.pc) z_bits ≡ Some targets
        → unless_listed (jump_line task.assumptions k.pc) (wrapped (device_of task.flash) word) ≡ None → cut (wrapped (device_of task.flash) word) ≡ true
        → list_any cut (or_none (targets_by (device_of task.flash) (jump_line task.assumptions k.pc) z_bits)) ≡ true
    indirect_cut low high targets found listed deep =
        ap (λ (x : Option (List ℕ)). list_any cut (or_none x)) found
        ∙ any_of cut targets (wrapped (device_of task.flash) word)
        (targets_have (device_of task.flash) (jump_line task.assumptions k.pc) z_bits targets (wrapped (device_of task.flash) word) found (z_permitted low high) listed) deep

  -- ---- each call

  abbrev Deep : Instr → Type 0
  Deep instr = (x : ℕ) → deep_call task.flash task.assumptions m instr (effect_by task m instr b1 b2) ≡ Some x
      → unlisted_transfer task.assumptions m.pc instr (effect_by task m instr b1 b2) ≡ None → register m 30 < 256 → register m 31 < 256 → IsPlainRow task k s instr
      → calls_cut task k s instr ≡ true

  deep_at : (target : ℕ) → has_depth (recur_line task.assumptions (wrapped m.device target)) ≡ true → cut (wrapped (device_of task.flash) target) ≡ true
  deep_at target h = subst (λ (d : Device). cut (wrapped d target) ≡ true) device h

  by_call : (t : ℕ) → Deep (i.Call t)
  unfolding deep_call
  by_call t x e listed low high row =
      let parts = deep_is (not (is_scratch task.flash m.pc)) (recur_line task.assumptions (wrapped m.device t)) (fall m) (wrapped m.device t) x e in
      or_left (cut (wrapped (device_of task.flash) t)) false (deep_at t parts.1)

  by_relative : (t : ℕ) → Deep (i.Rcall t)
  unfolding deep_call
  by_relative t x e listed low high row =
      let parts = deep_is (not (is_scratch task.flash m.pc)) (recur_line task.assumptions (wrapped m.device (far m.pc t))) (fall m) (wrapped m.device (far m.pc t)) x e in
      let plain : is_scratch task.flash k.pc ≡ false = subst (λ p. is_scratch task.flash p ≡ false) at.place.pc (not-true (is_scratch task.flash m.pc) parts.0) in
      ap (λ (b : Bool). list_any cut (if b then [] else wrapped (device_of task.flash) (far k.pc t) ∷ [])) plain
      ∙ or_left (cut (wrapped (device_of task.flash) (far k.pc t))) false
      (subst (λ p. cut (wrapped (device_of task.flash) (far p t)) ≡ true) at.place.pc (deep_at (far m.pc t) parts.1))

  here_listed : (word : ℕ) → unless_listed (jump_line task.assumptions m.pc) (wrapped m.device word) ≡ None
      → unless_listed (jump_line task.assumptions k.pc) (wrapped (device_of task.flash) word) ≡ None
  here_listed word listed =
      subst (λ p. unless_listed (jump_line task.assumptions p) (wrapped (device_of task.flash) word) ≡ None) at.place.pc
      (subst (λ (d : Device). unless_listed (jump_line task.assumptions m.pc) (wrapped d word) ≡ None) device listed)

  by_pointer : Deep i.Icall
  unfolding deep_call unlisted_transfer
  by_pointer x e listed low high row =
      let parts = deep_is (not (is_scratch task.flash m.pc)) (recur_line task.assumptions (wrapped m.device (pair m 30))) (fall m) (wrapped m.device (pair m 30)) x e in
      let found = has_targets (device_of task.flash) k (targets_at task.assumptions (site_at (device_of task.flash) k (before i.Icall s))) row.faultless in
      indirect_cut (byte_known 0) 0 (pair m 30) ((bytes_are_sets.known 0 0 (omega arith) (omega arith)).1 refl) (omega arith) low high found.0 found.1
      (here_listed (pair m 30) listed) (deep_at (pair m 30) parts.1)

  by_far_pointer : Deep i.Eicall
  unfolding deep_call unlisted_transfer
  by_far_pointer x e listed low high row =
      let parts = deep_is (not (is_scratch task.flash m.pc)) (recur_line task.assumptions (wrapped m.device (extended_word m))) (fall m) (wrapped m.device (extended_word m)) x e in
      let found = has_targets (device_of task.flash) k (far_targets_at task.assumptions (site_at (device_of task.flash) k (before i.Eicall s))) row.faultless in
      indirect_cut (bits s EIND) (register m EIND) (extended_word m) (z_has EIND) (omega arith) low high found.0 found.1
      (here_listed (extended_word m) listed) (deep_at (extended_word m) parts.1)

  pub deep_is_cut : (instr : Instr) → (is_call instr ≡ true → IsPlainRow task k s instr) → (x : ℕ)
      → deep_call task.flash task.assumptions m instr (effect_by task m instr b1 b2) ≡ Some x
      → unlisted_transfer task.assumptions m.pc instr (effect_by task m instr b1 b2) ≡ None → register m 30 < 256 → register m 31 < 256 → calls_cut task k s instr ≡ true
  unfolding deep_call
  deep_is_cut (i.Call t) row x e listed low high = by_call t x e listed low high (row refl)
  deep_is_cut (i.Rcall t) row x e listed low high = by_relative t x e listed low high (row refl)
  deep_is_cut i.Icall row x e listed low high = by_pointer x e listed low high (row refl)
  deep_is_cut i.Eicall row x e listed low high = by_far_pointer x e listed low high (row refl)
  deep_is_cut _ row x e listed low high = absurd (cc)
