-- What the device says of the plain state it says of the refined one: values are refined in r0 to r31, and have no tag.
use Rattle.std.proofs.Common.{◌≡◌, refl, sym, ◌∙◌, ap, subst, ℕ, ◌*◌, ◌<◌, ◌≤◌, ◌==◌, if◌then◌else◌, Bool, true, false, List, length, Option, Some, None, arith}
use Rattle.std.proofs.lemmas.Grind.{elements}
use Rattle.std.proofs.lemmas.Option.{same_Some}
use Rattle.avr_model.specs.declared.device.Device.{Device}
use Rattle.avr_model.specs.declared.instruction.Instr.{Instr}
use Rattle.avr_model.specs.declared.instruction.Instr.TheVariants as i
use Rattle.avr_model.specs.declared.instruction.BinaryOp.{BinaryOp}
use Rattle.avr_model.specs.declared.instruction.BinaryOp.TheVariants as binary
use Rattle.avr_model.specs.Devices.{Image}
use Rattle.avr_model.specs.State.{RAMPZ, EIND}
use Rattle.sp_domain.specs.declared.slots.Slot.{Slot}
use Rattle.sp_domain.specs.Slots.{slot_at}
use Rattle.sp_domain.specs.declared.tags.Tag.{Tag}
use Rattle.sp_domain.specs.declared.tags.Tag.TheVariants as tag
use Rattle.pair_domain.specs.declared.facts.PairFacts.{PairFacts}
use Rattle.abs_state.specs.declared.values.AbsByte.{AbsByte}
use Rattle.abs_state.specs.declared.state.AbsState.{AbsState}
use Rattle.abs_state.specs.Values.{value_at}
use Rattle.abs_state.specs.Banks.{IsSlotOf, IsBankIn, IsStateWith}
use Rattle.pair_rules.specs.Flash.{few_in_flash, flash_joined}
use Rattle.pair_rules.specs.Values.{with_value, doubled_by, with_joined, flash_read, rampz_of, extended_read, retold}
use Rattle.pair_rules.specs.Fits.{HasRegisters}
use Rattle.pair_laws.proofs.Retold.{IsRetold, same, sets, value_set}

-- a register behind r31 stays
set_far : (t : AbsState) (d r : ℕ) (v : AbsByte) → d < 32 → 32 ≤ r → value_at (with_value t d v).registers r ≡ value_at t.registers r
set_far t d r v lt far = grind (arith, elements)

module _ (s t a : AbsState) (r : ℕ) (far : 32 ≤ r) where
  abbrev Stays : AbsState → Type 0
  Stays b = value_at b.registers r ≡ value_at t.registers r

  by_far : (op : BinaryOp) (d : ℕ) → d < 32 → Stays (doubled_by s op d t)
  by_far binary.Cpc d lt = refl
  by_far binary.Sbc d lt = refl
  by_far binary.Add d lt = set_far t d r _ lt far
  by_far binary.Cpse d lt = refl
  by_far binary.Cp d lt = refl
  by_far binary.Sub d lt = refl
  by_far binary.Adc d lt = set_far t d r _ lt far
  by_far binary.And d lt = refl
  by_far binary.Eor d lt = refl
  by_far binary.Or d lt = refl
  by_far binary.Mov d lt = refl
  by_far binary.Mul d lt = refl

  binary_far : (op : BinaryOp) (d q : ℕ) → d < 32 → Some (if d == q then doubled_by s op d t else t) ≡ Some a → Stays a
  binary_far op d q lt e = by (d == q) (same_Some (if d == q then doubled_by s op d t else t) a e)
    where
      by : (b : Bool) → (if b then doubled_by s op d t else t) ≡ a → Stays a
      by true is = subst Stays is (by_far op d lt)
      by false is = subst Stays is refl

  joined_far : (d : ℕ) (o : Option AbsByte) → d < 32 → with_joined t d o ≡ Some a → Stays a
  joined_far d None lt e = absurd (cc)
  joined_far d (Some v) lt e = subst Stays (same_Some (with_value t d v) a e) (set_far t d r v lt far)

  flash_far : (image : Image) (from d : ℕ) (permits : ℕ → Bool) → d < 32 → flash_read image from t d permits ≡ Some a → Stays a
  flash_far image from d permits lt e = by (few_in_flash image from permits) e
    where
      by : (few : Bool) → (if few then with_joined t d (flash_joined image from permits) else Some t) ≡ Some a → Stays a
      by true is = joined_far d (flash_joined image from permits) lt is
      by false is = subst Stays (same_Some t a is) refl

  extended_far : (image : Image) (bank : Option ℕ) (d : ℕ) (permits : ℕ → Bool) → d < 32 → extended_read image bank t d permits ≡ Some a → Stays a
  extended_far image None d permits lt e = subst Stays (same_Some t a e) refl
  extended_far image (Some b) d permits lt e = flash_far image (65536 * b) d permits lt e

  retold_far : (image : Image) (f : PairFacts) (instr : Instr) → HasRegisters instr → retold image s f instr t ≡ Some a → Stays a
  retold_far image f (i.Binary op d q) fit e = binary_far op d q fit.0 e
  retold_far image f (i.LpmZ d) fit e = flash_far image 0 d _ fit e
  retold_far image f (i.LpmZPlus d) fit e = flash_far image 0 d _ fit e
  retold_far image f i.Lpm fit e = flash_far image 0 0 _ (omega arith) e
  retold_far image f (i.ElpmZ d) fit e = extended_far image (rampz_of s) d _ fit e
  retold_far image f (i.ElpmZPlus d) fit e = extended_far image (rampz_of s) d _ fit e
  retold_far image f i.Elpm fit e = extended_far image (rampz_of s) 0 _ (omega arith) e
  retold_far image f _ fit e = subst Stays (same_Some t a e) refl

module _ (good : Tag → Bool) (none : good tag.None ≡ true) (device : Device) (is_root : Bool) (t : AbsState) (of : IsStateWith good device is_root t) where
  -- r0 to r31 have good tags
  abbrev AreGood : AbsState → Type 0
  AreGood a = (r : ℕ) → r < 34 → r < 32 → good (value_at a.registers r).tag ≡ true

  tags_good : (a : AbsState) → IsRetold t a → AreGood a
  tags_good a (same is) = subst AreGood (sym is) (λ r lt low. of.registers r low)
  tags_good a (sets d v is fits untagged) =
      subst AreGood (sym is) (value_set (λ r w. r < 32 → good w.tag ≡ true) t.registers d v (λ low. ap good untagged ∙ none) (λ r lt low. of.registers r low))

  pub retold_of : (s a : AbsState) (image : Image) (f : PairFacts) (instr : Instr) → HasRegisters instr → retold image s f instr t ≡ Some a → IsRetold t a → a.slots ≡ t.slots
      → IsStateWith good device is_root a
  retold_of s a image f instr fit e was slots = record {
    registers = λ r low. tags_good a was r (omega (arith, low)) low;
    slots = subst (λ (ss : List (Slot AbsByte)). (d : ℕ) → d < length ss → IsSlotOf good (slot_at ss d)) (sym slots) of.slots;
    rampz = subst (IsBankIn good device is_root RAMPZ) (sym (retold_far s t a RAMPZ (omega arith) image f instr fit e)) of.rampz;
    eind = subst (IsBankIn good device is_root EIND) (sym (retold_far s t a EIND (omega arith) image f instr fit e)) of.eind;
  }
