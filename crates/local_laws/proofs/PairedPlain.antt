-- The states after plain rows meet the premises of the laws of refined states: their facts are those that aren't ended, and their values
-- are above the refined ones.
use Rattle.std.proofs.Common.{◌≡◌, refl, sym, subst, ap, ◌∙◌, ℕ, ◌+◌, ◌*◌, ◌<◌, Bool, true, false, not, List, [], length, Option, Some, None, if◌then◌else◌, slice_set, length-set, eq-eqb, Contains, arith}
use Rattle.basics.specs.Items.{none_in}
use Rattle.avr_model.specs.declared.device.Device.{Device}
use Rattle.avr_model.specs.declared.instruction.Instr.{Instr}
use Rattle.avr_model.specs.declared.instruction.Instr.TheVariants as i
use Rattle.avr_model.specs.declared.instruction.BinaryOp.{BinaryOp}
use Rattle.avr_model.specs.declared.instruction.BinaryOp.TheVariants as binary
use Rattle.avr_model.specs.Assumptions.{is_frame}
use Rattle.avr_model.specs.Devices.{Image}
use Rattle.avr_model.specs.State.{RAMPZ, REGISTERS}
use Rattle.sp_domain.specs.declared.tags.Tag.TheVariants as tag
use Rattle.bit_domain.specs.declared.bits.Tri.{Tri}
use Rattle.bit_domain.specs.declared.bits.Tri.TheVariants.{Zero}
use Rattle.bit_domain.specs.TriByte.{tri_at, byte_constant}
use Rattle.pair_domain.specs.declared.facts.PairFacts.{PairFacts}
use Rattle.pair_domain.specs.PairSets.{PairSet}
use Rattle.abs_state.specs.declared.values.AbsByte.{AbsByte}
use Rattle.abs_state.specs.declared.values.AbsFlags.{AbsFlags}
use Rattle.abs_state.specs.declared.state.AbsState.{AbsState}
use Rattle.abs_state.specs.Values.{value_at, unknown}
use Rattle.abs_state.specs.Order.{IsByteWithin}
use Rattle.pair_rules.specs.Fits.{HasRegisters, flash_at, CoversFlash, CoversExtended, CoversDoubled, CoversTold, IsPlain}
use Rattle.pair_rules.specs.Flash.{flash_known, is_flash}
use Rattle.pair_rules.specs.Values.{doubled_value, z_of}
use Rattle.pair_laws.proofs.AllLaws.{values_are_covered}
use Rattle.node_keys.specs.declared.keys.NodeKey.{NodeKey}
use Rattle.local_rules.specs.declared.computed.Computed.{Computed}
use Rattle.local_rules.specs.declared.local.Node.{Node}
use Rattle.local_rules.specs.Raw.{Raw, one}
use Rattle.local_rules.specs.HighBytes.{SpView, view_by}
use Rattle.local_rules.specs.Registers.{both_set, before, going_by, pair_moved}
use Rattle.local_rules.specs.FrameLines.{is_followed}
use Rattle.local_rules.specs.Reads.{flash_value, word_of, pair_constant}
use Rattle.local_rules.specs.Local.{extended_moved, row_of, plain_row}
use Rattle.local_rules.specs.Banks.{extended_of, extended_constant}
use Rattle.local_rules.specs.Settling.{settled_state}
use Rattle.local_laws.proofs.LeftNodes.{from_left}
use Rattle.local_laws.proofs.Members.{each_of}
use Rattle.local_laws.proofs.MonotoneValues.{set_same}
use Rattle.local_laws.proofs.PlainRows.{IsRefinedInstr, row_leaves}
use Rattle.local_laws.proofs.SettledValues.{IsSettled, is_settled, settled_above}
use Rattle.local_rules.specs.Site.{Task, site_at}

only_one : (P : Node → Type 0) (k : NodeKey) (s : AbsState) → P (record { key = k; state = s }) → (to : Node) → Contains (one k s).moves to → P to
only_one P k s h = each_of P (record { key = k; state = s }) [] h (λ n i. absurd (none_in n i))

-- ---- a byte of flash

flash_covers : (image : Image) (p : PairSet) (a b : Option ℕ) → byte_constant p.low.bits ≡ a → byte_constant p.high.bits ≡ b → CoversFlash image 0 p (flash_value image (word_of a b))
flash_covers image p None b lo hi = values_are_covered.unknown image 0 p
flash_covers image p (Some x) None lo hi = values_are_covered.unknown image 0 p
flash_covers image p (Some x) (Some y) lo hi =
    let is : 0 + (x + 256 * y) ≡ x + 256 * y = omega arith in
    subst (λ (z : ℕ). CoversFlash image 0 p (flash_at image z)) is (values_are_covered.constant image 0 p x y lo hi)

-- behind a known bank
bank_covers : (image : Image) (bank : ℕ) (p : PairSet) (a b : Option ℕ) → byte_constant p.low.bits ≡ a → byte_constant p.high.bits ≡ b
    → CoversFlash image (65536 * bank) p (flash_value image (extended_of (Some bank) (word_of a b)))
bank_covers image bank p None b lo hi = values_are_covered.unknown image (65536 * bank) p
bank_covers image bank p (Some x) None lo hi = values_are_covered.unknown image (65536 * bank) p
bank_covers image bank p (Some x) (Some y) lo hi = values_are_covered.constant image (65536 * bank) p x y lo hi

-- ---- settling keeps what is above

flash_untagged : (image : Image) (z : ℕ) → (flash_at image z).tag ≡ tag.None
flash_untagged image z = by (is_flash image z)
  where
    by : (inside : Bool) → (if inside then flash_known image z else unknown).tag ≡ tag.None
    by true = refl
    by false = refl

module _ (view : SpView) (image : Image) (s t u : AbsState) (h : IsSettled view t u) where
  doubled_settled : (op : BinaryOp) (d : ℕ) → CoversDoubled s op d (value_at t.registers d) → CoversDoubled s op d (value_at u.registers d)
  doubled_settled binary.Add d le = settled_above view t u d (doubled_value s d Zero) h refl le
  doubled_settled binary.Adc d le = settled_above view t u d (doubled_value s d (tri_at s.flags.bits 0)) h refl le
  doubled_settled binary.Cpc d le = tt
  doubled_settled binary.Sbc d le = tt
  doubled_settled binary.Cpse d le = tt
  doubled_settled binary.Cp d le = tt
  doubled_settled binary.Sub d le = tt
  doubled_settled binary.And d le = tt
  doubled_settled binary.Eor d le = tt
  doubled_settled binary.Or d le = tt
  doubled_settled binary.Mov d le = tt
  doubled_settled binary.Mul d le = tt

  flash_settled : (from : ℕ) (p : PairSet) (d : ℕ) → CoversFlash image from p (value_at t.registers d) → CoversFlash image from p (value_at u.registers d)
  flash_settled from p d covers z lt permits = settled_above view t u d (flash_at image (from + z)) h (flash_untagged image (from + z)) (covers z lt permits)

  told_settled : (instr : Instr) → CoversTold image s instr t → CoversTold image s instr u
  told_settled (i.Binary op d r) told = λ same. doubled_settled op d (told same)
  told_settled (i.LpmZ d) told = λ f. flash_settled 0 (z_of s f) d (told f)
  told_settled (i.LpmZPlus d) told = λ f. flash_settled 0 (z_of s f) d (told f)
  told_settled i.Lpm told = λ f. flash_settled 0 (z_of s f) 0 (told f)
  told_settled (i.ElpmZ d) told = λ f bank is. flash_settled (65536 * bank) (z_of s f) d (told f bank is)
  told_settled (i.ElpmZPlus d) told = λ f bank is. flash_settled (65536 * bank) (z_of s f) d (told f bank is)
  told_settled i.Elpm told = λ f bank is. flash_settled (65536 * bank) (z_of s f) 0 (told f bank is)
  told_settled instr told = tt

-- ---- a register and itself

not_followed : (line : Bool) (d : ℕ) → is_followed line d d ≡ false
not_followed true d = ap not (eq-eqb d d refl)
not_followed false d = refl

module _ (device : Device) (task : Task) (scratch : Bool) (k : NodeKey) (s : AbsState) (count : length s.registers ≡ REGISTERS) where
  -- the row before high bytes are settled
  abbrev unsettled : Instr → Raw
  unsettled instr = row_of task scratch (site_at device k (before instr s)) instr

  row_doubled : (op : BinaryOp) (d : ℕ) (low : Tri) (framed : Bool) (c : Option Computed) (v : AbsByte) (flags : AbsFlags) (other : Raw) → d < 32 → framed ≡ false
      → IsByteWithin (doubled_value s d low) v → (to : Node)
      → Contains (going_by (site_at device k (before (i.Binary op d d) s)) (if framed then c else Some (both_set (slice_set s.registers d v) flags)) other).moves to
      → IsByteWithin (doubled_value s d low) (value_at to.state.registers d)
  row_doubled op d low true c v flags other lt unframed h to member = absurd (cc)
  row_doubled op d low false c v flags other lt unframed h to member =
      only_one (λ (n : Node). IsByteWithin (doubled_value s d low) (value_at n.state.registers d)) _ _
      (subst (IsByteWithin (doubled_value s d low)) (sym (set_same s.registers d d v refl (omega (arith, lt, count)))) h) to member

  same_doubled : (op : BinaryOp) (d : ℕ) → d < 32 → (to : Node) → Contains (unsettled (i.Binary op d d)).moves to → CoversDoubled s op d (value_at to.state.registers d)
  same_doubled binary.Add d lt to i =
      row_doubled binary.Add d Zero (is_followed (is_frame task.assumptions k.pc) d d) _ _ _ _ lt (not_followed (is_frame task.assumptions k.pc) d) (values_are_covered.doubled (value_at s.registers d).bits s.flags.bits Zero) to i
  same_doubled binary.Adc d lt to i =
      row_doubled binary.Adc d (tri_at s.flags.bits 0) (is_followed (is_frame task.assumptions k.pc) d d) _ _ _ _ lt (not_followed (is_frame task.assumptions k.pc) d)
      (values_are_covered.doubled (value_at s.registers d).bits s.flags.bits (tri_at s.flags.bits 0)) to i
  same_doubled binary.Cpc d lt to i = tt
  same_doubled binary.Sbc d lt to i = tt
  same_doubled binary.Cpse d lt to i = tt
  same_doubled binary.Cp d lt to i = tt
  same_doubled binary.Sub d lt to i = tt
  same_doubled binary.And d lt to i = tt
  same_doubled binary.Eor d lt to i = tt
  same_doubled binary.Or d lt to i = tt
  same_doubled binary.Mov d lt to i = tt
  same_doubled binary.Mul d lt to i = tt

  abbrev Z : Option ℕ
  Z = pair_constant s 30

  flash_set : (registers : List AbsByte) (d : ℕ) → d < length registers → (f : PairFacts) → CoversFlash task.flash 0 (z_of s f) (value_at (slice_set registers d (flash_value task.flash Z)) d)
  flash_set registers d lt f =
      subst (CoversFlash task.flash 0 (z_of s f)) (sym (set_same registers d d (flash_value task.flash Z) refl lt))
      (flash_covers task.flash (z_of s f) (byte_constant (value_at s.registers 30).bits) (byte_constant (value_at s.registers 31).bits) refl refl)

  abbrev far : AbsByte
  far = flash_value task.flash (extended_constant s)

  far_set : (registers : List AbsByte) (d : ℕ) → d < length registers → (f : PairFacts) → CoversExtended task.flash s (z_of s f) (value_at (slice_set registers d far) d)
  far_set registers d lt f bank is =
      subst (CoversFlash task.flash (65536 * bank) (z_of s f)) (sym (set_same registers d d far refl lt))
      (subst (λ (x : Option ℕ). CoversFlash task.flash (65536 * bank) (z_of s f) (flash_value task.flash (extended_of x Z))) (sym is)
      (bank_covers task.flash bank (z_of s f) (byte_constant (value_at s.registers 30).bits) (byte_constant (value_at s.registers 31).bits) refl refl))

  -- ---- the row

  told_covered : (instr : Instr) → IsRefinedInstr instr → HasRegisters instr → (to : Node) → Contains (unsettled instr).moves to → CoversTold task.flash s instr to.state
  told_covered (i.Binary op d r) is has to member = λ same.
      subst (λ (x : ℕ). Contains (unsettled (i.Binary op d x)).moves to → CoversDoubled s op d (value_at to.state.registers d)) same (same_doubled op d has.0 to) member
  told_covered (i.LpmZ d) is has to member = only_one (λ (n : Node). (f : PairFacts) → CoversFlash task.flash 0 (z_of s f) (value_at n.state.registers d)) _ _ (flash_set s.registers d (omega (arith, has, count))) to member
  told_covered (i.LpmZPlus d) is has to member =
      only_one (λ (n : Node). (f : PairFacts) → CoversFlash task.flash 0 (z_of s f) (value_at n.state.registers d)) _ _
      (flash_set (pair_moved (view_by device k) s 30 true 1) d (omega (arith, has, count, moved_count))) to member
    where
      moved_count : length (pair_moved (view_by device k) s 30 true 1) ≡ length s.registers
      moved_count = length-set _ 31 _ ∙ length-set s.registers 30 _
  told_covered i.Lpm is has to member = only_one (λ (n : Node). (f : PairFacts) → CoversFlash task.flash 0 (z_of s f) (value_at n.state.registers 0)) _ _ (flash_set s.registers 0 (omega (arith, count))) to member
  told_covered (i.ElpmZ d) is has to member = only_one (λ (n : Node). (f : PairFacts) → CoversExtended task.flash s (z_of s f) (value_at n.state.registers d)) _ _ (far_set s.registers d (omega (arith, has, count))) to member
  told_covered (i.ElpmZPlus d) is has to member =
      only_one (λ (n : Node). (f : PairFacts) → CoversExtended task.flash s (z_of s f) (value_at n.state.registers d)) _ _
      (far_set (extended_moved (site_at device k s)) d (omega (arith, has, count, moved_count))) to member
    where
      moved_count : length (extended_moved (site_at device k s)) ≡ length s.registers
      moved_count = length-set _ RAMPZ _ ∙ length-set _ 31 _ ∙ length-set s.registers 30 _
  told_covered i.Elpm is has to member = only_one (λ (n : Node). (f : PairFacts) → CoversExtended task.flash s (z_of s f) (value_at n.state.registers 0)) _ _ (far_set s.registers 0 (omega (arith, count))) to member
  told_covered instr is has to member = tt

  pub row_plain : (instr : Instr) → IsRefinedInstr instr → HasRegisters instr → (to : Node) → Contains (plain_row task scratch (site_at device k s) instr).moves to → IsPlain task.flash instr s to.state
  row_plain instr is has to member =
      let of = from_left (settled_state (view_by device k)) (unsettled instr).moves to member in
      let settled = is_settled (view_by device k) of.to.state to.state of.left in
      record {
        facts = settled.facts ∙ (row_leaves device task scratch k (before instr s) instr is of.to of.member).facts;
        value = told_settled (view_by device k) task.flash s of.to.state to.state settled instr (told_covered instr is has of.to of.member);
      }
