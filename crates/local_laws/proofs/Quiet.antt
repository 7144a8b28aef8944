-- Local parts that neither call nor return.
use Rattle.std.proofs.Common.{◌≡◌, refl, sym, ◌∙◌, subst, ℕ, zero, suc, ◌+◌, ◌==◌, Bool, true, false, List, [], Option, Some, None, if◌then◌else◌, nat_le, Contains}
use Rattle.std.specs.List.Sorted.{IsStrictlySortedBy}
use Rattle.basics.specs.Items.{none_in}
use Rattle.avr_model.specs.Devices.{Image, size_of, back_of}
use Rattle.avr_model.specs.declared.device.Device.{Device}
use Rattle.avr_model.specs.declared.assumption.Entry.{Entry}
use Rattle.avr_model.specs.Assumptions.{is_fixed_site}
use Rattle.avr_model.specs.declared.device.Special.{Special}
use Rattle.avr_model.specs.declared.device.Special.TheVariants.{Spl, Sph, Sreg}
use Rattle.avr_model.specs.State.{register_at, special}
use Rattle.bit_domain.specs.declared.bits.Tri.{Tri}
use Rattle.bit_domain.specs.declared.bits.Tri.TheVariants.{Zero, One, Any}
use Rattle.bit_domain.specs.TriByte.{tri_at}
use Rattle.abs_state.specs.declared.values.AbsByte.{AbsByte}
use Rattle.abs_state.specs.declared.state.AbsState.{AbsState}
use Rattle.vector_table.specs.Entries.{AreEntries}
use Rattle.node_keys.specs.declared.keys.NodeKey.{NodeKey}
use Rattle.node_keys.specs.declared.keys.High.{High}
use Rattle.node_keys.specs.declared.keys.SpForm.{SpForm}
use Rattle.node_keys.specs.declared.keys.SpForm.TheVariants.{Closed, Open}
use Rattle.local_rules.specs.declared.local.CallSite.{CallSite}
use Rattle.local_rules.specs.Raw.{Raw, untracked_if, too_deep_if}
use Rattle.local_rules.specs.Registers.{carry_bit, going_by, interrupts_row, flag_row}
use Rattle.local_rules.specs.declared.computed.Computed.{Computed}
use Rattle.local_rules.specs.Writes.{opening, closing, sreg_written, special_written, written_behind, written_at, fixed_write, may_wake, waking, pointer_write, high_part, closing_offset, flags_written, put_flags}
use Rattle.local_rules.specs.Flow.{branch, branch_by, where_carry, going_where, carry_branch, flag_branch, skipping, jumping, at_closed, pushing, popping, making_room}
use Rattle.local_rules.specs.Local.{loading}
use Rattle.local_laws.specs.Laws.{LeadsToWords, AscendByEntry}
use Rattle.local_rules.specs.Site.{Task, site_at}
use Rattle.local_rules.specs.Writes.{write_at}
use Rattle.node_keys.specs.Wakes.{widened}
use Rattle.local_rules.specs.Raw.{off_table}
use Rattle.local_rules.specs.HighBytes.{view_by}
use Rattle.local_rules.specs.Reads.{pointed}

abbrev pub Quiet : Raw → Type 0
Quiet r = (r.calls ≡ []) × (r.exit ≡ None)

-- the law for one node
pub record IsFit (device : Device) (A : List Entry) (k : NodeKey) (r : Raw) : Type 0 where
  pub words : LeadsToWords device k r
  pub ascending : AreEntries A → AscendByEntry r.calls

pub none_ascend : AscendByEntry []
unfolding IsStrictlySortedBy
none_ascend = tt

pub quiet_fits : {device : Device} (A : List Entry) (k : NodeKey) (r : Raw) → Quiet r → IsFit device A k r
quiet_fits A k r q = record {
  words = record {
    calls = λ site i. absurd (none_in site (subst (λ (l : List CallSite). Contains l site) q.0 i));
    exit = λ x e. absurd (let no : None ≡ Some x = sym q.1 ∙ e in cc);
  };
  ascending = λ are. subst AscendByEntry (sym q.0) none_ascend;
}

pub if_quiet : (b : Bool) (p q : Raw) → Quiet p → Quiet q → Quiet (if b then p else q)
if_quiet true p q h k = h
if_quiet false p q h k = k

ways_quiet : (j k : NodeKey) (s : AbsState) (t : Tri) (taken other : ℕ) → Quiet (branch_by t (off_table j taken) (off_table k other) s)
ways_quiet j k s Zero taken other = (refl, refl)
ways_quiet j k s One taken other = (refl, refl)
ways_quiet j k s Any taken other = (refl, refl)

pub branch_quiet : (k : NodeKey) (s : AbsState) (t : Tri) (taken other : ℕ) → Quiet (branch t k s taken other)
branch_quiet k s t taken other = ways_quiet k k s t taken other

where_quiet : (k : NodeKey) (o : Option AbsState) (pc : ℕ) → Quiet (going_where k o pc)
where_quiet k None pc = (refl, refl)
where_quiet k (Some s) pc = (refl, refl)

carry_quiet : (k : NodeKey) (s : AbsState) (t : Tri) (set clear : ℕ) → Quiet (carry_branch t k s set clear)
carry_quiet k s Zero set clear = where_quiet k (where_carry s.flags.carry s false) clear
carry_quiet k s One set clear = where_quiet k (where_carry s.flags.carry s true) set
carry_quiet k s Any set clear = (refl, refl)

pub flag_branch_quiet : (n : ℕ) (k : NodeKey) (s : AbsState) (set clear : ℕ) (other : Raw) → Quiet other → Quiet (flag_branch n (record { key = k; state = s }) set clear other)
flag_branch_quiet n k s set clear other h = if_quiet (n == 0) (carry_branch (carry_bit s) k s set clear) other (carry_quiet k s (carry_bit s) set clear) h

pub skipping_quiet : (device : Device) (image : Image) (j k : NodeKey) (s : AbsState) (t : Tri) → Quiet (skipping image (site_at device j s) j k t)
skipping_quiet device image j k s t = ways_quiet j k s t _ _

pub going_by_quiet : (device : Device) (k : NodeKey) (s : AbsState) (c : Option Computed) (r : Raw) → Quiet r → Quiet (going_by (site_at device k s) c r)
going_by_quiet device k s None r q = q
going_by_quiet device k s (Some c) r q = (refl, refl)

pub loading_quiet : (device : Device) (k : NodeKey) (s : AbsState) (registers : List AbsByte) (d : ℕ) (v : Option AbsByte) → Quiet (loading (site_at device k s) registers d v)
loading_quiet device k s registers d None = (refl, refl)
loading_quiet device k s registers d (Some v) = (refl, refl)

interrupts_quiet : (device : Device) (k : NodeKey) (s : AbsState) (on : Bool) → Quiet (interrupts_row (site_at device k s) on)
interrupts_quiet device k s true = (refl, refl)
interrupts_quiet device k s false = (refl, refl)

pub flag_quiet : (device : Device) (k : NodeKey) (s : AbsState) (n : ℕ) (on : Bool) → Quiet (flag_row (site_at device k s) n on)
flag_quiet device k s n on = if_quiet (n == 7) _ _ (interrupts_quiet device k s on) (refl, refl)

opening_quiet : (h : Option High) (k : NodeKey) (s : AbsState) (pc : ℕ) → Quiet (opening h k s pc)
opening_quiet None k s pc = (refl, refl)
opening_quiet (Some h) k s pc = (refl, refl)

closing_quiet : (device : Device) (n : Option ℕ) (k : NodeKey) (s : AbsState) (pc : ℕ) → Quiet (closing device n k s pc)
closing_quiet device None k s pc = (refl, refl)
closing_quiet device (Some n) k s pc = if_quiet (nat_le n (size_of device)) _ _ (refl, refl) (refl, refl)

sreg_quiet : (t : Tri) (k : NodeKey) (s : AbsState) (is_out : Bool) → Quiet (sreg_written t k s is_out)
sreg_quiet Zero k s is_out = (refl, refl)
sreg_quiet One k s is_out = (refl, refl)
sreg_quiet Any k s is_out = (refl, refl)

pub written_quiet : (device : Device) (pc : ℕ) (k : NodeKey) (s : AbsState) (is_out : Bool) (a : ℕ) (v : AbsByte) → Quiet (written_at (write_at device pc k s v) is_out a)
unfolding written_at
written_quiet device pc k s is_out a v = behind (register_at device a)
  where
    special_quiet : (x : Option Special) → Quiet (special_written (write_at device pc k s v) is_out a x)
    special_quiet (Some Spl) = closing_quiet device (closing_offset device k.inst.kind k.sp v) k s pc
    special_quiet (Some Sph) = opening_quiet (high_part k.inst.kind v) k s pc
    special_quiet (Some Sreg) = sreg_quiet (tri_at v.bits 7) k (put_flags s (flags_written v)) is_out
    special_quiet None = (refl, refl)

    behind : (r : Option ℕ) → Quiet (written_behind (write_at device pc k s v) is_out a r)
    behind (Some r) = (refl, refl)
    behind None = special_quiet (special device a)

fixed_quiet : (device : Device) (a : Option ℕ) (pc : ℕ) (k : NodeKey) (s : AbsState) (v : AbsByte) → Quiet (fixed_write a (write_at device pc k s v))
fixed_quiet device None pc k s v = (refl, refl)
fixed_quiet device (Some a) pc k s v = written_quiet device pc k s false a v

waking_quiet : (b : Bool) (device : Device) (A : List Entry) (k : NodeKey) (s : AbsState) (r : Raw) → Quiet r → Quiet (waking b (record { key = record k { masks = widened device A k.masks }; state = s }) r)
waking_quiet true device A k s r h = h
waking_quiet false device A k s r h = h

pub pointer_quiet : (device : Device) (task : Task) (was : AbsState) (r up : ℕ) (pc : ℕ) (k : NodeKey) (s : AbsState) (v : AbsByte)
    → Quiet (pointer_write task was r up (write_at device pc k s v))
pointer_quiet device task was r up pc k s v =
    if_quiet (is_fixed_site task.flash task.assumptions pc) _ _ (fixed_quiet device (pointed (view_by device k) was r up).constant pc k s v) (waking_quiet (may_wake task.assumptions was r up (write_at device pc k s v)) device task.assumptions k s _ (refl, refl))

pub jumping_quiet : (targets : Option (List ℕ)) (k : NodeKey) (s : AbsState) → Quiet (jumping targets k s)
jumping_quiet None k s = (refl, refl)
jumping_quiet (Some targets) k s = (refl, refl)

pub closed_quiet : (sp : SpForm) (pc : ℕ) (f : ℕ → Raw) → ((offset : ℕ) → Quiet (f offset)) → Quiet (at_closed sp pc f)
closed_quiet (Closed offset) pc f h = h offset
closed_quiet (Open offset high) pc f h = (refl, refl)

pub pushing_quiet : (device : Device) (scratch : Bool) (k : NodeKey) (s : AbsState) (r offset : ℕ) → Quiet (pushing scratch (site_at device k s) r offset)
pushing_quiet device scratch k s r offset = if_quiet (nat_le (offset + 1) (size_of device)) _ _ (refl, refl) (refl, refl)

pub room_quiet : (device : Device) (k : NodeKey) (s : AbsState) (target offset : ℕ) → Quiet (making_room (site_at device k s) target offset)
room_quiet device k s target offset = if_quiet (nat_le (offset + back_of device) (size_of device)) _ _ (refl, refl) (refl, refl)

pub popping_quiet : (device : Device) (k : NodeKey) (s : AbsState) (d offset : ℕ) → Quiet (popping (site_at device k s) d offset)
popping_quiet device k s d zero = (refl, refl)
popping_quiet device k s d (suc n) = (refl, refl)

pub untracked_fits : {device : Device} (A : List Entry) (k : NodeKey) (b : Bool) (pc : ℕ) (r : Raw) → IsFit device A k r → IsFit device A k (untracked_if b pc r)
untracked_fits A k true pc r h = record { words = record { calls = h.words.calls; exit = h.words.exit }; ascending = h.ascending }
untracked_fits A k false pc r h = h

pub too_deep_fits : {device : Device} (A : List Entry) (k : NodeKey) (b : Bool) (pc offset : ℕ) (r : Raw) → IsFit device A k r → IsFit device A k (too_deep_if b pc offset r)
too_deep_fits A k true pc offset r h = record { words = record { calls = h.words.calls; exit = h.words.exit }; ascending = h.ascending }
too_deep_fits A k false pc offset r h = h
