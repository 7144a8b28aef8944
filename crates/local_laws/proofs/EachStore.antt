-- What holds of all states behind a store, wherever the byte is stored.
use Rattle.std.proofs.Common.{◌≡◌, refl, ℕ, Bool, true, false, List, [], ◌∷◌, map, filter, Option, Some, None, nat_le, ⊎_elim}
use Rattle.std.proofs.lemmas.List.Elements.{Contains-append_cases}
use Rattle.avr_model.specs.declared.device.Device.{Device}
use Rattle.avr_model.specs.declared.assumption.Entry.{Entry}
use Rattle.avr_model.specs.Assumptions.{is_fixed_site, store_line}
use Rattle.avr_model.specs.Devices.{size_of}
use Rattle.avr_model.specs.declared.device.Special.{Special}
use Rattle.avr_model.specs.declared.device.Special.TheVariants.{Spl, Sph, Sreg}
use Rattle.avr_model.specs.State.{register_at, special}
use Rattle.bit_domain.specs.declared.bits.Tri.{Tri}
use Rattle.bit_domain.specs.declared.bits.Tri.TheVariants.{Zero, One, Any}
use Rattle.bit_domain.specs.TriByte.{tri_at}
use Rattle.sp_domain.specs.Slots.{resized}
use Rattle.abs_state.specs.declared.values.AbsByte.{AbsByte}
use Rattle.abs_state.specs.declared.values.AbsFlags.{AbsFlags}
use Rattle.abs_state.specs.declared.state.AbsState.{AbsState}
use Rattle.node_keys.specs.declared.keys.NodeKey.{NodeKey}
use Rattle.node_keys.specs.declared.keys.High.{High}
use Rattle.node_keys.specs.Splits.{splits}
use Rattle.node_keys.specs.Wakes.{widened}
use Rattle.local_rules.specs.HighBytes.{view_by}
use Rattle.local_rules.specs.Raw.{Raw, one, all_of}
use Rattle.local_rules.specs.Reads.{pointed}
use Rattle.local_rules.specs.Site.{Task}
use Rattle.local_rules.specs.Writes.{high_part, opening, closing_offset, closing, flags_written, sreg_written, register_written, put_flags, write_at, special_written, written_behind, written_at, reaches, fixed_write, may_wake, waking, pointer_write}
use Rattle.local_laws.proofs.EachState.{AllOf, each_none, each_one, each_two, each_if, each_all, each_same}

-- the state has a property after the byte is stored to it, wherever that is
pub record HasBehind (P : AbsState → Type 0) (device : Device) (s : AbsState) (v : AbsByte) : Type 0 where
  pub same : P s
  pub flags : (f : AbsFlags) → P (put_flags s f)
  pub slots : (n : ℕ) → P (record s { slots = resized n s.slots })
  pub register : (a r : ℕ) → register_at device a ≡ Some r → P (register_written device s r v)

module _ (P : AbsState → Type 0) (device : Device) (s : AbsState) (v : AbsByte) (h : HasBehind P device s v) where
  closing_each : (n : Option ℕ) (k : NodeKey) (pc : ℕ) → AllOf P (closing device n k s pc)
  closing_each None k pc = each_none P
  closing_each (Some n) k pc = each_if P (nat_le n (size_of device)) _ _ (each_one P _ _ (h.slots n)) (each_none P)

  opening_each : (high : Option High) (k : NodeKey) (pc : ℕ) → AllOf P (opening high k s pc)
  opening_each None k pc = each_none P
  opening_each (Some high) k pc = each_one P _ s h.same

  sreg_each : (t : Tri) (k : NodeKey) (f : AbsFlags) (is_out : Bool) → AllOf P (sreg_written t k (put_flags s f) is_out)
  sreg_each Zero k f is_out = each_one P _ (put_flags s f) (h.flags f)
  sreg_each One k f is_out = each_one P _ (put_flags s f) (h.flags f)
  sreg_each Any k f is_out = each_two P _ _ (put_flags s f) (h.flags f)

  special_each : (pc : ℕ) (k : NodeKey) (is_out : Bool) (a : ℕ) (x : Option Special) → AllOf P (special_written (write_at device pc k s v) is_out a x)
  special_each pc k is_out a (Some Spl) = closing_each (closing_offset device k.inst.kind k.sp v) k pc
  special_each pc k is_out a (Some Sph) = opening_each (high_part k.inst.kind v) k pc
  special_each pc k is_out a (Some Sreg) = sreg_each (tri_at v.bits 7) k (flags_written v) is_out
  special_each pc k is_out a None = each_same P (λ m. record k { masks = m }) s (splits device k.masks a v.bits) h.same

  behind_each : (pc : ℕ) (k : NodeKey) (is_out : Bool) (a : ℕ) (x : Option ℕ) → register_at device a ≡ x → AllOf P (written_behind (write_at device pc k s v) is_out a x)
  behind_each pc k is_out a (Some r) e = each_one P k (register_written device s r v) (h.register a r e)
  behind_each pc k is_out a None e = special_each pc k is_out a (special device a)

  pub written_each : (pc : ℕ) (k : NodeKey) (is_out : Bool) (a : ℕ) → AllOf P (written_at (write_at device pc k s v) is_out a)
  unfolding written_at
  written_each pc k is_out a = behind_each pc k is_out a (register_at device a) refl

  -- ---- through a pointer

  fixed_each : (x : Option ℕ) (pc : ℕ) (k : NodeKey) → AllOf P (fixed_write x (write_at device pc k s v))
  fixed_each None pc k = each_none P
  fixed_each (Some a) pc k = written_each pc k false a

  waking_each : (b : Bool) (A : List Entry) (k : NodeKey) (r : Raw) → AllOf P r → AllOf P (waking b (record { key = record k { masks = widened device A k.masks }; state = s }) r)
  waking_each false A k r all to j = all to j
  waking_each true A k r all to j =
      ⊎_elim (all to) (each_one P (record k { masks = widened device A k.masks }) s h.same to) (Contains-append_cases r.moves (record { key = record k { masks = widened device A k.masks }; state = s } ∷ []) to j)

  pub pointer_each : (task : Task) (was : AbsState) (r up : ℕ) (pc : ℕ) (k : NodeKey) → AllOf P (pointer_write task was r up (write_at device pc k s v))
  pointer_each task was r up pc k =
      each_if P (is_fixed_site task.flash task.assumptions pc) _ _ (fixed_each (pointed (view_by device k) was r up).constant pc k)
      (waking_each (may_wake task.assumptions was r up (write_at device pc k s v)) task.assumptions k _ (λ to j.
      ⊎_elim (each_one P k s h.same to)
      (each_all P (λ a. written_at (write_at device pc k s v) false a) (filter (λ a. reaches was r up a) (store_line task.assumptions pc)) (λ a. written_each pc k false a) to)
      (Contains-append_cases (one k s).moves (all_of (map (λ a. written_at (write_at device pc k s v) false a) (filter (λ a. reaches was r up a) (store_line task.assumptions pc)))).moves to j)))
