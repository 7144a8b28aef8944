-- RAMPZ and EIND hold no number above their greatest, before and behind each instruction.
use Rattle.std.proofs.Common.{◌≡◌, ◌≢◌, refl, ap, subst, ℕ, zero, suc, ◌+◌, ◌/◌, ◌*◌, ◌^◌, ◌-◌, ◌<◌, ◌≤◌, ◌==◌, ◌&&◌, ⊎_elim, Bool, true, false, nat_lt, if◌then◌else◌, List, [], ◌∷◌, ◌++◌, Option, Some, None, slice_index, slice_set, length, length-set, bit_and, arith, ltb-true}
use Rattle.std.specs.Prelude.{⊤}
use Rattle.std.proofs.lemmas.Bool.{and_parts, cases_eq, cases_lt}
use Rattle.std.proofs.Math.Pow.{pow_mono}
use Rattle.std.proofs.lemmas.Bool.Decides.{nat_tests}
use Rattle.std.proofs.lemmas.Grind.{elements}
use Rattle.std.proofs.lemmas.List.{get_or_past}
use Rattle.std.proofs.lemmas.Nat.{and_le_l, and_le_r}
use Rattle.avr_model.proofs.AllLaws.{devices_are_alike}
use Rattle.avr_model.specs.Devices.{Image, io_base, rampz_address, eind_address, width, words_of, has_elpm, has_eijmp, rampz_most, eind_most}
use Rattle.avr_model.specs.declared.device.Device.{Device}
use Rattle.avr_model.specs.declared.effect.Write.{Write}
use Rattle.avr_model.specs.declared.instruction.Instr.{Instr}
use Rattle.avr_model.specs.declared.instruction.Instr.TheVariants as i
use Rattle.avr_model.specs.declared.instruction.BinaryOp.{BinaryOp}
use Rattle.avr_model.specs.declared.instruction.BinaryOp.TheVariants as binary
use Rattle.avr_model.specs.declared.instruction.ImmediateOp.{ImmediateOp}
use Rattle.avr_model.specs.declared.instruction.ImmediateOp.TheVariants as immediate
use Rattle.avr_model.specs.declared.instruction.UnaryOp.{UnaryOp}
use Rattle.avr_model.specs.declared.instruction.UnaryOp.TheVariants as unary
use Rattle.avr_model.specs.declared.instruction.Pointer.{Pointer}
use Rattle.avr_model.specs.declared.instruction.Pointer.TheVariants as pointer
use Rattle.avr_model.specs.State.{State, RAMPZ, EIND, register, pair, register_at, bank_most, kept_of}
use Rattle.avr_model.specs.Effects.{set, set_pair, moved, stepped_bank, binary_effect, immediate_effect, unary_effect, effect_of}
use Rattle.avr_model.specs.Step.{with_registers, register_stored, registers_after}
use Rattle.pair_rules.specs.Fits.{HasRegisters}
use Rattle.local_rules.specs.Machine.{IsMachine, AreBanks}

-- ---- numbers that are kept

pub kept_most : (device : Device) (r b : ℕ) → 32 ≤ r → kept_of device r b ≤ bank_most device r
kept_most device r b le = by (nat_lt r 32) (grind (arith, nat_tests))
  where
    by : (low : Bool) → low ≡ false → (if low then b else bit_and b (bank_most device r)) ≤ bank_most device r
    by true e = absurd (cc)
    by false e = and_le_r b (bank_most device r)

pub kept_small : (device : Device) (r b : ℕ) → b < 256 → kept_of device r b < 256
kept_small device r b small = by (nat_lt r 32)
  where
    by : (low : Bool) → (if low then b else bit_and b (bank_most device r)) < 256
    by true = small
    by false = omega (arith, small, and_le_l b (bank_most device r))

-- ---- writes

-- a write of RAMPZ or EIND is of a number that it can hold
abbrev pub AreBankWrites : Device → List Write → Type 0
AreBankWrites device [] = ⊤
AreBankWrites device (w ∷ ws) = (32 ≤ w.address → w.byte ≤ bank_most device w.address) × AreBankWrites device ws

set_bank : (device : Device) (registers : List ℕ) (r b : ℕ) → (32 ≤ r → b ≤ bank_most device r) → AreBanks device registers → AreBanks device (slice_set registers r b)
set_bank device registers r b small h = record { rampz = by 32 (omega arith) h.rampz; eind = by 33 (omega arith) h.eind }
  where
    by : (n : ℕ) → 32 ≤ n → slice_index registers n ≤ bank_most device n → slice_index (slice_set registers r b) n ≤ bank_most device n
    by n le was =
        ⊎_elim
        (λ same.
        let fits : b ≤ bank_most device n = subst (λ x. b ≤ bank_most device x) same (small (omega (arith, same, le))) in
        ⊎_elim
        (λ (lt : r < length registers). let here : slice_index (slice_set registers r b) n ≡ b = grind (arith, elements) in omega (arith, here, fits))
        (λ (over : length registers ≤ r).
        let here : slice_index (slice_set registers r b) n ≡ 0 = get_or_past (slice_set registers r b) n 0 (omega (arith, length-set registers r b, over, same)) in omega (arith, here))
        (cases_lt r (length registers)))
        (λ other. let here : slice_index (slice_set registers r b) n ≡ slice_index registers n = grind (arith, elements) in omega (arith, here, was))
        (cases_eq r n)

pub banks_set : (device : Device) (ws : List Write) (registers : List ℕ) → AreBankWrites device ws → AreBanks device registers → AreBanks device (with_registers registers ws)
banks_set device [] registers small h = h
banks_set device (w ∷ ws) registers small h = banks_set device ws (slice_set registers w.address w.byte) small.1 (set_bank device registers w.address w.byte small.0 h)

stored_stay : (device : Device) (registers : List ℕ) (b : ℕ) (r : Option ℕ) → AreBanks device registers → AreBanks device (register_stored device registers b r)
stored_stay device registers b None h = h
stored_stay device registers b (Some r) h = set_bank device registers r (kept_of device r b) (kept_most device r b) h

pub banks_after : (device : Device) (ws : List Write) (registers : List ℕ) → AreBanks device registers → AreBanks device (registers_after device registers ws)
banks_after device [] registers h = h
banks_after device (w ∷ ws) registers h = banks_after device ws _ (stored_stay device registers w.byte (register_at device w.address) h)

-- ---- writes of rows

module _ (device : Device) where
  one_bank : (d b : ℕ) → d < 32 → AreBankWrites device (set d b)
  one_bank d b lt = (λ le. absurd (omega (arith, lt, le)), tt)

  pair_bank : (d w : ℕ) → d + 1 < 32 → AreBankWrites device (set_pair d w)
  pair_bank d w lt = (λ le. absurd (omega (arith, lt, le)), (λ le. absurd (omega (arith, lt, le)), tt))

  and_bank : (d w e b : ℕ) → d + 1 < 32 → e < 32 → AreBankWrites device (set_pair d w ++ set e b)
  and_bank d w e b lt low = (λ le. absurd (omega (arith, lt, le)), (λ le. absurd (omega (arith, lt, le)), (λ le. absurd (omega (arith, low, le)), tt)))

  moved_bank : (p : Pointer) (w : ℕ) → AreBankWrites device (moved p w)
  moved_bank pointer.ZPlus w = pair_bank 30 _ (omega arith)
  moved_bank pointer.MinusZ w = pair_bank 30 _ (omega arith)
  moved_bank pointer.YPlus w = pair_bank 28 _ (omega arith)
  moved_bank pointer.MinusY w = pair_bank 28 _ (omega arith)
  moved_bank pointer.X w = tt
  moved_bank pointer.XPlus w = pair_bank 26 _ (omega arith)
  moved_bank pointer.MinusX w = pair_bank 26 _ (omega arith)

  moved_and : (p : Pointer) (w d b : ℕ) → d < 32 → AreBankWrites device (moved p w ++ set d b)
  moved_and pointer.ZPlus w d b lt = and_bank 30 _ d b (omega arith) lt
  moved_and pointer.MinusZ w d b lt = and_bank 30 _ d b (omega arith) lt
  moved_and pointer.YPlus w d b lt = and_bank 28 _ d b (omega arith) lt
  moved_and pointer.MinusY w d b lt = and_bank 28 _ d b (omega arith) lt
  moved_and pointer.X w d b lt = one_bank d b lt
  moved_and pointer.XPlus w d b lt = and_bank 26 _ d b (omega arith) lt
  moved_and pointer.MinusX w d b lt = and_bank 26 _ d b (omega arith) lt

module _ (m : State) (h : IsMachine m) where
  pub stepped_most : stepped_bank m ≤ rampz_most m.device
  stepped_most = by (pair m 30 == 65535)
    where
      by : (last : Bool) → (if last then kept_of m.device RAMPZ (register m RAMPZ + 1) else register m RAMPZ) ≤ rampz_most m.device
      by true = kept_most m.device RAMPZ (register m RAMPZ + 1) (omega arith)
      by false = h.banks.rampz

  stepped_writes : (d w b : ℕ) → d < 32 → AreBankWrites m.device (set_pair 30 w ++ (set RAMPZ (stepped_bank m) ++ set d b))
  stepped_writes d w b lt =
      (λ le. absurd (omega (arith, le)), (λ le. absurd (omega (arith, le)), (λ le. stepped_most, (λ le. absurd (omega (arith, lt, le)), tt))))

  binary_banks : (image : Image) (op : BinaryOp) (d r : ℕ) → d < 32 → AreBankWrites m.device (binary_effect image m op d r).registers
  binary_banks image binary.Cpc d r lt = tt
  binary_banks image binary.Cpse d r lt = tt
  binary_banks image binary.Cp d r lt = tt
  binary_banks image binary.Mul d r lt = pair_bank m.device 0 _ (omega arith)
  binary_banks image op d r lt = one_bank m.device d _ lt

  immediate_banks : (op : ImmediateOp) (d n : ℕ) → d < 32 → AreBankWrites m.device (immediate_effect m op d n).registers
  immediate_banks immediate.Cpi d n lt = tt
  immediate_banks op d n lt = one_bank m.device d _ lt

  unary_banks : (op : UnaryOp) (d : ℕ) → d < 32 → AreBankWrites m.device (unary_effect m op d).registers
  unary_banks unary.Com d lt = one_bank m.device d _ lt
  unary_banks unary.Neg d lt = one_bank m.device d _ lt
  unary_banks unary.Swap d lt = one_bank m.device d _ lt
  unary_banks unary.Inc d lt = one_bank m.device d _ lt
  unary_banks unary.Asr d lt = one_bank m.device d _ lt
  unary_banks unary.Lsr d lt = one_bank m.device d _ lt
  unary_banks unary.Ror d lt = one_bank m.device d _ lt
  unary_banks unary.Dec d lt = one_bank m.device d _ lt

  -- Rows write the registers that they name, and RAMPZ by `elpm` through Z+.
  pub row_banks : (image : Image) (still : Bool) (b1 b2 : ℕ) (instr : Instr) → HasRegisters instr → AreBankWrites m.device (effect_of image still m instr b1 b2).registers
  row_banks image still b1 b2 (i.Movw d r) has = pair_bank m.device (2 * d) _ (omega (arith, has.0))
  row_banks image still b1 b2 (i.Muls d r) has = pair_bank m.device 0 _ (omega arith)
  row_banks image still b1 b2 (i.Mulsu d r) has = pair_bank m.device 0 _ (omega arith)
  row_banks image still b1 b2 (i.Fmul d r) has = pair_bank m.device 0 _ (omega arith)
  row_banks image still b1 b2 (i.Fmuls d r) has = pair_bank m.device 0 _ (omega arith)
  row_banks image still b1 b2 (i.Fmulsu d r) has = pair_bank m.device 0 _ (omega arith)
  row_banks image still b1 b2 (i.Binary op d r) has = binary_banks image op d r has.0
  row_banks image still b1 b2 (i.Immediate op d n) has = immediate_banks op d n has.0
  row_banks image still b1 b2 (i.Ldd d b q) has = one_bank m.device d _ has
  row_banks image still b1 b2 (i.Lds d a) has = one_bank m.device d _ has
  row_banks image still b1 b2 (i.Ld d p) has = moved_and m.device p _ d _ has
  row_banks image still b1 b2 (i.LpmZ d) has = one_bank m.device d _ has
  row_banks image still b1 b2 (i.LpmZPlus d) has = and_bank m.device 30 _ d _ (omega arith) has
  row_banks image still b1 b2 i.Lpm has = one_bank m.device 0 _ (omega arith)
  row_banks image still b1 b2 (i.ElpmZ d) has = one_bank m.device d _ has
  row_banks image still b1 b2 (i.ElpmZPlus d) has = stepped_writes d _ _ has
  row_banks image still b1 b2 i.Elpm has = one_bank m.device 0 _ (omega arith)
  row_banks image still b1 b2 (i.Pop d) has = one_bank m.device d _ has
  row_banks image still b1 b2 (i.St p r) has = moved_bank m.device p _
  row_banks image still b1 b2 (i.Unary op d) has = unary_banks op d has
  row_banks image still b1 b2 (i.Adiw d n) has = pair_bank m.device (2 * d) _ (omega (arith, has.0))
  row_banks image still b1 b2 (i.Sbiw d n) has = pair_bank m.device (2 * d) _ (omega (arith, has.0))
  row_banks image still b1 b2 (i.In d a) has = one_bank m.device d _ has
  row_banks image still b1 b2 (i.Bld d b) has = one_bank m.device d _ has
  row_banks image still b1 b2 instr has = tt

-- ---- addresses of registers

-- a register that the device has: one of r0 to r31, RAMPZ or EIND
pub data IsPlace (device : Device) (r : ℕ) : Type 0 where
  low : r < 32 → IsPlace device r
  rampz : has_elpm device ≡ true → r ≡ RAMPZ → IsPlace device r
  eind : has_eijmp device ≡ true → r ≡ EIND → IsPlace device r

-- only such a register has an address
pub place_of : (device : Device) (a r : ℕ) → register_at device a ≡ Some r → IsPlace device r
place_of device a r e = by (nat_lt a (io_base device)) ((a == rampz_address device) && has_elpm device) ((a == eind_address device) && has_eijmp device) refl refl refl e
  where
    by : (p q s : Bool) → nat_lt a (io_base device) ≡ p → ((a == rampz_address device) && has_elpm device) ≡ q → ((a == eind_address device) && has_eijmp device) ≡ s
        → (if p then Some a else (if q then Some RAMPZ else (if s then Some EIND else None))) ≡ Some r → IsPlace device r
    by true q s is is' is'' found = let same : a ≡ r = cc in low (omega (arith, same, ltb-true a (io_base device) is, devices_are_alike.most_base device))
    by false true s is is' is'' found = rampz (and_parts (a == rampz_address device) (has_elpm device) is').1 (cc)
    by false false true is is' is'' found = eind (and_parts (a == eind_address device) (has_eijmp device) is'').1 (cc)
    by false false false is is' is'' found = absurd (cc)

-- ---- numbers that they hold

masked : (n b : ℕ) → n ≤ 3 → n ≢ 2 → b ≤ n → bit_and b n ≡ b
masked zero zero most apart le = refl
masked zero (suc b) most apart le = absurd (omega (arith, le))
masked (suc zero) zero most apart le = refl
masked (suc zero) (suc zero) most apart le = refl
masked (suc zero) (suc (suc b)) most apart le = absurd (omega (arith, le))
masked (suc (suc zero)) b most apart le = absurd (apart refl)
masked (suc (suc (suc zero))) zero most apart le = refl
masked (suc (suc (suc zero))) (suc zero) most apart le = refl
masked (suc (suc (suc zero))) (suc (suc zero)) most apart le = refl
masked (suc (suc (suc zero))) (suc (suc (suc zero))) most apart le = refl
masked (suc (suc (suc zero))) (suc (suc (suc (suc b)))) most apart le = absurd (omega (arith, le))
masked (suc (suc (suc (suc n)))) b most apart le = absurd (omega (arith, most))

not_three : (w : ℕ) → 2 ^ w ≢ 98304
not_three w e =
    ⊎_elim
    (λ (lt : w < 17). let less : 2 ^ w ≤ 2 ^ 16 = pow_mono {i = w} {j = 16} (omega (arith, lt)) in omega (arith, e, less))
    (λ (le : 17 ≤ w). let more : 2 ^ 17 ≤ 2 ^ w = pow_mono {i = 17} {j = w} le in omega (arith, e, more))
    (cases_lt w 17)

rampz_apart : (device : Device) → rampz_most device ≢ 2
rampz_apart device e = by (has_elpm device) refl
  where
    by : (b : Bool) → has_elpm device ≡ b → ⊥
    by true has = let all = devices_are_alike.banks device has in not_three (width device) (omega (arith, all, e))
    by false none = let zero_most : rampz_most device ≡ 0 = ap (λ (b : Bool). if b then words_of device / 32768 - 1 else 0) none in omega (arith, e, zero_most)

pub kept_rampz : (device : Device) (b : ℕ) → b ≤ rampz_most device → kept_of device RAMPZ b ≡ b
kept_rampz device b le = masked (rampz_most device) b (devices_are_alike.most_rampz device) (rampz_apart device) le

pub kept_eind : (device : Device) (b : ℕ) → b ≤ eind_most device → kept_of device EIND b ≡ b
kept_eind device b le =
    masked (eind_most device) b (omega (arith, devices_are_alike.most_eind device)) (λ e. omega (arith, devices_are_alike.most_eind device, e)) le
