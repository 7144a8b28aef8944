-- Numbers in decoded instructions: immediate numbers are bytes, and operands are registers.
use Rattle.std.proofs.Common.{◌≡◌, refl, subst, ℕ, ◌+◌, ◌*◌, ◌<◌, ◌==◌, Bool, true, false, List, [], ◌∷◌, Some, length, if◌then◌else◌, arith, None, nat_lt}
use Rattle.std.specs.Prelude.{⊤}
use Rattle.std.specs.Int.{bit_at}
use Rattle.std.proofs.lemmas.Nat.Bits.{bit_at-lt}
use Rattle.avr_model.specs.Devices.{Image, words_of}
use Rattle.avr_model.specs.declared.device.Device.{Device}
use Rattle.avr_model.specs.declared.instruction.Instr.{Instr}
use Rattle.avr_model.specs.declared.instruction.Instr.TheVariants as i
use Rattle.avr_model.specs.Image.{word_at}
use Rattle.avr_model.specs.Pattern.{places, letter}
use Rattle.avr_model.specs.Table.{Row, fields, table, matches, decoded_by, decoded}
use Rattle.avr_model.specs.Sites.{instruction_at}
use Rattle.local_rules.specs.Local.{fetched}
use Rattle.local_laws.proofs.Sized.{decoded_at}

abbrev pub InstrFits : Instr → Type 0
InstrFits (i.Immediate op d n) = (d < 32) × (n < 256)
InstrFits (i.Binary op d r) = d < 32
InstrFits (i.Std b q r) = r < 32
InstrFits (i.Sts a r) = r < 32
InstrFits (i.St p r) = r < 32
InstrFits (i.Out a r) = r < 32
InstrFits (i.Push r) = r < 32
InstrFits (i.Sbrc r b) = (r < 32) × (b < 8)
InstrFits (i.Sbrs r b) = (r < 32) × (b < 8)
InstrFits instr = ⊤

-- ---- what is in the places of a letter

-- the limit of the number: twice as much for each place
abbrev pub bound_of : ℕ → ℕ → List ℕ → ℕ
bound_of c below [] = below
bound_of c below (x ∷ p) = bound_of c (if x == c then below * 2 else below) p

pub place_below : (b : Bool) (sofar bit below : ℕ) → bit < 2 → sofar < below → (if b then sofar * 2 + bit else sofar) < (if b then below * 2 else below)
place_below true sofar bit below small lt = omega arith
place_below false sofar bit below small lt = lt

pub letter_below : (c : ℕ) (p : List ℕ) (w sofar below : ℕ) → sofar < below → letter c sofar p w < bound_of c below p
letter_below c [] w sofar below lt = lt
letter_below c (x ∷ p) w sofar below lt =
    letter_below c p w (if x == c then sofar * 2 + bit_at w (length p) else sofar) (if x == c then below * 2 else below)
    (place_below (x == c) sofar (bit_at w (length p)) below (bit_at-lt w (length p)) lt)

-- a number of eight places
eight : (p : List ℕ) (w : ℕ) → bound_of 75 1 p ≡ 256 → letter 75 0 p w < 256
eight p w e = subst (λ (n : ℕ). letter 75 0 p w < n) e (letter_below 75 p w 0 1 (omega arith))

sixteen : (p : List ℕ) (w : ℕ) → bound_of 100 1 p ≡ 16 → 16 + letter 100 0 p w < 32
sixteen p w e = let lt : letter 100 0 p w < 16 = subst (λ (n : ℕ). letter 100 0 p w < n) e (letter_below 100 p w 0 1 (omega arith)) in omega arith

all_registers : (p : List ℕ) (w : ℕ) → bound_of 100 1 p ≡ 32 → letter 100 0 p w < 32
all_registers p w e = subst (λ (n : ℕ). letter 100 0 p w < n) e (letter_below 100 p w 0 1 (omega arith))

a_source : (p : List ℕ) (w : ℕ) → bound_of 114 1 p ≡ 32 → letter 114 0 p w < 32
a_source p w e = subst (λ (n : ℕ). letter 114 0 p w < n) e (letter_below 114 p w 0 1 (omega arith))

both : (p : List ℕ) (w : ℕ) → bound_of 100 1 p ≡ 16 → bound_of 75 1 p ≡ 256 → (16 + letter 100 0 p w < 32) × (letter 75 0 p w < 256)
both p w d k = (sixteen p w d, eight p w k)

bit_of_register : (p : List ℕ) (w : ℕ) → bound_of 114 1 p ≡ 32 → bound_of 98 1 p ≡ 8 → (letter 114 0 p w < 32) × (letter 98 0 p w < 8)
bit_of_register p w r b = (
  subst (λ (n : ℕ). letter 114 0 p w < n) r (letter_below 114 p w 0 1 (omega arith)),
  subst (λ (n : ℕ). letter 98 0 p w < n) b (letter_below 98 p w 0 1 (omega arith)),
)

-- ---- the table

abbrev RowsFit : List Row → ℕ → ℕ → Type 0
RowsFit [] w next = ⊤
RowsFit (row ∷ rows) w next = InstrFits (row.instr (fields row.pattern w next)) × RowsFit rows w next

table_fits : (w next : ℕ) → RowsFit table w next
table_fits w next =
    let cpi = both (places "0011 KKKK dddd KKKK") w refl refl in
    let sbci = both (places "0100 KKKK dddd KKKK") w refl refl in
    let subi = both (places "0101 KKKK dddd KKKK") w refl refl in
    let ori = both (places "0110 KKKK dddd KKKK") w refl refl in
    let andi = both (places "0111 KKKK dddd KKKK") w refl refl in
    let ldi = both (places "1110 KKKK dddd KKKK") w refl refl in
    let of_cpc = all_registers (places "0000 01rd dddd rrrr") w refl in
    let of_sbc = all_registers (places "0000 10rd dddd rrrr") w refl in
    let of_add = all_registers (places "0000 11rd dddd rrrr") w refl in
    let of_cpse = all_registers (places "0001 00rd dddd rrrr") w refl in
    let of_cp = all_registers (places "0001 01rd dddd rrrr") w refl in
    let of_sub = all_registers (places "0001 10rd dddd rrrr") w refl in
    let of_adc = all_registers (places "0001 11rd dddd rrrr") w refl in
    let of_and = all_registers (places "0010 00rd dddd rrrr") w refl in
    let of_eor = all_registers (places "0010 01rd dddd rrrr") w refl in
    let of_or = all_registers (places "0010 10rd dddd rrrr") w refl in
    let of_mov = all_registers (places "0010 11rd dddd rrrr") w refl in
    let of_mul = all_registers (places "1001 11rd dddd rrrr") w refl in
    let of_sbrc = bit_of_register (places "1111 110r rrrr 0bbb") w refl refl in
    let of_sbrs = bit_of_register (places "1111 111r rrrr 0bbb") w refl refl in
    let of_std_z = a_source (places "10q0 qq1r rrrr 0qqq") w refl in
    let of_std_y = a_source (places "10q0 qq1r rrrr 1qqq") w refl in
    let of_sts = a_source (places "1001 001r rrrr 0000") w refl in
    let of_st_1 = a_source (places "1001 001r rrrr 0001") w refl in
    let of_st_2 = a_source (places "1001 001r rrrr 0010") w refl in
    let of_st_3 = a_source (places "1001 001r rrrr 1001") w refl in
    let of_st_4 = a_source (places "1001 001r rrrr 1010") w refl in
    let of_st_5 = a_source (places "1001 001r rrrr 1100") w refl in
    let of_st_6 = a_source (places "1001 001r rrrr 1101") w refl in
    let of_st_7 = a_source (places "1001 001r rrrr 1110") w refl in
    let of_push = a_source (places "1001 001r rrrr 1111") w refl in
    let of_out = a_source (places "1011 1AAr rrrr AAAA") w refl in
    assumption (cpi, sbci, subi, ori, andi, ldi, of_cpc, of_sbc, of_add, of_cpse, of_cp, of_sub, of_adc, of_and, of_eor, of_or, of_mov, of_mul, of_sbrc, of_sbrs, of_std_z, of_std_y, of_sts, of_st_1, of_st_2, of_st_3, of_st_4, of_st_5, of_st_6, of_st_7, of_push, of_out)

rows_fit : (rows : List Row) (w next : ℕ) (instr : Instr) → RowsFit rows w next → decoded_by rows w next ≡ Some instr → InstrFits instr
rows_fit [] w next instr h e = cc
rows_fit (row ∷ rows) w next instr h e = by (matches row w) (rows_fit rows w next instr h.1) e
  where
    by : (b : Bool) → (decoded_by rows w next ≡ Some instr → InstrFits instr)
        → (if b then Some (row.instr (fields row.pattern w next)) else decoded_by rows w next) ≡ Some instr → InstrFits instr
    by true rest e = let is : row.instr (fields row.pattern w next) ≡ instr = cc in subst InstrFits is h.0
    by false rest e = rest e

decoded_fits : (w next : ℕ) (instr : Instr) → decoded w next ≡ Some instr → InstrFits instr
unfolding decoded
decoded_fits w next instr e = rows_fit table w next instr (table_fits w next) e

pub instruction_fits : (image : Image) (pc : ℕ) (instr : Instr) → instruction_at image pc ≡ Some instr → InstrFits instr
instruction_fits image pc instr e = decoded_fits (word_at image pc) (word_at image (pc + 1)) instr (decoded_at image pc instr e)

pub fetched_fits : (device : Device) (image : Image) (pc : ℕ) (instr : Instr) → fetched device image pc ≡ Some instr → InstrFits instr
fetched_fits device image pc instr e = by (nat_lt pc (words_of device)) e
  where
    by : (inside : Bool) → (if inside then instruction_at image pc else None) ≡ Some instr → InstrFits instr
    by true same = instruction_fits image pc instr same
    by false same = absurd (cc)
