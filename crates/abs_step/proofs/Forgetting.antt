-- The state after some facts ended.
use Rattle.std.proofs.Common.{◌≡◌, refl, sym, ◌∙◌, ap, ap₂, subst, ⊎_elim, ℕ, ◌/◌, ◌^◌, ◌<◌, Bool, true, false, List, [], ◌∷◌, Option, bit_and, arith}
use Rattle.std.specs.Prelude.{◌==◌, ◌&&◌, nat_lt, slice_set}
use Rattle.std.proofs.lemmas.Bool.{cases_lt}
use Rattle.std.proofs.lemmas.Bool.Decides.{nat_tests}
use Rattle.avr_model.specs.declared.device.Device.{Device}
use Rattle.avr_model.specs.declared.instruction.Instr.{Instr}
use Rattle.avr_model.specs.Written.{written, bits_of}
use Rattle.avr_decode.proofs.RegisterSets.{bit_of_set, none_beyond}
use Rattle.sp_domain.specs.declared.tags.CarryTag.{CarryTag}
use Rattle.pair_domain.specs.declared.facts.PairFacts.{PairFacts}
use Rattle.abs_state.specs.declared.state.AbsState.{AbsState}
use Rattle.abs_state.specs.declared.values.AbsByte.{AbsByte}
use Rattle.abs_state.specs.declared.values.AbsFlags.{AbsFlags}
use Rattle.abs_state.specs.Ended.{is_one_of, is_bit_of, ended, written_hull}
use Rattle.abs_state.specs.FlagsSet.{sets_flags, sets_carry}
use Rattle.local_rules.specs.Registers.{forgotten, before}
use Rattle.local_rules.specs.Banks.{stored_value}
use Rattle.local_rules.specs.Writes.{register_written, put_flags, flags_written}

-- ---- a set by its bits

bit_tells : (ws : List ℕ) (r : ℕ) → bits_of ws < 2 ^ 64 → is_bit_of (bits_of ws) r ≡ is_one_of ws r
bit_tells ws r small =
    ⊎_elim
    (λ lt.
    let inside : nat_lt r 64 ≡ true = grind (arith, nat_tests) in
    ap (λ (b : Bool). b && (bit_and (bits_of ws / 2 ^ r) 1 == 1)) inside ∙ bit_of_set ws r)
    (λ over.
    let beyond : nat_lt r 64 ≡ false = grind (arith, nat_tests) in
    ap (λ (b : Bool). b && (bit_and (bits_of ws / 2 ^ r) 1 == 1)) beyond ∙ sym (none_beyond ws r small over)) (cases_lt r 64)

pub ended_by : (ws : List ℕ) (mask : ℕ) (flags carry : Bool) (x : Option PairFacts) → mask ≡ bits_of ws → mask < 2 ^ 64
    → ended (is_bit_of mask) flags carry x ≡ ended (is_one_of ws) flags carry x
ended_by ws mask flags carry x e small =
    let same : (r : ℕ) → is_bit_of mask r ≡ is_one_of ws r = λ r. ap (λ (n : ℕ). is_bit_of n r) e ∙ bit_tells ws r (subst (λ (n : ℕ). n < 2 ^ 64) e small) in
    λ i. ended (λ r. same r i) flags carry x

-- ---- the state with what still holds

pub is_before : (instr : Instr) (s left : AbsState) (c : CarryTag) (mask : ℕ) (flags carry : Bool) (x : Option PairFacts)
    → left ≡ record s { flags = record s.flags { carry = c } } → c ≡ forgotten (written instr) s.flags.carry
    → mask ≡ bits_of (written instr) → mask < 2 ^ 64 → flags ≡ sets_flags instr → carry ≡ sets_carry instr
    → x ≡ ended (is_bit_of mask) flags carry left.facts → record left { facts = x } ≡ before instr s
is_before instr s left c mask flags carry x le ce me small fe se xe =
    let facts : x ≡ ended (is_one_of (written instr)) (sets_flags instr) (sets_carry instr) s.facts =
    xe ∙ ended_by (written instr) mask flags carry left.facts me small
    ∙ ap (λ (t : AbsState). ended (is_one_of (written instr)) flags carry t.facts) le
    ∙ ap₂ (λ (f : Bool) (g : Bool). ended (is_one_of (written instr)) f g s.facts) fe se in
    ap₂ (λ (t : AbsState) (y : Option PairFacts). record t { facts = y }) le facts
    ∙ ap (λ (d : CarryTag). record s { flags = record s.flags { carry = d }; facts = ended (is_one_of (written instr)) (sets_flags instr) (sets_carry instr) s.facts }) ce

-- ---- a register that is written by its address

pub is_register_written : (device : Device) (s after : AbsState) (a : ℕ) (v b : AbsByte) (registers : List AbsByte) (c : CarryTag) (mask : ℕ) (x y : Option PairFacts)
    → b ≡ stored_value device a v → registers ≡ slice_set s.registers a b → c ≡ forgotten (a ∷ []) s.flags.carry
    → after ≡ record s { registers = registers; flags = record s.flags { carry = c } }
    → mask ≡ bits_of (a ∷ []) → mask < 2 ^ 64
    → x ≡ ended (is_bit_of mask) false false after.facts → y ≡ written_hull registers a x
    → record after { facts = y } ≡ register_written device s a v
is_register_written device s after a v b registers c mask x y be re ce ae me small xe ye =
    let set : registers ≡ slice_set s.registers a (stored_value device a v) = re ∙ ap (slice_set s.registers a) be in
    let left : x ≡ ended (is_one_of (a ∷ [])) false false s.facts =
    xe ∙ ended_by (a ∷ []) mask false false after.facts me small
    ∙ ap (λ (t : AbsState). ended (is_one_of (a ∷ [])) false false t.facts) ae in
    ap₂ (λ (t : AbsState) (z : Option PairFacts). record t { facts = z }) ae (ye ∙ ap (written_hull registers a) left)
    ∙ ap₂ (λ (rs : List AbsByte) (d : CarryTag). record s { registers = rs; flags = record s.flags { carry = d }; facts = written_hull rs a (ended (is_one_of (a ∷ [])) false false s.facts) }) set ce

-- ---- flags that are written

pub is_flags_set : (s after : AbsState) (v : AbsByte) (f : AbsFlags) (x : Option PairFacts)
    → f ≡ flags_written v → after ≡ record s { flags = f } → x ≡ ended (is_bit_of 0) true true after.facts
    → record after { facts = x } ≡ put_flags s (flags_written v)
is_flags_set s after v f x fe ae xe =
    let left : x ≡ ended (is_one_of []) true true s.facts =
    xe ∙ ended_by [] 0 true true after.facts refl (omega arith) ∙ ap (λ (t : AbsState). ended (is_one_of []) true true t.facts) ae in
    ap₂ (λ (t : AbsState) (y : Option PairFacts). record t { facts = y }) ae left
    ∙ ap (λ (g : AbsFlags). record s { flags = g; facts = ended (is_one_of []) true true s.facts }) fe
