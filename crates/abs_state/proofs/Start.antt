-- The root's state at reset, and the states at entries.
use Rattle.std.proofs.Common.{◌≡◌, refl, sym, ◌∙◌, ap, subst, ℕ, zero, suc, ◌+◌, ◌*◌, ◌/◌, ◌%◌, ◌^◌, ◌<◌, ◌==◌, Bool, true, false, if◌then◌else◌, ◌≤◌, ◌⊎◌, List, [], ◌∷◌, ◌++◌, replicate, length, slice_index, inl, inr, arith, Option, Some, None}
use Rattle.std.proofs.lemmas.Bool.{cases_eq, cases_lt}
use Rattle.std.proofs.lemmas.Nat.Bits.{bit_at-zero, bit_at_cat_low}
use Rattle.std.specs.Int.{bit_at}
use Rattle.bit_domain.specs.declared.bits.Tri.{Tri}
use Rattle.bit_domain.specs.declared.bits.Tri.TheVariants.{Zero, Any}
use Rattle.bit_domain.specs.declared.bytes.TriByte.{TriByte}
use Rattle.bit_domain.specs.Tri.{Permits}
use Rattle.bit_domain.specs.TriByte.{tri_of, tri_at, byte_of, Has}
use Rattle.bit_domain.specs.Packed.{packed}
use Rattle.bit_domain.proofs.AllLaws.{bytes_are_their_bits, bytes_are_sets}
use Rattle.avr_model.specs.Devices.{ramend}
use Rattle.pair_domain.specs.declared.facts.PairFacts.{PairFacts}
use Rattle.pair_domain.specs.Facts.{is_followed, KnownHolds, IsKnownWithin}
use Rattle.pair_domain.specs.Rank.{KnownFits}
use Rattle.sp_domain.specs.declared.tags.Tag.TheVariants as tag
use Rattle.abs_state.specs.declared.values.AbsByte.{AbsByte}
use Rattle.abs_state.specs.declared.state.AbsState.{AbsState}
use Rattle.abs_state.specs.Values.{unknown, known, value_at, clear_flags, root, valued, set_of}
use Rattle.bit_domain.specs.TriByte.{byte_any, byte_known}
use Rattle.sp_domain.specs.Tags.{Origin}
use Rattle.std.proofs.lemmas.List.Elements.{All-get_or}
use Rattle.abs_state.specs.Stands.{ByteStands}
use Rattle.abs_state.specs.Order.{IsByteWithin}
use Rattle.abs_state.specs.Frames.{tagged_from, known_entered, entered}
use Rattle.abs_state.specs.Formed.{NamesRegister, ByteFits}
use Rattle.abs_state.specs.Laws.{ResetStands, EntriesAreTrue}
use Rattle.abs_state.proofs.Ordered.{bits_make_values}

-- ---- reset

-- r0 to r31 are unknown, and RAMPZ and EIND are 0
replicated_value : (n r : ℕ) (vs : List AbsByte) → r < n → value_at (replicate n unknown ++ vs) r ≡ unknown
replicated_value zero r vs h = absurd (omega arith)
replicated_value (suc n) zero vs h = refl
replicated_value (suc n) (suc r) vs h = replicated_value n r vs (omega arith)

pub root_value : (r : ℕ) → r < 32 → value_at root.registers r ≡ unknown
root_value r h = replicated_value 32 r (known 0 ∷ known 0 ∷ []) h

-- a property of an unknown byte and of 0 holds of each register
replicated_each : (Q : AbsByte → Type 0) (n r : ℕ) → Q unknown → Q (known 0) → Q (value_at (replicate n unknown ++ known 0 ∷ known 0 ∷ []) r)
replicated_each Q zero zero any none = none
replicated_each Q zero (suc zero) any none = none
replicated_each Q zero (suc (suc r)) any none = any
replicated_each Q (suc n) zero any none = any
replicated_each Q (suc n) (suc r) any none = replicated_each Q n r any none

pub root_each : (Q : AbsByte → Type 0) (r : ℕ) → Q unknown → Q (known 0) → Q (value_at root.registers r)
root_each Q r any none = replicated_each Q 32 r any none

zero_stands : (o : Origin) (x : ℕ) → x ≡ 0 → ByteStands o (known 0) x
zero_stands o x is =
    subst (ByteStands o (known 0)) (sym is) (bits_make_values.stands o tag.None (byte_known 0) 0 (omega arith) tt ((bytes_are_sets.known 0 0 (omega arith) (omega arith)).1 refl))

clear_permits : (b : Bool) → Permits (if b then Any else Zero) 0
clear_permits true = tt
clear_permits false = refl

clear_has : Has clear_flags 0
clear_has = bytes_are_sets.built (λ i. if i == 7 then Any else Zero) 0 (λ i h.
    subst (λ (n : ℕ). Permits (if i == 7 then Any else Zero) n) (sym (bit_at-zero i)) (clear_permits (i == 7)))

-- the flags after reset, as the code writes them
pub cleared : byte_of (λ i. tri_of (bit_at 0x7F i) (bit_at 0 i)) ≡ clear_flags
unfolding packed
cleared = bytes_are_their_bits.from_fields (byte_of (λ i. tri_of (bit_at 0x7F i) (bit_at 0 i))) clear_flags refl refl

pub any_stands : (o : Origin) (x : ℕ) → x < 256 → ByteStands o unknown x
any_stands o x small = bits_make_values.stands o tag.None byte_any x small tt (bytes_are_sets.built (λ _. Any) x (λ i k. tt))

reset_register : (o : Origin) (registers : List ℕ) → slice_index registers 32 ≡ 0 → slice_index registers 33 ≡ 0 → (r : ℕ) → r < 34 → slice_index registers r < 256
    → ByteStands o (value_at root.registers r) (slice_index registers r)
reset_register o registers rampz eind r h small = by (cases_lt r 32) (cases_eq r 32)
  where
    by : (r < 32) ⊎ (32 ≤ r) → (r ≡ 32) ⊎ (r ≡ 32 → ⊥) → ByteStands o (value_at root.registers r) (slice_index registers r)
    by (inl lt) _ = subst (λ (v : AbsByte). ByteStands o v (slice_index registers r)) (sym (root_value r lt)) (any_stands o (slice_index registers r) small)
    by (inr ge) (inl is) =
        let P : ℕ → Type 0 = λ k. ByteStands o (value_at root.registers k) (slice_index registers k) in
        subst P (sym is) (zero_stands o (slice_index registers 32) rampz)
    by (inr ge) (inr ne) =
        let is : r ≡ 33 = omega (arith, h, ge, ne) in
        let P : ℕ → Type 0 = λ k. ByteStands o (value_at root.registers k) (slice_index registers k) in
        subst P (sym is) (zero_stands o (slice_index registers 33) eind)

pub reset_stands : ResetStands
reset_stands = record {
  stands = λ device m reset. record {
    registers = λ r h.
        reset_register (record { registers = m.registers; sreg = m.sreg; base = ramend device }) m.registers reset.rampz reset.eind r h
        (All-get_or (λ b. b < 256) m.registers r 0 (omega (arith, reset.count_registers)) reset.register_bytes);
    flags = record { entry = tt; bits = subst (Has clear_flags) (sym reset.sreg) clear_has; carry = tt };
    less = tt;
    slots = λ d h. absurd (omega arith);
  };
  formed = record {
    count_registers = refl;
    registers = λ r h. root_each (λ (v : AbsByte). NamesRegister v.tag) r tt tt;
    bit_7 = bytes_are_their_bits.has_bits (λ i. if i == 7 then Any else Zero) 7 (omega arith);
    count_slots = refl;
    slots = λ d h. absurd (omega arith);
    carry = tt;
    ranges = λ r h. root_each ByteFits r (bits_make_values.fits tag.None byte_any) (bits_make_values.fits tag.None (byte_known 0));
    slot_ranges = λ d h. absurd (omega arith);
    facts = tt;
  };
  untagged = record {
    registers = λ r h. root_each (λ (v : AbsByte). v.tag ≡ tag.None) r refl refl;
    entry = refl;
    carry = tt;
    slots = λ d h. absurd (omega arith);
  };
}

-- ---- entries

abbrev pub tagged : AbsByte → ℕ → AbsByte
tagged v r = valued (tag.Entry r) (set_of v)

pub length-tagged_from : (n : ℕ) (vs : List AbsByte) → length (tagged_from n vs) ≡ length vs
length-tagged_from n [] = refl
length-tagged_from n (v ∷ vs) = ap suc (length-tagged_from (suc n) vs)

value_at-tagged : (vs : List AbsByte) (n r : ℕ) → r < length vs → value_at (tagged_from n vs) r ≡ valued (tag.Entry (n + r)) (set_of (value_at vs r))
value_at-tagged [] n r h = absurd (omega arith)
value_at-tagged (v ∷ vs) n zero h =
    let e : n ≡ n + 0 = omega arith in
    ap (λ (k : ℕ). tagged v k) e
value_at-tagged (v ∷ vs) n (suc r) h =
    let e : suc n + r ≡ n + suc r = omega arith in
    value_at-tagged vs (suc n) r (omega arith) ∙ ap (λ (k : ℕ). tagged (value_at vs r) k) e

pub tagged_value : (vs : List AbsByte) (r : ℕ) → r < length vs → value_at (tagged_from 0 vs) r ≡ tagged (value_at vs r) r
tagged_value vs r h =
    let e : 0 + r ≡ r = omega arith in
    value_at-tagged vs 0 r h ∙ ap (λ (k : ℕ). tagged (value_at vs r) k) e

pub entered_value : (s : AbsState) (r : ℕ) → length s.registers ≡ 34 → r < 34 → value_at (entered s).registers r ≡ tagged (value_at s.registers r) r
entered_value s r n h = tagged_value s.registers r (omega arith)

-- the low k bits of a number are those of its remainder
pub low_bits : (x k i : ℕ) → i < k → bit_at x i ≡ bit_at (x % 2 ^ k) i
low_bits x k i h =
    let e : x ≡ x / 2 ^ k * 2 ^ k + x % 2 ^ k = omega arith in
    ap (λ (n : ℕ). bit_at n i) e ∙ bit_at_cat_low (x / 2 ^ k) k (x % 2 ^ k) i h

-- bits 0 to 6 of two status registers that agree modulo 128
same_low_bit : (x y i : ℕ) → i < 7 → x % 128 ≡ y % 128 → bit_at x i ≡ bit_at y i
same_low_bit x y i h e = low_bits x 7 i h ∙ ap (λ (n : ℕ). bit_at n i) e ∙ sym (low_bits y 7 i h)

-- if bit 7 is unknown, the bits permit each status register with these bits 0 to 6
pub has_flags : (t : TriByte) (x y : ℕ) → tri_at t 7 ≡ Any → x % 128 ≡ y % 128 → Has t x → Has t y
has_flags t x y any e has i h = elim (cases_eq i 7) [
  | inl same ↦ subst (λ (u : Tri). Permits u (bit_at y i)) (sym (ap (tri_at t) same ∙ any)) tt
  | inr other ↦ subst (λ (n : ℕ). Permits (tri_at t i) n) (same_low_bit x y i (omega arith) e) (has i h)
]

entered_facts_fit : (x : Option PairFacts) → KnownFits x → KnownFits (known_entered x)
entered_facts_fit None a = tt
entered_facts_fit (Some f) a = record { count = a.count; intervals = a.intervals; sum = tt; compare = tt; zero = tt }

entered_facts_less : (x y : Option PairFacts) → IsKnownWithin x y → IsKnownWithin (known_entered x) (known_entered y)
entered_facts_less x None le = tt
entered_facts_less None (Some g) le = absurd le
entered_facts_less (Some f) (Some g) le = record { intervals = le.intervals; sum = tt; compare = tt; zero = tt }

entered_followed : (x : Option PairFacts) → is_followed (known_entered x) ≡ is_followed x
entered_followed None = refl
entered_followed (Some f) = refl

entered_facts_hold : (x : Option PairFacts) (registers : List ℕ) (c z s c' z' s' : Bool) → KnownHolds x registers c z s → KnownHolds (known_entered x) registers c' z' s'
entered_facts_hold None registers c z s c' z' s' h = tt
entered_facts_hold (Some f) registers c z s c' z' s' h = record { intervals = h.intervals; sum = tt; compare = tt; zero = tt }

pub entries_are_true : EntriesAreTrue
entries_are_true = record {
  registers = λ o s registers sreg base n h r lt.
      subst (λ (v : AbsByte). ByteStands (record { registers = registers; sreg = sreg; base = base }) v (slice_index registers r)) (sym (entered_value s r n lt))
      record { tag = refl; bits = (h r lt).bits; low = (h r lt).low; high = (h r lt).high; small = (h r lt).small };
  flags = λ o s offset registers sreg new base formed same h. record {
    entry = same;
    bits = has_flags s.flags.bits sreg new formed.bit_7 (sym same) h.bits;
    carry = tt;
  };
  facts = λ s. entered_facts_hold s.facts;
  followed = λ s. entered_followed s.facts;
  formed = λ s offset formed. record {
    count_registers = length-tagged_from 0 s.registers ∙ formed.count_registers;
    registers = λ r h. subst (λ (v : AbsByte). NamesRegister v.tag) (sym (entered_value s r formed.count_registers h)) h;
    bit_7 = formed.bit_7;
    count_slots = refl;
    slots = λ d h. absurd (omega arith);
    carry = tt;
    ranges = λ r h. subst ByteFits (sym (entered_value s r formed.count_registers h)) (formed.ranges r h);
    slot_ranges = λ d h. absurd (omega arith);
    facts = entered_facts_fit s.facts formed.facts;
  };
  more = λ s t m n le. record {
    registers = λ r h.
        subst (λ (v : AbsByte). IsByteWithin v (value_at (entered t).registers r)) (sym (entered_value s r m h))
        (subst (IsByteWithin (tagged (value_at s.registers r) r)) (sym (entered_value t r n h)) record { tag = refl; bits = (le.registers r h).bits; low = (le.registers r h).low; high = (le.registers r h).high });
    flags = record { entry = λ e. refl; bits = le.flags.bits; carry = tt };
    count = refl;
    slots = λ d h. absurd (omega arith);
    facts = entered_facts_less s.facts t.facts le.facts;
  };
}
