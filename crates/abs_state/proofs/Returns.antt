-- The state after a return.
use Rattle.std.proofs.Common.{◌≡◌, sym, ◌∙◌, ap, subst, ℕ, ◌%◌, ◌<◌, ◌==◌, Bool, true, false, List, length, Option, Some, None, arith}
use Rattle.std.specs.Int.{bit_at}
use Rattle.avr_model.specs.Sreg.{flag}
use Rattle.sp_domain.specs.Tags.{Origin}
use Rattle.pair_domain.specs.declared.facts.PairFacts.{PairFacts}
use Rattle.std.specs.Prelude.{◌&&◌}
use Rattle.pair_domain.specs.Facts.{KnownHolds, is_followed}
use Rattle.abs_state.specs.declared.values.AbsByte.{AbsByte}
use Rattle.abs_state.specs.declared.state.AbsState.{AbsState}
use Rattle.abs_state.specs.Stands.{EntryHolds}
use Rattle.abs_state.specs.Order.{IsStateWithin}
use Rattle.abs_state.specs.Formed.{IsFormed, IsUntagged}
use Rattle.abs_state.specs.PairsBack.{interval_back, collected, facts_with, known_back, returned, Conflict}
use Rattle.abs_state.specs.Laws.{ReturnsAreTrue}
use Rattle.abs_state.proofs.Start.{low_bits}
use Rattle.abs_state.proofs.Returned.{bytes_return}
use Rattle.abs_state.proofs.PairsBack.{with_pairs_was, pairs_none, made}
use Rattle.abs_state.proofs.KnownBack.{following_was, known_fits}
use Rattle.abs_state.proofs.KnownStands.{known_holds, known_more}

-- flags 0 to 6 of two status registers that agree modulo 128
same_flag : (x y i : ℕ) → i < 7 → x % 128 ≡ y % 128 → flag x i ≡ flag y i
same_flag x y i h e = ap (λ (n : ℕ). n == 1) (low_bits x 7 i h ∙ ap (λ (n : ℕ). bit_at n i) e ∙ sym (low_bits y 7 i h))

-- if the callee kept the flags, they are those of the caller at the call
kept_flags : (callee : Origin) (entry : Bool) (left_sreg sreg new : ℕ) → EntryHolds callee entry sreg → callee.sreg % 128 ≡ left_sreg % 128 → new % 128 ≡ sreg % 128
    → entry ≡ true → (flag new 0 ≡ flag left_sreg 0) × (flag new 1 ≡ flag left_sreg 1) × (flag new 4 ≡ flag left_sreg 4)
kept_flags callee true left_sreg sreg new h kept same e =
    let all : new % 128 ≡ left_sreg % 128 = same ∙ h ∙ kept in
    (same_flag new left_sreg 0 (omega arith) all, same_flag new left_sreg 1 (omega arith) all, same_flag new left_sreg 4 (omega arith) all)
kept_flags callee false left_sreg sreg new h kept same e = absurd (cc)

-- parts of the state after a return, if it exists
pub answer_none : (caller exit : AbsState) → length exit.registers ≡ 34 → (t : Option AbsState) → t ≡ returned caller exit
    → (t ≡ None → Conflict caller exit) × (Conflict caller exit → t ≡ None)
answer_none caller exit n t e =
    let none = pairs_none caller exit (bytes_return.none caller exit n) in
    ((λ is. none.0 (sym e ∙ is)), (λ conflict. e ∙ none.1 conflict))

formed : (caller exit t : AbsState) (offset : ℕ) → IsFormed caller offset → IsFormed exit 0 → returned caller exit ≡ Some t → IsFormed t offset
formed caller exit t offset a b e =
    let was = with_pairs_was caller exit t e in
    let f = bytes_return.formed caller exit was.0 offset a b was.1.1.0 in
    subst (λ (s : AbsState). IsFormed s offset) was.1.1.2 record {
      count_registers = f.count_registers;
      registers = f.registers;
      bit_7 = f.bit_7;
      count_slots = f.count_slots;
      slots = f.slots;
      carry = f.carry;
      ranges = f.ranges;
      slot_ranges = f.slot_ranges;
      facts = known_fits caller.facts exit.registers exit.flags.entry exit.facts was.0.registers was.1.0 a.facts b.facts was.1.1.1;
    }

-- pairs are followed if both states follow them
known_followed : (caller : Option PairFacts) (exit : List AbsByte) (entry : Bool) (found : Option PairFacts) (registers : List AbsByte) (x : Option PairFacts)
    → known_back caller exit entry found registers ≡ Some x → is_followed x ≡ (is_followed caller && is_followed found)
known_followed None exit entry found registers x e = let same : None ≡ x = cc in ap is_followed (sym same)
known_followed (Some f) exit entry None registers x e = let same : None ≡ x = cc in ap is_followed (sym same)
known_followed (Some f) exit entry (Some g) registers x e =
    let was = following_was (facts_with f exit entry (collected (interval_back f.intervals exit g.intervals registers) 0 16)) x e in
    ap is_followed (sym was.1.1)

followed : (caller exit t : AbsState) → returned caller exit ≡ Some t → is_followed t.facts ≡ (is_followed caller.facts && is_followed exit.facts)
followed caller exit t e =
    let was = with_pairs_was caller exit t e in
    ap (λ (s : AbsState). is_followed s.facts) (sym was.1.1.2) ∙ known_followed caller.facts exit.registers exit.flags.entry exit.facts was.0.registers was.1.0 was.1.1.1

untagged : (caller exit t : AbsState) (offset : ℕ) → IsFormed caller offset → IsFormed exit 0 → IsUntagged caller → returned caller exit ≡ Some t → IsUntagged t
untagged caller exit t offset a b none e =
    let was = with_pairs_was caller exit t e in
    let u = bytes_return.untagged caller exit was.0 offset a b none was.1.1.0 in
    subst IsUntagged was.1.1.2 (record { registers = u.registers; entry = u.entry; carry = u.carry; slots = u.slots })

more : (caller caller' exit exit' t : AbsState) (offset : ℕ) → IsFormed caller offset → IsFormed caller' offset → IsFormed exit 0 → IsFormed exit' 0
    → IsStateWithin caller caller' → IsStateWithin exit exit' → returned caller exit ≡ Some t
    → (t' : AbsState) × (returned caller' exit' ≡ Some t') × IsStateWithin t t'
more caller caller' exit exit' t offset a a' b b' le over e =
    let was = with_pairs_was caller exit t e in
    let above = bytes_return.more caller caller' exit exit' was.0 offset a a' b b' le over was.1.1.0 in
    let w = above.2 in
    let known =
    known_more exit.registers exit'.registers was.0.registers above.0.registers over.registers w.registers caller.facts caller'.facts exit.facts exit'.facts
    exit.flags.entry exit'.flags.entry a'.facts le.facts over.facts over.flags.entry b'.registers was.1.0 was.1.1.1 in (
      record above.0 { facts = known.0 },
      made caller' exit' above.0 known.0 above.1 known.1.0,
      subst (λ (s : AbsState). IsStateWithin s (record above.0 { facts = known.0 })) was.1.1.2
          (record { registers = w.registers; flags = w.flags; count = w.count; slots = w.slots; facts = known.1.1 }),
    )

pub returns_are_true : ReturnsAreTrue
returns_are_true = record {
  stands = λ o callee caller exit offset left registers left_sreg sreg new memory a b values flags less slots known kept values_out flags_out found same.
      let s = bytes_return.stands o callee caller exit offset left registers left_sreg sreg new memory a b values flags less slots kept values_out flags_out same in
      let known_in = subst (λ (rs : List ℕ). KnownHolds caller.facts rs (flag left_sreg 0) (flag left_sreg 1) (flag left_sreg 4)) (sym kept.registers_kept) known in
      let back =
      known_holds o callee exit.registers s.0.registers registers values_out b.registers s.2 caller.facts exit.facts exit.flags.entry (flag left_sreg 0) (flag left_sreg 1)
      (flag left_sreg 4) (flag sreg 0) (flag sreg 1) (flag sreg 4) a.facts known_in found (flag new 0) (flag new 1) (flag new 4)
      (kept_flags callee exit.flags.entry left_sreg sreg new flags_out.entry kept.flags_kept same) in
      (record s.0 { facts = back.0 }, made caller exit s.0 back.0 s.1 back.1.0, s.2, s.3, s.4, s.5, back.1.1);
  followed = followed;
  formed = formed;
  untagged = untagged;
  more = more;
  none = λ caller exit n. pairs_none caller exit (bytes_return.none caller exit n);
}
