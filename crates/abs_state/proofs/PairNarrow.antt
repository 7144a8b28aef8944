-- A pair cut to an interval.
use Rattle.std.proofs.Common.{◌≡◌, refl, sym, ◌∙◌, ap, subst₂, ℕ, ◌+◌, ◌*◌, ◌/◌, Option, Some, None}
use Rattle.std.proofs.lemmas.Option.{same_Some}
use Rattle.bit_domain.specs.Ranges.{ByteSet}
use Rattle.pair_domain.specs.declared.intervals.Interval.{Interval}
use Rattle.pair_domain.specs.Intervals.{interval_meet}
use Rattle.pair_domain.specs.Narrow.{narrow}
use Rattle.pair_domain.specs.declared.facts.PairFacts.{PairFacts}
use Rattle.pair_domain.specs.Facts.{interval_at}
use Rattle.pair_domain.specs.PairSets.{PairSet, cut_pair, low_within, with_both, bytes_within, narrow_pair}
use Rattle.abs_state.specs.declared.values.AbsByte.{AbsByte}
use Rattle.abs_state.specs.declared.cuts.PairBytes.{PairBytes}
use Rattle.abs_state.specs.declared.state.AbsState.{AbsState}
use Rattle.abs_state.specs.Values.{value_at, valued, set_of}
use Rattle.abs_state.specs.Frames.{with_tag}
use Rattle.abs_state.specs.Cuts.{pair_set, with_pair, cut_known}
use Rattle.abs_state.specs.PairBytes.{sets, left_by, pair_in, with_interval, put}
use Rattle.abs_state.proofs.Back.{tag_met}

pub narrow_left : (p : PairBytes) (i j : Interval) (low high : AbsByte) → interval_meet p.interval i ≡ Some j → with_tag p.low.tag (low_within (set_of p.low) j) ≡ Some low
    → with_tag p.high.tag (narrow (set_of p.high) (j.low / 256) (j.high / 256)) ≡ Some high
    → left_by (record { low = low; high = high; interval = j }) (cut_pair (record { low = set_of low; high = set_of high; interval = j })) ≡ left_by p (narrow_pair (sets p) i)
narrow_left p i j low high e l h =
    let a = tag_met p.low.tag (low_within (set_of p.low) j) low l in
    let b = tag_met p.high.tag (narrow (set_of p.high) (j.low / 256) (j.high / 256)) high h in
    let all : narrow_pair (sets p) i ≡ cut_pair (record { low = a.0; high = b.0; interval = j }) =
    ap (bytes_within (sets p)) e
    ∙ ap (λ (o : Option ByteSet). with_both j o (narrow (set_of p.high) (j.low / 256) (j.high / 256))) a.1.0
    ∙ ap (λ (o : Option ByteSet). with_both j (Some a.0) o) b.1.0 in
    let P : AbsByte → AbsByte → Type 0 = λ x y.
    left_by (record { low = x; high = y; interval = j }) (cut_pair (record { low = set_of x; high = set_of y; interval = j })) ≡ left_by p (narrow_pair (sets p) i) in
    subst₂ P (sym a.1.1) (sym b.1.1) (ap (left_by p) (sym all))

-- ---- cuts of a state are those of a pair of it

pub cut_by : (cut : PairSet → Option PairSet) (s : AbsState) (n : ℕ) (x : Option PairFacts) → s.facts ≡ x → (p : PairBytes) → pair_in s n x ≡ Some p → (left : Option PairBytes)
    → left ≡ left_by p (cut (sets p)) → put s n left ≡ cut_known cut s n x
cut_by cut s n None is p e left l = absurd (cc)
cut_by cut s n (Some f) is p e left l =
    let same : q ≡ p = same_Some q p e in
    ap (put s n) l ∙ ap (λ (r : PairBytes). put s n (left_by r (cut (sets r)))) (sym same) ∙ by (cut (sets q))
  where
    q : PairBytes
    q = record { low = value_at s.registers (2 * n); high = value_at s.registers (2 * n + 1); interval = interval_at f.intervals n }

    by : (o : Option PairSet) → put s n (left_by q o) ≡ with_pair s f n o
    by None = refl
    by (Some m) =
        ap (λ (y : Option PairFacts). Some (record s { registers = pair_set s.registers n m; facts = with_interval n (record { low = valued q.low.tag m.low; high = valued q.high.tag m.high; interval = m.interval }) y })) is
