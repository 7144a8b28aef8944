-- Writing back the cut pair gives the cut state.
use Rattle.std.proofs.Common.{◌≡◌, ◌∙◌, refl, ap, ℕ, ◌+◌, ◌*◌, Bool, Option, Some, None}
use Rattle.pair_domain.specs.declared.facts.PairFacts.{PairFacts}
use Rattle.pair_domain.specs.Facts.{interval_at}
use Rattle.pair_domain.specs.PairSets.{PairSet}
use Rattle.abs_state.specs.declared.cuts.PairBytes.{PairBytes}
use Rattle.abs_state.specs.declared.state.AbsState.{AbsState}
use Rattle.abs_state.specs.Values.{value_at}
use Rattle.abs_state.specs.Cuts.{with_pair, cut_known, cut_state}
use Rattle.abs_state.specs.PairBytes.{sets, left_by, left_in}
use Rattle.pair_cuts.specs.Places.{known_or_nothing}
use Rattle.pair_cuts.specs.Bytes.{bytes_at, put_known, put}

abbrev bytes_of : AbsState → ℕ → Option PairFacts → PairBytes
bytes_of s n x = record { low = value_at s.registers (2 * n); high = value_at s.registers (2 * n + 1); interval = interval_at (known_or_nothing x).intervals n }

left_written : (s : AbsState) (f : PairFacts) (n : ℕ) (left : Option PairSet) → put_known s n (left_by (bytes_of s n (Some f)) left) (Some f) ≡ with_pair s f n left
left_written s f n None = refl
left_written s f n (Some p) = refl

cut_written : (cut : PairSet → Option PairSet) (s : AbsState) (n : ℕ) (x : Option PairFacts)
    → put_known s n (left_by (bytes_of s n x) (cut (sets (bytes_of s n x)))) x ≡ cut_known cut s n x
cut_written cut s n None = refl
cut_written cut s n (Some f) = left_written s f n (cut (sets (bytes_of s n (Some f))))

pub is_cut : (cut : PairSet → Option PairSet) (s : AbsState) (n : ℕ) (pair : PairBytes) (left : Option PairBytes) (b : Bool) (new : AbsState)
    → pair ≡ bytes_at s n → left ≡ left_by pair (cut (sets pair)) → left_in b new ≡ put s n left → left_in b new ≡ cut_state cut s n
is_cut cut s n pair left b new is cuts writes =
    writes ∙ ap (put s n) cuts ∙ ap (λ (p : PairBytes). put s n (left_by p (cut (sets p)))) is ∙ cut_written cut s n s.facts
