-- Faults are determined by cause, word and depth.
use Rattle.std.proofs.Common.{◌≡◌, refl, sym, ap, ◌∙◌, ℕ, ◌<◌, ◌≤◌, ◌⊎◌, ◌==◌, if◌then◌else◌, inl, inr, arith}
use Rattle.local_rules.specs.declared.local.NodeFault.{NodeFault}
use Rattle.local_rules.specs.declared.local.NodeFault.TheVariants.{UnresolvedJump, UntrackedSp, Unsupported, TooDeep, UnknownPointer, Memory}
use Rattle.local_rules.specs.Faults.{cause_of, fault_offset}
use Rattle.round_rules.specs.Refusals.{word_of, IsFaultNoLater}

abbrev fault_by : ℕ → ℕ → ℕ → NodeFault
fault_by cause word depth =
    if cause == 1 then UnresolvedJump word else (if cause == 4 then UntrackedSp word else (if cause == 5 then Unsupported word else (
    if cause == 6 then TooDeep word depth else (if cause == 8 then UnknownPointer word else Memory))))

is_by : (x : NodeFault) → fault_by (cause_of x) (word_of x) (fault_offset x) ≡ x
is_by (UnresolvedJump pc) = refl
is_by (UntrackedSp pc) = refl
is_by (Unsupported pc) = refl
is_by (TooDeep pc offset) = refl
is_by (UnknownPointer pc) = refl
is_by Memory = refl

fault_same : (x y : NodeFault) → cause_of x ≡ cause_of y → word_of x ≡ word_of y → fault_offset x ≡ fault_offset y → x ≡ y
fault_same x y c w d = sym (is_by x) ∙ ap (λ n. fault_by n (word_of x) (fault_offset x)) c ∙ ap (λ n. fault_by (cause_of y) n (fault_offset x)) w ∙ ap (λ n. fault_by (cause_of y) (word_of y) n) d ∙ is_by y

pub later_once : (x y : NodeFault) → IsFaultNoLater x y → IsFaultNoLater y x → x ≡ y
later_once x y (inl lt) (inl gt) = absurd (omega (arith, lt, gt))
later_once x y (inl lt) (inr h) = absurd (omega (arith, lt, h.0))
later_once x y (inr h) (inl gt) = absurd (omega (arith, gt, h.0))
later_once x y (inr h) (inr k) = by h.1 k.1
  where
    by : (word_of x < word_of y) ⊎ ((word_of x ≡ word_of y) × (fault_offset x ≤ fault_offset y)) → (word_of y < word_of x) ⊎ ((word_of y ≡ word_of x) × (fault_offset y ≤ fault_offset x)) → x ≡ y
    by (inl lt) (inl gt) = absurd (omega (arith, lt, gt))
    by (inl lt) (inr e) = absurd (omega (arith, lt, e.0))
    by (inr e) (inl gt) = absurd (omega (arith, gt, e.0))
    by (inr e) (inr d) = fault_same x y h.0 e.0 (omega (arith, e.1, d.1))
