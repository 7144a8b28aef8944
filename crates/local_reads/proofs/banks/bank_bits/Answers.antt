use Rattle.std.proofs.Common.{◌∙◌, ◌-◌, ◌≤◌, ap, subst, ℕ}
use Rattle.std.specs.Int.{bit_at}
use Rattle.std.specs.Int.RustNames.{bit_or, bit_and}
use Rattle.bit_domain.specs.TriByte.{tri_of, byte_of}
use Rattle.local_reads.proofs.Banked.{cut_bits}
use Rattle.local_reads.proofs.banks.bank_bits.Goals as goal

pub returns : goal.returns
returns c =
    let t = c.args.bits in
    c.new.ensures
    ∙ ap (λ (m : ℕ). byte_of (λ i. tri_of (bit_at (bit_or t.known (255 - m)) i) (bit_at (bit_and t.value m) i))) c.bank_most-most.ensures.exact
    ∙ cut_bits c.args.device c.args.r t (subst (λ (m : ℕ). m ≤ 3) c.bank_most-most.ensures.exact c.bank_most-most.ensures.most)
