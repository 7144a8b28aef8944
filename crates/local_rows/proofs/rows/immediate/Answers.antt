use Rattle.std.proofs.Common.{◌≡◌, refl, ◌∙◌, sym, ap, ap₂, if◌then◌else◌, Bool, true, false, Some}
use Rattle.avr_model.specs.declared.instruction.ImmediateOp.{ImmediateOp}
use Rattle.avr_model.specs.declared.instruction.ImmediateOp.TheVariants as immediate
use Rattle.bit_domain.specs.declared.bits.Tri.TheVariants.{Zero}
use Rattle.local_rules.specs.declared.computed.Computed.{Computed}
use Rattle.local_rules.specs.Registers.{compare_after, sub_after, sbc_after, immediate_after}
use Rattle.local_rules.specs.FrameLines.{framed_sub, immediate_at}
use Rattle.local_rows.proofs.rows.immediate.Goals as goal

-- a row that a `frame` line does not change
alike : (line : Bool) (x : Computed) → x ≡ (if line then x else x)
alike true x = refl
alike false x = refl

pub returns-in-Cpi : goal.returns-in-Cpi
returns-in-Cpi c =
    let s = c.args.state.now in
    c.compare.ensures ∙ (λ p. compare_after s (c.bits-a.ensures p, c.of-b.ensures.bits p) (Zero, false) (c.less_than.ensures p))
    ∙ alike c.args.line (immediate_after c.args.view s immediate.Cpi c.args.operands.0 c.args.operands.1)
    ∙ ap (λ (op : ImmediateOp). immediate_at c.args.view c.args.line s op c.args.operands.0 c.args.operands.1) (sym c.in-Cpi.is)

pub returns-in-Sbci : goal.returns-in-Sbci
returns-in-Sbci c =
    let s = c.args.state.now in
    c.sbc.ensures ∙ (λ p. sbc_after c.args.view s c.args.operands.0 (c.of-b.ensures.bits p) (Some c.args.operands.1))
    ∙ alike c.args.line (immediate_after c.args.view s immediate.Sbci c.args.operands.0 c.args.operands.1)
    ∙ ap (λ (op : ImmediateOp). immediate_at c.args.view c.args.line s op c.args.operands.0 c.args.operands.1) (sym c.in-Sbci.is)

pub returns-in-Subi : goal.returns-in-Subi
returns-in-Subi c =
    let s = c.args.state.now in
    c.framed_sub.ensures ∙ (λ p. framed_sub s c.args.operands.0 (c.of-b.ensures.bits p) (Some c.args.operands.1))
    ∙ ap₂ (λ (line : Bool) (op : ImmediateOp). immediate_at c.args.view line s op c.args.operands.0 c.args.operands.1) (sym c.if-line.true) (sym c.in-Subi.is)

pub returns-in-Subi-2 : goal.returns-in-Subi-2
returns-in-Subi-2 c =
    let s = c.args.state.now in
    c.sub.ensures ∙ (λ p. sub_after s c.args.operands.0 (c.bits-a.ensures p) (c.of-b.ensures.bits p) (Some c.args.operands.1))
    ∙ ap₂ (λ (line : Bool) (op : ImmediateOp). immediate_at c.args.view line s op c.args.operands.0 c.args.operands.1) (sym c.if-line.false) (sym c.in-Subi-2.is)
