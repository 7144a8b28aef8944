use Rattle.std.proofs.Common.{◌∙◌, sym, ap, true, false, Some}
use Rattle.avr_model.specs.declared.instruction.BinaryOp.{BinaryOp}
use Rattle.avr_model.specs.declared.operation.Logic.TheVariants as logic
use Rattle.bit_domain.specs.declared.bits.Tri.TheVariants.{Zero}
use Rattle.bit_domain.specs.TriByte.{byte_constant}
use Rattle.local_rules.specs.Registers.{or_nothing, less_than, less_kept, compare_after, sbc_after, sum_after, sub_after, logic_after, register_set, binary_after}
use Rattle.local_rows.proofs.rows.binary.Goals as goal

pub returns-in-Cpc : goal.returns-in-Cpc
returns-in-Cpc c =
    let s = c.args.state.now in
    let d = c.args.d in
    let r = c.args.r in
    let a = c.bits-a.ensures in
    let b = c.bits-b.ensures in
    let carry = c.carry_bit-carry.ensures in
    let says = c.less_kept-says.ensures ∙ (λ p. less_kept ((c.constant.ensures ∙ ap byte_constant a) p) ((c.constant-in-Cpc.ensures ∙ ap byte_constant b) p) s.flags.carry) in
    ap Some (c.compare.ensures ∙ (λ p. compare_after s (a p, b p) (carry p, true) (says p)))
    ∙ ap (λ (op : BinaryOp). binary_after c.args.view s op d r) (sym c.in-Cpc.is)

pub returns-in-Sbc : goal.returns-in-Sbc
returns-in-Sbc c =
    let s = c.args.state.now in
    let d = c.args.d in
    let r = c.args.r in
    let b = c.bits-b.ensures in
    ap Some (c.sbc.ensures ∙ (λ p. sbc_after c.args.view s d (b p) ((c.constant-in-Sbc.ensures ∙ ap byte_constant b) p)))
    ∙ ap (λ (op : BinaryOp). binary_after c.args.view s op d r) (sym c.in-Sbc.is)

pub returns-in-Add : goal.returns-in-Add
returns-in-Add c =
    let s = c.args.state.now in
    let d = c.args.d in
    let r = c.args.r in
    let b = c.bits-b.ensures in
    ap Some (c.sum_tagged.ensures ∙ (λ p. sum_after s d (b p) Zero))
    ∙ ap (λ (op : BinaryOp). binary_after c.args.view s op d r) (sym c.in-Add.is)

pub returns-in-Cpse : goal.returns-in-Cpse
returns-in-Cpse c =
    let s = c.args.state.now in
    let d = c.args.d in
    let r = c.args.r in
    ap (λ (op : BinaryOp). binary_after c.args.view s op d r) (sym c.in-Cpse.is)

pub returns-in-Cp : goal.returns-in-Cp
returns-in-Cp c =
    let s = c.args.state.now in
    let d = c.args.d in
    let r = c.args.r in
    let a = c.bits-a.ensures in
    let b = c.bits-b.ensures in
    let says = c.less_than-says.ensures ∙ (λ p. less_than d ((c.constant-in-Cp.ensures ∙ ap byte_constant b) p)) in
    ap Some (c.compare-in-Cp.ensures ∙ (λ p. compare_after s (a p, b p) (Zero, false) (says p)))
    ∙ ap (λ (op : BinaryOp). binary_after c.args.view s op d r) (sym c.in-Cp.is)

pub returns-in-Sub : goal.returns-in-Sub
returns-in-Sub c =
    let s = c.args.state.now in
    let d = c.args.d in
    let r = c.args.r in
    let b = c.bits-b.ensures in
    let from = c.or_nothing-from.ensures ∙ ap (or_nothing d r) c.bits-a.ensures in
    let other = c.or_nothing-other.ensures ∙ ap (or_nothing d r) c.bits-b.ensures in
    ap Some (c.sub.ensures ∙ (λ p. sub_after s d (from p) (other p) ((c.constant-in-Sub.ensures ∙ ap byte_constant b) p)))
    ∙ ap (λ (op : BinaryOp). binary_after c.args.view s op d r) (sym c.in-Sub.is)

pub returns-in-Adc : goal.returns-in-Adc
returns-in-Adc c =
    let s = c.args.state.now in
    let d = c.args.d in
    let r = c.args.r in
    let b = c.bits-b.ensures in
    let carry = c.carry_bit-carry.ensures in
    ap Some (c.sum_tagged-in-Adc.ensures ∙ (λ p. sum_after s d (b p) (carry p)))
    ∙ ap (λ (op : BinaryOp). binary_after c.args.view s op d r) (sym c.in-Adc.is)

pub returns-in-And : goal.returns-in-And
returns-in-And c =
    let s = c.args.state.now in
    let d = c.args.d in
    let r = c.args.r in
    let a = c.bits-a.ensures in
    let b = c.bits-b.ensures in
    ap Some (c.logic.ensures ∙ (λ p. logic_after s logic.And d (a p, b p) (c.eq.ensures p)))
    ∙ ap (λ (op : BinaryOp). binary_after c.args.view s op d r) (sym c.in-And.is)

pub returns-in-Eor : goal.returns-in-Eor
returns-in-Eor c =
    let s = c.args.state.now in
    let d = c.args.d in
    let r = c.args.r in
    let from = c.or_nothing-from.ensures ∙ ap (or_nothing d r) c.bits-a.ensures in
    let other = c.or_nothing-other.ensures ∙ ap (or_nothing d r) c.bits-b.ensures in
    ap Some (c.logic-in-Eor.ensures ∙ (λ p. logic_after s logic.Eor d (from p, other p) false))
    ∙ ap (λ (op : BinaryOp). binary_after c.args.view s op d r) (sym c.in-Eor.is)

pub returns-in-Or : goal.returns-in-Or
returns-in-Or c =
    let s = c.args.state.now in
    let d = c.args.d in
    let r = c.args.r in
    let a = c.bits-a.ensures in
    let b = c.bits-b.ensures in
    ap Some (c.logic-in-Or.ensures ∙ (λ p. logic_after s logic.Or d (a p, b p) (c.eq-in-Or.ensures p)))
    ∙ ap (λ (op : BinaryOp). binary_after c.args.view s op d r) (sym c.in-Or.is)

pub returns-in-Mov : goal.returns-in-Mov
returns-in-Mov c =
    let s = c.args.state.now in
    let d = c.args.d in
    let r = c.args.r in
    ap Some (c.register_set.ensures ∙ (λ p. register_set s d (c.value.ensures p)))
    ∙ ap (λ (op : BinaryOp). binary_after c.args.view s op d r) (sym c.in-Mov.is)

pub returns-in-Mul : goal.returns-in-Mul
returns-in-Mul c =
    let s = c.args.state.now in
    let d = c.args.d in
    let r = c.args.r in
    ap Some c.product.ensures
    ∙ ap (λ (op : BinaryOp). binary_after c.args.view s op d r) (sym c.in-Mul.is)
