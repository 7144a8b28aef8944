use Rattle.std.proofs.Common.{◌≡◌, ◌∙◌, sym, ap, subst, length, slice_set, length-set, arith}
use Rattle.abs_state.specs.declared.state.AbsState.{AbsState}
use Rattle.abs_state.proofs.AllLaws.{reset_stands}
use Rattle.value_tables.proofs.Named.{AllName, set_names}
use Rattle.value_tables.proofs.tests.states.state.Goals as goal

pub returns : goal.returns
returns c =
    let root = c.root-state.result.registers in
    let count : length root ≡ 34 = ap (λ (s : AbsState). length s.registers) c.root-state.ensures ∙ reset_stands.formed.count_registers in
    let names : AllName root = subst (λ (s : AbsState). AllName s.registers) (sym c.root-state.ensures) reset_stands.formed.registers in
    set_names (slice_set root 0 c.args.first) 31 c.args.last (omega (arith, length-set root 0 c.args.first)) c.requires.last
    (set_names root 0 c.args.first (omega arith) c.requires.first names)
