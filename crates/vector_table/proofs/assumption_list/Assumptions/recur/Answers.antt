use Rattle.std.proofs.Common.{◌≡◌, ◌∙◌, sym, ap, subst, true, List, None, option_copied}
use Rattle.avr_model.specs.declared.assumption.Entry.{Entry}
use Rattle.avr_model.specs.Assumptions.{recur_line, recur_in}
use Rattle.vector_table.specs.Entries.{are_in_order}
use Rattle.vector_table.proofs.Order.{found, recur_found}
use Rattle.vector_table.proofs.assumption_list.Assumptions.recur.Goals as goal

pub returns-in_err-first_from : goal.returns-in_err-first_from
returns-in_err-first_from c =
    let kept = subst (λ (xs : List Entry). are_in_order xs ≡ true) (sym c.deref.ensures.value) c.self.invariant.in_order in
    c.from_residual.ensures
    ∙ ap (found (λ e r. recur_in e c.args.word r) None) (sym (ap option_copied c.in_err-first_from.was) ∙ c.first_from.ensures)
    ∙ sym (recur_found c.deref.result.now c.args.word kept)
    ∙ ap (λ (xs : List Entry). recur_line xs c.args.word) (c.deref.ensures.value ∙ c.self.view_is)

pub returns : goal.returns
returns c =
    let kept = subst (λ (xs : List Entry). are_in_order xs ≡ true) (sym c.deref.ensures.value) c.self.invariant.in_order in
    c.recur_depth.ensures
    ∙ ap (found (λ e r. recur_in e c.args.word r) None) (sym (ap option_copied c.in_ok-first_from.was) ∙ c.first_from.ensures)
    ∙ sym (recur_found c.deref.result.now c.args.word kept)
    ∙ ap (λ (xs : List Entry). recur_line xs c.args.word) (c.deref.ensures.value ∙ c.self.view_is)
