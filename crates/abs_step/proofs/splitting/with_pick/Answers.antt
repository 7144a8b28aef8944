use Rattle.std.proofs.Common.{◌≡◌, ◌∙◌, sym, ap, subst, subst₂, Bool, Option}
use Rattle.abs_state.specs.declared.state.AbsState.{AbsState}
use Rattle.abs_state.specs.PairBytes.{left_in}
use Rattle.pair_cuts.specs.Cuts.{pick_cut}
use Rattle.local_rules.specs.Raw.{Raw, nowhere}
use Rattle.local_rules.specs.Local.{row_in, picking, picked_row}
use Rattle.abs_step.specs.Adding.{plain}
use Rattle.abs_step.specs.Leading.{LeadsOn}
use Rattle.abs_step.proofs.Added.{none_added}
use Rattle.abs_step.proofs.splitting.with_pick.Goals as goal
use Rattle.abs_step.proofs.splitting.with_pick.Goals.{then-left, else-left}
use Rattle.abs_step.specs.Sites.{task_of}

pub returns : goal.returns
returns c =
    let site = c.args.site.now in
    let nodes = plain c.args.nodes.now in
    let after = c.pick_cut-left.new.state in
    let row : Option AbsState → Raw = picked_row (row_in site.device (task_of site)) (picking site.key.now c.args.byte) in
    let cut : left_in c.pick_cut-left.result after ≡ pick_cut c.args.byte site.state.now = c.pick_cut-left.ensures ∙ ap (pick_cut c.args.byte) c.in_ok-picked.ensures.ok in
    elim c.if-left.branch [
      | then-left w ↦
          subst₂ (λ n r. LeadsOn nodes (plain n) r (row (pick_cut c.args.byte site.state.now))) (sym w.nodes-is) (sym w.led-is)
          (subst (λ (o : Option AbsState). LeadsOn nodes (plain w.at_instruction-led.new.nodes) w.at_instruction-led.result (row o))
          (ap (λ (b : Bool). left_in b after) (sym w.if-left.true) ∙ cut) w.at_instruction-led.ensures)
      | else-left w ↦
          subst₂ (λ n r. LeadsOn nodes (plain n) r (row (pick_cut c.args.byte site.state.now))) (sym w.nodes-is) (sym w.led-is)
          (subst (λ (o : Option AbsState). LeadsOn nodes nodes w.staying-led.result (row o))
          (ap (λ (b : Bool). left_in b after) (sym w.if-left.false) ∙ cut) (w.staying-led.ensures nodes nodes nowhere (none_added nodes)))
    ]
