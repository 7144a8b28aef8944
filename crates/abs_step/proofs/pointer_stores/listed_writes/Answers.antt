use Rattle.std.proofs.Common.{sym, ◌∙◌, ℕ, Bool, false, arith}
use Rattle.local_rules.specs.Raw.{Raw, one}
use Rattle.local_rules.specs.Writes.{reaches, written_at}
use Rattle.abs_step.proofs.Gathered.{gathered_skip, gathered_next, as_gathered}
use Rattle.abs_step.specs.Sites.{write_of}
use Rattle.abs_step.proofs.pointer_stores.listed_writes.Goals as goal
use Rattle.abs_step.proofs.pointer_stores.listed_writes.Goals.{then-reaches+in_ok-fault, else-reaches}

pub loop-at-preserved : goal.loop-at-preserved
loop-at-preserved c =
    let p : ℕ → Bool = (λ a. reaches c.args.site.now.state.now c.args.to.now.r c.args.to.now.up a) in
    let f : ℕ → Raw = (λ a. written_at (write_of c.args.write.now) false a) in
    let base = one c.args.write.now.key c.args.write.now.state.now in
    elim c.if-reaches.branch [
      | then-reaches+in_ok-fault w ↦
          gathered_next p f base c.args.all.now c.loop-at.at c.args.nodes.now c.if-reaches.nodes c.if-reaches.fault (omega arith)
          (sym c.reaches.ensures ∙ w.if-reaches.true)
          (as_gathered c.args.nodes.now c.if-reaches.nodes w.stored_too.new.nodes c.if-reaches.fault w.in_ok-fault.fault _ w.nodes-is w.fault-is
          (w.in_ok-fault.ensures.ok c.args.nodes.now _ c.loop-at.invariant))
      | else-reaches w ↦
          gathered_skip p f base c.args.all.now c.loop-at.at c.args.nodes.now c.if-reaches.nodes c.if-reaches.fault (omega arith)
          (sym c.reaches.ensures ∙ w.if-reaches.false)
          (as_gathered c.args.nodes.now c.if-reaches.nodes c.loop-at.nodes c.if-reaches.fault c.loop-at.fault _ w.nodes-is w.fault-is c.loop-at.invariant)
    ]
