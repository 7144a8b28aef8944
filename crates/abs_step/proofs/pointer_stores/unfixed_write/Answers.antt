use Rattle.std.proofs.Common.{subst, filter, List, ℕ}
use Rattle.std.proofs.lemmas.Result.{err_from_is_err_and}
use Rattle.local_rules.specs.Writes.{reaches, listed_writes}
use Rattle.abs_step.specs.Adding.{AreNodesAdded}
use Rattle.abs_step.proofs.Woken.{Stops, woken_too, stopped_before}
use Rattle.abs_step.specs.Sites.{write_of}
use Rattle.abs_step.proofs.pointer_stores.unfixed_write.Goals as goal

pub returns : goal.returns
returns c =
    let site = c.args.site.now in
    let write = c.args.write.now in
    let to = c.args.to.now in
    woken_too write.device site.assumptions.now write.key write.state.now c.waking.result _ c.args.nodes.now c.listed_writes.new.nodes c.waking.new.nodes _
    (subst
    (λ (xs : List ℕ). AreNodesAdded c.args.nodes.now c.listed_writes.new.nodes (listed_writes (filter (λ a. reaches site.state.now to.r to.up a) xs) (write_of write)))
    c.stores-addresses.ensures.addresses c.in_ok-listed_writes.ensures)
    c.waking.ensures

pub returns-in_err-listed_writes : goal.returns-in_err-listed_writes
returns-in_err-listed_writes c =
    let site = c.args.site.now in
    let write = c.args.write.now in
    let to = c.args.to.now in
    let p = err_from_is_err_and c.from_residual.result c.from_residual.ensures.1 in
    rw (p.1, p.2)
    (stopped_before write.device site.assumptions.now write.key write.state.now c.in_err-listed_writes.field-0.0 _ _
    (subst
    (λ (xs : List ℕ). Stops c.in_err-listed_writes.field-0.0 (listed_writes (filter (λ a. reaches site.state.now to.r to.up a) xs) (write_of write)))
    c.stores-addresses.ensures.addresses c.in_err-listed_writes.ensures))
