use Rattle.std.proofs.Common.{◌∙◌, refl, sym, subst, ℕ, length, Option}
use Rattle.std.proofs.lemmas.Option.{slice_get_read}
use Rattle.family_edges.specs.Tasks.{task_of}
use Rattle.family_edges.specs.Expanding.{AreKept}
use Rattle.family_edges.proofs.Working.{same_number}
use Rattle.family_edges.proofs.expanding.keep.Goals as goal

pub successors-requires : goal.successors-requires
successors-requires c =
    c.requires.nodes c.args.from c.index-done-from.result
    (slice_get_read c.args.done.now (length c.args.done.now) c.args.from c.index-done-from.result refl c.requires.below c.index-done-from.is)

pub returns-in_ok-nodes-clause-nodes : goal.returns-in_ok-nodes-clause-nodes
returns-in_ok-nodes-clause-nodes c =
    let read = slice_get_read c.args.done.now (length c.args.done.now) c.args.from c.index-done-from.result refl c.requires.below c.index-done-from.is in
    (c.index-done-from.result, (read, c.in_ok-nodes.ensures))

pub returns-else-ne-clause-nodes : goal.returns-else-ne-clause-nodes
returns-else-ne-clause-nodes c =
    subst (λ (from : Option ℕ). AreKept (task_of c.args.task.now) c.args.done.now from c.args.kept.now.nodes.items)
    (same_number c.args.kept.now.from c.args.from (sym c.ne.ensures ∙ c.if-ne.false)) c.requires.kept
