use Rattle.std.proofs.Common.{◌+◌, subst, sym}
use Rattle.flash_image.proofs.Listed.{AreListedBelow, listed_more, listed_same}
use Rattle.flash_image.proofs.mark_table.listed.Goals.{then-table-at+in_ok-push, else-table-at}
use Rattle.flash_image.proofs.mark_table.listed.Goals as goal

pub loop-at-preserved : goal.loop-at-preserved
loop-at-preserved c =
    elim c.if-table-at.branch [
      | then-table-at+in_ok-push w ↦
          subst (λ v. AreListedBelow (c.loop-at.at + 1) c.args.table.now v.items) (sym w.list-is)
          (subst (AreListedBelow (c.loop-at.at + 1) c.args.table.now) (sym w.in_ok-push.ensures.items)
          (listed_more c.loop-at.at c.args.table.now c.loop-at.list.items c.loop-at.invariant w.if-table-at.true))
      | else-table-at w ↦
          subst (λ v. AreListedBelow (c.loop-at.at + 1) c.args.table.now v.items) (sym w.list-is)
          (listed_same c.loop-at.at c.args.table.now c.loop-at.list.items c.loop-at.invariant w.if-table-at.false)
    ]
