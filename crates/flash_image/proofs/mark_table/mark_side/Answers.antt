use Rattle.std.proofs.Common.{ℕ, ◌+◌, ◌*◌, ◌∷◌, [], true, false, get_or, set, sym, ap, ◌∙◌, arith}
use Rattle.flash_image.proofs.Marked.{marked_none, marked_more}
use Rattle.flash_image.proofs.Loads.{high_marks, high_marked, none_marked, side_marked}
use Rattle.flash_image.proofs.mark_table.mark_side.Goals as goal
use Rattle.flash_image.proofs.mark_table.mark_side.Goals.{then-loads-from, else-loads-from}

pub loop-high-init : goal.loop-high-init
loop-high-init c =
    marked_none c.args.table.now (set c.args.table.now c.from.result true) (c.args.low ∷ []) (high_marks c.args.loads.now c.args.side c.args.low)
    (ap (λ (n : ℕ). set c.args.table.now n true) c.from.ensures)

pub loop-high-preserved : goal.loop-high-preserved
loop-high-preserved c =
    marked_more c.args.table.now c.loop-high.table c.if-loads-from.table (c.args.low ∷ []) c.loop-high.high (high_marks c.args.loads.now c.args.side c.args.low) c.loop-high.invariant
    (elim c.if-loads-from.branch [
      | then-loads-from w ↦
          high_marked c.args.loads.now c.loop-high.table c.if-loads-from.table c.args.side c.args.low c.loop-high.high
          (ap (λ (n : ℕ). get_or c.args.loads.now (256 * n + c.loop-high.high) false) (sym c.from-in-loop-high.ensures) ∙ w.if-loads-from.true)
          (w.table-is ∙ ap (λ (n : ℕ). set c.loop-high.table (256 * c.loop-high.high + n) true) w.from-then-loads-from.ensures)
      | else-loads-from w ↦
          w.table-is
          ∙ none_marked c.args.loads.now c.loop-high.table c.args.side c.args.low c.loop-high.high
          (ap (λ (n : ℕ). get_or c.args.loads.now (256 * n + c.loop-high.high) false) (sym c.from-in-loop-high.ensures) ∙ w.if-loads-from.false)
    ])

pub returns : goal.returns
returns c = λ words are.
    side_marked words c.args.loads.now c.args.table.now c.loop-high.table c.args.side c.args.low c.loop-high.high (omega arith) c.requires (omega arith) c.told-table are c.loop-high.invariant
