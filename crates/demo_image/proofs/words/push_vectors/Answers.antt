use Rattle.std.proofs.Common.{◌≡◌, ◌∙◌, ◌++◌, [], ◌∷◌, ap, sym, arith, ℕ}
use Rattle.std.proofs.lemmas.Bool.{le-ltb, lt-ltb, cond-true, cond-false}
use Rattle.std.specs.Prelude.{if◌then◌else◌, nat_lt}
use Rattle.demo_image.specs.Image.{handler_at, handlers, vector_words}
use Rattle.demo_image.proofs.Pieces.{pieces_none, pieces_next}
use Rattle.demo_image.proofs.words.push_vectors.Goals as goal
use Rattle.demo_image.proofs.words.push_vectors.Goals.{then-k-handlers, else-k-handlers}

pub loop-k-init : goal.loop-k-init
loop-k-init c = pieces_none c.args.words.now.items (vector_words c.args.n)

pub loop-k-preserved : goal.loop-k-preserved
loop-k-preserved c =
    let target : c.if-k-handlers.target ≡ (if nat_lt c.loop-k.k (handlers c.args.n) then handler_at c.args.n c.loop-k.k else 0) =
    elim c.if-k-handlers.branch [
      | then-k-handlers w ↦ w.target-is ∙ w.handler_at-target.ensures.value ∙ sym (cond-true _ _ _ (lt-ltb c.loop-k.k (handlers c.args.n) (omega (arith, w.if-k-handlers.true, c.handlers.ensures.value))))
      | else-k-handlers w ↦ w.target-is ∙ sym (cond-false _ _ _ (le-ltb c.loop-k.k (handlers c.args.n) (omega (arith, w.if-k-handlers.false, c.handlers.ensures.value))))
    ] in
    pieces_next c.args.words.now.items c.loop-k.words.items c.extend_from_slice.new.self.items (vector_words c.args.n) c.loop-k.k c.loop-k.invariant
    (c.in_ok-extend_from_slice.ensures.items ∙ ap (λ (t : ℕ). c.loop-k.words.items ++ 0x940C ∷ t ∷ []) target)
