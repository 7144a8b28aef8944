use Rattle.demo_image.specs.Image.{function_words}
use Rattle.demo_image.proofs.Pieces.{appended, pieces_none, pieces_next}
use Rattle.demo_image.proofs.words.push_functions.Goals as goal

pub loop-i-init : goal.loop-i-init
loop-i-init c = pieces_none c.args.words.now.items (function_words c.args.n)

pub loop-i-preserved : goal.loop-i-preserved
loop-i-preserved c =
    pieces_next c.args.words.now.items c.loop-i.words.items c.extend_from_slice.new.self.items (function_words c.args.n) c.loop-i.i c.loop-i.invariant
    (appended c.loop-i.words.items c.push.new.self.items c.push_call.new.words.items c.push_call-in-loop-i.new.words.items _ _ _ _ _ c.in_ok-push.ensures.items c.in_ok-push_call.ensures c.in_ok-push_call-2.ensures c.in_ok-extend_from_slice.ensures.items)
