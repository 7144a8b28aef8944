use Rattle.demo_image.specs.Image.{handler_words}
use Rattle.demo_image.proofs.Pieces.{pieces_none, pieces_next}
use Rattle.demo_image.proofs.words.push_handlers.Goals as goal

pub loop-k-init : goal.loop-k-init
loop-k-init c = pieces_none c.args.words.now.items handler_words

pub loop-k-preserved : goal.loop-k-preserved
loop-k-preserved c = pieces_next c.args.words.now.items c.loop-k.words.items c.extend_from_slice.new.self.items handler_words c.loop-k._k c.loop-k.invariant c.in_ok-extend_from_slice.ensures.items
