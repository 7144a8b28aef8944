use Rattle.demo_image.specs.Image.{enable_words}
use Rattle.demo_image.proofs.Pieces.{pieces_none, pieces_next}
use Rattle.demo_image.proofs.words.push_enables.Goals as goal

pub loop-k-init : goal.loop-k-init
loop-k-init c = pieces_none c.args.words.now.items enable_words

pub loop-k-preserved : goal.loop-k-preserved
loop-k-preserved c = pieces_next c.args.words.now.items c.loop-k.words.items c.push_enable.new.words.items enable_words c.loop-k.k c.loop-k.invariant c.in_ok-push_enable.ensures
