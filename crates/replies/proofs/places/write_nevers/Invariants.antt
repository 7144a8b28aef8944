use Rattle.std.proofs.Common.{◌≡◌, take}
use Rattle.std.specs.List.{flat_map}
use Rattle.line_reading.specs.Appending.{with_text}
use Rattle.replies.specs.Places.{never_text}
use Rattle.replies.proofs.places.write_nevers.Given as goal

abbrev pub invariant-loop-word : goal.invariant-loop-word
invariant-loop-word l = l.out ≡ with_text l.initial.out (flat_map (never_text l.device) (take l.word-index l.nevers))
