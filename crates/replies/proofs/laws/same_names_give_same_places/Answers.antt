use Rattle.replies.proofs.Sites.{same_places, same_causes}
use Rattle.replies.proofs.laws.same_names_give_same_places.Goals as goal

pub returns : goal.returns
returns c = record { places = same_places; causes = same_causes }
