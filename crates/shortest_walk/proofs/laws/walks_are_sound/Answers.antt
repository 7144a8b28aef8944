use Rattle.shortest_walk.proofs.AllLaws.{first_is_one, walks_reach}
use Rattle.shortest_walk.proofs.laws.walks_are_sound.Goals as goal

pub returns : goal.returns
returns c = record { reach = walks_reach; one = first_is_one }
