use Rattle.sight_sketch.proofs.SightLaws.{met_is_seen}
use Rattle.sight_sketch.proofs.laws.sketch_laws.Goals as goal

pub returns : goal.returns
returns c = met_is_seen
