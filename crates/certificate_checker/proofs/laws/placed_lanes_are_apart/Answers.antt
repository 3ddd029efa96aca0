use Rattle.certificate_checker.proofs.public_laws.LaneEnds.{placed_apart}
use Rattle.certificate_checker.proofs.laws.placed_lanes_are_apart.Goals as goal

pub returns : goal.returns
returns c = placed_apart
