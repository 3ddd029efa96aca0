use Rattle.certificate_checker.proofs.public_laws.LaneEnds.{ends_moved}
use Rattle.certificate_checker.proofs.laws.ends_may_move.Goals as goal

pub returns : goal.returns
returns c = ends_moved
