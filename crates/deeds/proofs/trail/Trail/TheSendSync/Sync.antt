-- Threads may share a trail, since it owns nothing.
use denote.Param.Send.{IsSync, part_keyless}
use Rattle.deeds.specs.contracts.trail.Trail.{the_row}
use Rattle.deeds.proofs.trail.Trail.TheSendSync.Send.{send}

pub sync : IsSync the_row
sync = record { shared = λ d b o κ q. part_keyless the_row send q d b o }
