-- Threads may share a list of times, since it owns nothing.
use denote.Param.Send.{IsSync, part_keyless}
use Rattle.load.specs.contracts.times.Times.{the_row}
use Rattle.load.proofs.times.Times.TheSendSync.Send.{send}

pub sync : IsSync the_row
sync = record { shared = λ d b o κ q. part_keyless the_row send q d b o }
