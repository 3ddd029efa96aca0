use Rattle.serve_load.specs.Calls.{IsTally}
use Rattle.serve_load.proofs.serving.sorted.Given as goal

-- the book that was just opened
abbrev pub ghosts-booked-J-BookName : goal.ghosts-booked-J-BookName
ghosts-booked-J-BookName g a = record { book = a.book }

-- the tallies are those of the load's callers
abbrev pub ghosts-booked-M-Tallying : goal.ghosts-booked-M-Tallying
ghosts-booked-M-Tallying g a = record { most = a.load.now.operations; seconds = a.load.now.seconds; is_tally = IsTally a.load.now }
