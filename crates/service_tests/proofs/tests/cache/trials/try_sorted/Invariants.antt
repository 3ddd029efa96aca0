use Rattle.service_tests.proofs.tests.cache.trials.try_sorted.Given as goal

-- the book that was just opened
abbrev pub ghosts-try_booked : goal.ghosts-try_booked
ghosts-try_booked g a = record { book = a.book }
