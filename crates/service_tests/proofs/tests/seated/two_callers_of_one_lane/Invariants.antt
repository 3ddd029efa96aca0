use Rattle.service_tests.proofs.tests.seated.two_callers_of_one_lane.Given as goal

-- the book that was just opened
abbrev pub ghosts-found_by_both : goal.ghosts-found_by_both
ghosts-found_by_both g a = record { book = a.book }
