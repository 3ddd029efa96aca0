use Rattle.service_tests.proofs.tests.book.two_threads_enter.Given as goal

-- the book that was just opened
abbrev pub ghosts-entered_by_two : goal.ghosts-entered_by_two
ghosts-entered_by_two g a = record { book = a.book }
