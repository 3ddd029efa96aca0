use Rattle.serving_example.proofs.made_over.Given as goal

-- the book that was just opened
abbrev pub ghosts-made_with : goal.ghosts-made_with
ghosts-made_with g a = record { book = a.book }
