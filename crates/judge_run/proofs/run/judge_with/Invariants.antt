use Rattle.std.proofs.Common.{◌∷◌, take}
use Rattle.figures.specs.Figures.{form_of}
use Rattle.judge_run.specs.Runs.{JudgedInTurn, are_several}
use Rattle.judge_run.proofs.run.judge_with.Given as goal

-- the files so far were judged in turn
abbrev pub invariant-loop-file : goal.invariant-loop-file
invariant-loop-file g l = JudgedInTurn (form_of l.request.json) l.request.scope l.request.detail l.request.at_least (are_several l.request.others.items) (l.request.file ∷ take l.file-index l.request.others.items) (g.I.Read.remaining l.fn.stdin) (g.I.Read.remaining l.stdin) (g.O.Write.contents l.fn.out) (g.O.Write.contents l.out) l.worst
