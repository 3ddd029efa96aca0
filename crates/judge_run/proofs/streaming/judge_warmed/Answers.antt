-- What comes of calls that were judged.
use Rattle.std.proofs.Common.{◌≡◌, ap, Bool, not, subst, true}
use Rattle.judge_run.specs.Streams.{IsPieceJudged}
use Rattle.judge_run.proofs.streaming.judge_warmed.Goals.{in-Ok-go_on, in-Err}
use Rattle.judge_run.proofs.streaming.judge_warmed.Goals as goal

pub returns-then-is_accepted-clause-judged : goal.returns-then-is_accepted-clause-judged
returns-then-is_accepted-clause-judged g c =
    let unended : not c.args.over ≡ true = ap not c.if-not-over.true in
    elim c.match-go_on.branch [
      | in-Ok-go_on w ↦ rw w.result-is (λ rule known left progress bound_is last ended counted.
          w.in-Ok-go_on.ensures.held rule known left progress bound_is
          (subst (λ (more : Bool). IsPieceJudged rule more known left progress c.args.from_start c.args.stream.now) unended last))
      | in-Err w ↦ rw w.result-is tt
    ]

pub returns-in-Ok-end_with-clause-judged : goal.returns-in-Ok-end_with-clause-judged
returns-in-Ok-end_with-clause-judged g c = λ rule known left progress bound_is last ended counted.
    c.in-Ok-end_with.ensures.streamed rule known left progress last ended counted

pub returns-then-is_accepted-clause-fault : goal.returns-then-is_accepted-clause-fault
returns-then-is_accepted-clause-fault g c =
    let unended : not c.args.over ≡ true = ap not c.if-not-over.true in
    elim c.match-go_on.branch [
      | in-Ok-go_on w ↦ rw w.result-is tt
      | in-Err w ↦ rw w.result-is (λ rule known left progress last.
          w.in-Err.ensures.fault rule known left progress
          (subst (λ (more : Bool). IsPieceJudged rule more known left progress c.args.from_start c.args.stream.now) unended last))
    ]

pub returns-then-is_accepted-clause-more : goal.returns-then-is_accepted-clause-more
returns-then-is_accepted-clause-more g c = elim c.match-go_on.branch [
  | in-Ok-go_on w ↦ rw w.result-is (λ none. c.if-not-over.true)
  | in-Err w ↦ rw w.result-is tt
]
