-- What was judged is told.
use Rattle.std.proofs.Common.{subst, sym}
use Rattle.history_text.specs.declared.read_text_fault.ReadTextFault.{ReadTextFault}
use Rattle.judge_run.specs.Streams.{IsStreamFault, judged_of}
use Rattle.judge_run.proofs.CountLaws.{over_waiting}
use Rattle.judge_run.proofs.StreamLaws.{streamed}
use Rattle.judge_run.proofs.streaming.end_with.Goals as goal

pub returns-clause-streamed : goal.returns-clause-streamed
returns-clause-streamed g c = λ rule known left progress last ended counted.
    let stream = c.args.stream.now in
    streamed c.pieces_stand.ensures c.pieces_exclude.ensures c.witness_excludes.ensures rule.scope rule.window rule.least c.args.over known left progress (judged_of stream) stream.waiting.history stream.waiting.lines.items stream.latest stream.forgotten c.args.from_start c.in-Ok-with_waiting.gone c.args.found c.args.skipped c.requires.found c.requires.unaccepted c.in-Ok-with_waiting.ensures.grown last ended counted

pub returns-in-Err-clause-fault : goal.returns-in-Err-clause-fault
returns-in-Err-clause-fault g c = λ rule known left progress last.
    let stream = c.args.stream.now in
    subst (λ (fault : ReadTextFault). IsStreamFault rule.scope rule.window rule.least known fault) (sym c.in-Err.ensures.fault)
    (over_waiting rule.scope rule.window rule.least _ known left progress (judged_of stream) stream.waiting.history stream.waiting.lines.items stream.latest stream.forgotten c.args.from_start last c.in-Err.ensures.over)
