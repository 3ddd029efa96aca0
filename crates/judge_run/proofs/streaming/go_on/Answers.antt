-- What is kept of calls that are accepted goes on.
use Rattle.std.proofs.Common.{◌∙◌, subst, sym}
use Rattle.history_text.specs.Text.{Text, text_by}
use Rattle.history_text.specs.declared.read_text_fault.ReadTextFault.{ReadTextFault}
use Rattle.judge_run.specs.Streams.{IsGoing, IsStreamFault, judged_of}
use Rattle.judge_run.proofs.CountLaws.{fewer_kept, over_judged}
use Rattle.judge_run.proofs.StreamLaws.{goes_on}
use Rattle.judge_run.proofs.streaming.go_on.Goals as goal

pub forget-requires : goal.forget-requires
forget-requires g c = c.requires.1.intervals

pub grown-requires : goal.grown-requires
grown-requires g c =
    let text = c.args.stream.now.text in
    let kept = c.forget.new.text in
    fewer_kept c.first_start-first.result text.history kept.history text.lines.items kept.lines.items c.counts_of-before.result c.counts_of-after.result c.in-Ok.ensures.kept c.counts_of-before.ensures c.counts_of-after.ensures

pub returns-clause-held : goal.returns-clause-held
returns-clause-held g c = λ rule known left progress bound_is last.
    let stream = c.args.stream.now in
    let kept = c.forget.new.text in
    let going = goes_on rule.scope rule.window rule.least known left progress (judged_of stream) stream.waiting.history stream.waiting.lines.items stream.latest stream.forgotten c.args.from_start last
    (text_by kept.history kept.lines.items kept.callers) stream.bound c.first_start-first.result c.in-Ok-grown.forgotten c.counts_of-before.result c.counts_of-after.result c.requires bound_is c.first_start-first.ensures c.in-Ok.ensures.kept c.in-Ok.ensures.callers (c.in-Ok.ensures.as_many last.as_many) c.counts_of-before.ensures c.counts_of-after.ensures c.in-Ok-grown.ensures.grown in
    record {
      going = subst (λ (text : Text). IsGoing rule.scope rule.window rule.least known left progress text stream.waiting.history stream.waiting.lines.items stream.bound stream.latest c.in-Ok-grown.forgotten) (λ i. text_by (sym c.replace.ensures.value i) (sym (λ j. (c.replace-2.ensures.value j).items) i) kept.callers) going;
      no_calls = c.replace.ensures.after ∙ c.new.ensures;
      no_lines = (λ i. (c.replace-2.ensures.after i).items) ∙ c.new-2.ensures.items;
    }

pub returns-in-Err-clause-fault : goal.returns-in-Err-clause-fault
returns-in-Err-clause-fault g c = λ rule known left progress last.
    let stream = c.args.stream.now in
    subst (λ (fault : ReadTextFault). IsStreamFault rule.scope rule.window rule.least known fault) (sym c.in-Err.ensures.fault)
    (over_judged rule.scope rule.window rule.least _ known left progress (judged_of stream) stream.waiting.history stream.waiting.lines.items stream.latest stream.forgotten c.args.from_start last c.counts_of-before.result c.counts_of-before.ensures c.in-Err.ensures.over)
