-- Recent hits wait, and all other calls are decided.
use Rattle.std.proofs.Common.{◌∙◌, ap, length, sym}
use Rattle.certificate_checker.specs.Orders.{in_order}
use Rattle.history_window.specs.Streams.{lines_of}
use Rattle.judge_run.proofs.WarmLaws.{picked_many}
use Rattle.judge_run.proofs.parting.part.Goals as goal

pub returns-in-Ok-keep-clause-parted : goal.returns-in-Ok-keep-clause-parted
returns-in-Ok-keep-clause-parted g c =
    let text = c.args.text.now in
    record {
      past = c.in-Ok-past.stays.items;
      recent = c.in-Ok.waits.items;
      are_past = c.in-Ok-past.ensures;
      are_recent = c.in-Ok.ensures;
      decided_are = c.in-Ok-keep.ensures.history ∙ ap (in_order text.history) c.deref-4.ensures.value;
      decided_lines_are = c.in-Ok-keep.ensures.lines ∙ ap (lines_of text.lines.items) c.deref-4.ensures.value;
      waiting_are = c.in-Ok-history_at.ensures ∙ ap (in_order text.history) c.deref.ensures.value;
      waiting_lines_are = c.in-Ok-lines_of.ensures ∙ (λ i. lines_of (c.deref-2.ensures.value i) (c.deref-3.ensures.value i));
    }

pub returns-in-Ok-keep-clause-waiting : goal.returns-in-Ok-keep-clause-waiting
returns-in-Ok-keep-clause-waiting g c =
    let text = c.args.text.now in
    let waits = c.in-Ok.waits.items in
    let calls = c.in-Ok-history_at.ensures ∙ ap (in_order text.history) c.deref.ensures.value in
    let lines = c.in-Ok-lines_of.ensures ∙ (λ i. lines_of (c.deref-2.ensures.value i) (c.deref-3.ensures.value i)) in
    ap length lines ∙ picked_many text.lines.items text.history waits c.requires c.in-Ok.ensures.below ∙ sym (ap length calls)
