-- The replies to a put.
use Rattle.std.proofs.Common.{◌++◌, Err, sym, ap, ◌∙◌}
use Rattle.recorded_lane.specs.declared.record_put_fault.RecordPutFault.TheVariants.{TooLarge, HistoryFull}
use Rattle.scripts.specs.Own.{seen_of}
use Rattle.scripts.proofs.Full.{on_ok, no_err, stored_text, large_text, full_text}
use Rattle.scripts.proofs.replies.put_reply.Goals as goal

pub returns-in-Ok-clause-text : goal.returns-in-Ok-clause-text
returns-in-Ok-clause-text g c =
    let said = c.in-Ok.ensures in
    on_ok c.append.result (λ e. e ∙ ap (λ t. c.args.text.now.items ++ t) (sym (stored_text g.row.PAGE (seen_of c.args.lane.now) c.args.key c.args.value c.args.word c.args.expires (λ large. no_err c.in-Ok._pushed TooLarge (said.large.1 large)) (λ full. no_err c.in-Ok._pushed HistoryFull (said.full.1 full))))) c.append.ensures

pub returns-in-Err-TooLarge-clause-text : goal.returns-in-Err-TooLarge-clause-text
returns-in-Err-TooLarge-clause-text g c =
    let said = c.in-Err-TooLarge.ensures in
    on_ok c.append-in-Err-TooLarge.result (λ e. e ∙ ap (λ t. c.args.text.now.items ++ t) (sym (large_text g.row.PAGE (seen_of c.args.lane.now) c.args.key c.args.value c.args.word c.args.expires (said.large.0 (ap Err c.in-Err-TooLarge.field-0-is))))) c.append-in-Err-TooLarge.ensures

pub returns-in-Err-HistoryFull-clause-text : goal.returns-in-Err-HistoryFull-clause-text
returns-in-Err-HistoryFull-clause-text g c =
    let said = c.in-Err-HistoryFull.ensures in
    on_ok c.append-in-Err-HistoryFull.result (λ e. e ∙ ap (λ t. c.args.text.now.items ++ t) (sym (full_text g.row.PAGE (seen_of c.args.lane.now) c.args.key c.args.value c.args.word c.args.expires (said.full.0 (ap Err c.in-Err-HistoryFull.field-0-is))))) c.append-in-Err-HistoryFull.ensures
