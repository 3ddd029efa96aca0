use Rattle.std.proofs.Common.{◌+◌, ◌++◌, take, ap, ◌∙◌}
use Rattle.record_pages.specs.Recs.{size}
use Rattle.record_pages.specs.PageText.{record_text}
use Rattle.record_pages.specs.declared.form.RecordForm.TheVariants.{Timed}
use Rattle.record_pages.proofs.MakingLaws.{put_none, put_more}
use Rattle.record_pages.proofs.bytes_out.put_records.Goals as goal

pub loop-record-init : goal.loop-record-init
loop-record-init c = put_none c.args.records.now c.args.at c.args.into.now

pub loop-record-preserved : goal.loop-record-preserved
loop-record-preserved c =
    let put = c.put_record-end in
    let r = c.record-item.result in
    put_more c.args.records.now c.loop-record.record-index c.args.at c.loop-record.end c.args.into.now c.loop-record.into r put.result put.new.into c.loop-record.invariant c.loop-record-test.true c.record-item.is c.lent.ensures.lawful (put.ensures.text ∙ ap (λ q. take c.loop-record.end c.loop-record.into ++ record_text Timed q) c.lent.ensures.shown) (put.ensures.end ∙ ap (λ q. c.loop-record.end + size q) c.lent.ensures.shown)
