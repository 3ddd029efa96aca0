use Rattle.std.proofs.Common.{inl, arith, ◌∙◌}
use Rattle.record_pages.specs.PageText.{log_head, SpellsLogForm}
use Rattle.record_pages.specs.declared.form.RecordForm.TheVariants.{Timed}
use Rattle.record_pages.proofs.MakingLaws.{Written, log_page_written}
use Rattle.record_pages.proofs.encode.encode_log_page.Goals as goal

spells : (g : _) (c : goal.After-page-3-1 g) → SpellsLogForm Timed g.row.PAGE c.zero_from.new.into (record { segment = c.args.segment; page = c.args.page_number; records = c.args.records.now })
spells g c =
    let header = c.put_log_header-at in
    let behind = c.put_records-at in
    let written : Written g.row.PAGE (log_head Timed c.args.segment c.args.page_number) c.zero_from.new.into c.args.records.now header.result behind.result header.new.into behind.new.into =
    record {
      first_is = header.ensures.text;
      at_is = header.ensures.end;
      front_is = behind.ensures.text;
      end_is = behind.ensures.end;
      new_is = c.zero_from.ensures;
      whole = behind.auto.into ∙ header.auto.into ∙ c.told-page;
      fits = c.requires.fits;
      each = behind.ensures.each;
    } in
    log_page_written g.row.PAGE c.args.segment c.args.page_number c.zero_from.new.into c.args.records.now header.result behind.result header.new.into behind.new.into (omega (arith, c.requires.page_size)) (omega (arith, c.ranges.segment)) (omega (arith, c.ranges.page_number)) c.requires.few written

pub returns-clause-spelled : goal.returns-clause-spelled
returns-clause-spelled g c = inl (spells g c)

pub returns-clause-text : goal.returns-clause-text
returns-clause-text g c = (spells g c).text
