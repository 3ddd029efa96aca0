use Rattle.std.proofs.Common.{inl, ◌+◌, ◌++◌, take, arith, ap, subst, ◌∙◌, List}
use Rattle.std.specs.Int.{w16, to_be_bytes}
use Rattle.record_pages.specs.Recs.{Rec}
use Rattle.record_pages.specs.PageText.{log_head, SpellsLogForm}
use Rattle.record_pages.specs.declared.form.RecordForm.TheVariants.{Timed}
use Rattle.record_pages.proofs.MakingLaws.{Written, log_page_written}
use Rattle.record_pages.proofs.log_page_writer.LogPageWriter.text.Goals as goal

spells : (g : _) (c : goal.After-page-3-1 g) → SpellsLogForm Timed g.row.PAGE c.zero_from.new.into (record { segment = c.args.segment; page = c.args.page_number; records = c.args.self.now })
spells g c =
    let header = c.put_log_header-at in
    let behind = c.put-at in
    let rs = c.self.inside.body in
    let head = log_head Timed c.args.segment c.args.page_number in
    let written : Written g.row.PAGE head c.zero_from.new.into rs header.result behind.result header.new.into behind.new.into =
    record {
      first_is = header.ensures.text ∙ ap (λ n. head ++ to_be_bytes w16 n) c.len.ensures.len;
      at_is = header.ensures.end;
      front_is = behind.ensures.text ∙ ap (λ t. take header.result header.new.into ++ t) c.text.ensures.text;
      end_is = behind.ensures.end ∙ ap (λ n. header.result + n) c.text.ensures.size;
      new_is = c.zero_from.ensures;
      whole = behind.auto.into ∙ header.auto.into ∙ c.told-page;
      fits = c.len.ensures.fits;
      each = c.len.ensures.each;
    } in
    let shows : List Rec → Type 0 = λ xs. SpellsLogForm Timed g.row.PAGE c.zero_from.new.into (record { segment = c.args.segment; page = c.args.page_number; records = xs }) in
    subst shows c.self.view_is (log_page_written g.row.PAGE c.args.segment c.args.page_number c.zero_from.new.into rs header.result behind.result header.new.into behind.new.into (omega (arith, c.requires)) (omega (arith, c.ranges.segment)) (omega (arith, c.ranges.page_number)) c.self.invariant.few written)

pub returns-clause-spelled : goal.returns-clause-spelled
returns-clause-spelled g c = inl (spells g c)

pub returns-clause-text : goal.returns-clause-text
returns-clause-text g c = (spells g c).text
