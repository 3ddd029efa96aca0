use Rattle.std.proofs.Common.{inl, arith, ◌∙◌}
use Rattle.record_pages.specs.PageText.{set_head, SpellsSetForm}
use Rattle.record_pages.specs.declared.form.SetForm.TheVariants.{Large}
use Rattle.record_pages.proofs.MakingLaws.{Written, set_page_written}
use Rattle.record_pages.proofs.encode.encode_set_page.Goals as goal

spells : (g : _) (c : goal.After-page-3-1 g) → SpellsSetForm Large g.row.PAGE c.zero_from.new.into (record { set = c.args.set; write = c.args.write; records = c.args.records.now })
spells g c =
    let header = c.put_set_header-at in
    let behind = c.put_records-at in
    let written : Written g.row.PAGE (set_head Large c.args.set c.args.write) c.zero_from.new.into c.args.records.now header.result behind.result header.new.into behind.new.into =
    record {
      first_is = header.ensures.text;
      at_is = header.ensures.end;
      front_is = behind.ensures.text;
      end_is = behind.ensures.end;
      new_is = c.zero_from.ensures;
      whole = behind.auto.into ∙ header.auto.into ∙ c.told-page;
      fits = c.requires.fits;
      each = behind.ensures.each;
    } in
    set_page_written g.row.PAGE c.args.set c.args.write c.zero_from.new.into c.args.records.now header.result behind.result header.new.into behind.new.into (omega (arith, c.requires.page_size)) (omega (arith, c.ranges.set)) (omega (arith, c.ranges.write)) written

pub returns-clause-spelled : goal.returns-clause-spelled
returns-clause-spelled g c = inl (spells g c)

pub returns-clause-text : goal.returns-clause-text
returns-clause-text g c = (spells g c).text
