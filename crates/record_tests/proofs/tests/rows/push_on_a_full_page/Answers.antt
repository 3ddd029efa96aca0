use Rattle.std.proofs.Common.{sym, ◌∙◌}
use Rattle.record_pages.specs.Lent.{record_shown}
use Rattle.record_tests.proofs.RowLaws.{no_65th}
use Rattle.record_tests.proofs.tests.rows.push_on_a_full_page.Goals as goal

pub returns-then-fits : goal.returns-then-fits
returns-then-fits g c = λ full. absurd (no_65th g.row.PAGE c.args.writer.now (record_shown c.lent.result) full (sym c.fits.ensures ∙ c.if-fits.true))
