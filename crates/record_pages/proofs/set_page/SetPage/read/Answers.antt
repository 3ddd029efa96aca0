use Rattle.std.proofs.Common.{◌∙◌}
use Rattle.record_pages.proofs.public_laws.PageLaws.{set_page_only, set_page_texts_differ}
use Rattle.record_pages.proofs.set_page.SetPage.read.Goals as goal

pub returns-clause-found : goal.returns-clause-found
returns-clause-found g c = rw (← c.told-bytes) c.set_page_at.ensures.found

pub returns-clause-only : goal.returns-clause-only
returns-clause-only g c = λ p s. c.set_page_at.ensures.exact ∙ set_page_only g.row.PAGE c.args.bytes.now p s

pub returns-clause-unique : goal.returns-clause-unique
returns-clause-unique g c = set_page_texts_differ g.row.PAGE
