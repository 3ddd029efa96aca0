use Rattle.std.proofs.Common.{◌∙◌}
use Rattle.record_pages.proofs.public_laws.PageLaws.{log_page_only, log_page_texts_differ}
use Rattle.record_pages.proofs.log_page.LogPage.read.Goals as goal

pub returns-clause-found : goal.returns-clause-found
returns-clause-found g c = rw (← c.told-bytes) c.log_page_at.ensures.found

pub returns-clause-only : goal.returns-clause-only
returns-clause-only g c = λ p s. c.log_page_at.ensures.exact ∙ log_page_only g.row.PAGE c.args.bytes.now p s

pub returns-clause-unique : goal.returns-clause-unique
returns-clause-unique g c = log_page_texts_differ g.row.PAGE
