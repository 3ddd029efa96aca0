use Rattle.history_page.proofs.NoTags.{no_tag_begins}
use Rattle.history_page.proofs.laws.page_laws.Goals as goal

pub returns : goal.returns
returns c = record { plain = no_tag_begins }
