-- What a rewriting of a set does.
use Rattle.std.specs.Prelude.{ℕ, List, Bool, true, false}
use Rattle.record_pages.specs.Recs.{Rec}
use Rattle.kset.specs.declared.rewritten.Rewritten.{Rewritten}
use Rattle.kset.specs.declared.rewritten.Rewritten.TheVariants as answers
use Rattle.kset.specs.Sets.{SetsState, written, tried, forgotten}

-- the page was not written
abbrev pub is_forgotten : Rewritten → Bool
is_forgotten answers.Forgotten = true
is_forgotten answers.Written = false

-- the sets after a rewriting of one of them with these records: forgotten, or its page is written
abbrev pub after_rewrite : SetsState → ℕ → List Rec → Rewritten → SetsState
after_rewrite old set rs answers.Written = written old set rs
after_rewrite old set rs answers.Forgotten = forgotten (tried old) set
