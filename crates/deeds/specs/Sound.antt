-- What an answer does, and lanes that show of each key what it has after the deeds.
use Rattle.std.specs.Prelude.{◌≡◌, ℕ, List, Some}
use Rattle.record_pages.specs.declared.answer.Answer.{Answer}
use Rattle.record_pages.specs.declared.answer.Answer.TheVariants as answers
use Rattle.memory_cache.specs.declared.pair.Pair.{Pair}
use Rattle.mover.specs.Lane.{LaneState}
use Rattle.mover.specs.Visible.{IsShown}
use Rattle.trace_file.specs.declared.act.Act.{Act}
use Rattle.trace_file.specs.declared.act.Act.TheVariants.{Hit, Miss}
use Rattle.certificate_checker.specs.Deeds.{Deed}
use Rattle.certificate_checker.specs.Current.{current}

-- what an answer to a get of a moment does
abbrev pub act_of : ℕ → Answer → Act
act_of moment (answers.Hit value tier) = Hit value moment
act_of moment (answers.Miss cause) = Miss

-- a lane is sound after these deeds: each visible pair, and each of an item in flight that was not struck, is what its key has after them, expired or not
abbrev pub IsSound : LaneState → List Deed → Type 0
IsSound lane deeds = (p : Pair) → IsShown lane p → current deeds p.key ≡ Some p.value
