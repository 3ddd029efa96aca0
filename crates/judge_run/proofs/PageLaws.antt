-- The page of an outcome.
use Rattle.std.proofs.Common.{◌≡◌, ℕ, Bool, List, Option}
use Rattle.figures.specs.declared.form.Form.{Form}
use Rattle.history_text.specs.Text.{Text}
use Rattle.judge_run.specs.declared.detail.Detail.{Detail}
use Rattle.judge_run.specs.declared.extent.Extent.{Extent}
use Rattle.judge_run.specs.declared.outcome.Outcome.{Outcome}
use Rattle.judge_run.specs.declared.outcome.Outcome.TheVariants.{Accepted, Rejected, Undecided, BadLine, BadTrace}
use Rattle.judge_run.specs.declared.scope.Scope.{Scope}
use Rattle.judge_run.specs.Paged.{IsPaged, IsPagedIf}
use Rattle.judge_run.specs.TextTold.{IsHistoryTold}

-- a page of a history that was judged is the page of its outcome
pub paged_if : (form : Form) (scope : Scope) (known : Option (List ℕ)) (detail : Detail) (text : Text) (extent : Extent) (outcome : Outcome) (told : List ℕ) (page : Option (List ℕ)) → IsHistoryTold form text extent detail outcome told → IsPaged scope known detail.page page → IsPagedIf scope known detail.page outcome page
paged_if form scope known detail text extent (Accepted acceptance) told page is paged = paged
paged_if form scope known detail text extent (Rejected rejection) told page is paged = paged
paged_if form scope known detail text extent (Undecided hits) told page is paged = paged
paged_if form scope known detail text extent (BadLine bad) told page is paged = absurd is
paged_if form scope known detail text extent (BadTrace fault) told page is paged = absurd is
