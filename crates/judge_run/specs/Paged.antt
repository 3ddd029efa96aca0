-- The page of a text that was judged.
use Rattle.std.specs.Prelude.{◌≡◌, ℕ, Bool, true, false, List, ◌++◌, length, codes, Option, Some, None}
use Rattle.std.specs.List.{flat_map}
use Rattle.trace_file.specs.declared.call.Call.{Call}
use Rattle.certificate_finder.specs.declared.found.Found.{Found}
use Rattle.certificate_finder.specs.Finding.{IfRejected, IsFound}
use Rattle.history_picture.specs.Reasons.{reason_of}
use Rattle.history_picture.specs.Sentences.{sentence_of}
use Rattle.history_text.specs.Text.{Text}
use Rattle.history_page.specs.Pages.{page_text}
use Rattle.judge_run.specs.Extents.{extent_text, own_of}
use Rattle.judge_run.specs.FaultsTold.{fault_text}
use Rattle.judge_run.specs.Listing.{IsListed}
use Rattle.judge_run.specs.Streams.{IsJudgedBy, was_accepted, was_decided}
use Rattle.judge_run.specs.VerdictText.{verdict_text}
use Rattle.judge_run.specs.declared.extent.Extent.{Extent}
use Rattle.judge_run.specs.declared.fault_list.FaultList.{FaultList}
use Rattle.judge_run.specs.declared.outcome.Outcome.{Outcome}
use Rattle.judge_run.specs.declared.outcome.Outcome.TheVariants.{Accepted, Rejected, Undecided, BadLine, BadTrace}
use Rattle.judge_run.specs.declared.scope.Scope.{Scope}
use Rattle.judge_run.specs.declared.told_fault.ToldFault.{ToldFault}

-- the line of a fault as --all has it, and on the next one its sentence, as --explain has it
abbrev pub fault_words : List Call → List ℕ → ℕ → ToldFault → List ℕ
fault_words calls lines recorded fault = fault_text calls lines recorded fault ++ (sentence_of calls lines (reason_of fault.reason) ++ codes "\n")

-- what the page tells: the lines of the verdict, then these of each fault
abbrev pub page_report : List Call → List ℕ → Extent → Found → List ToldFault → List ℕ
page_report calls lines extent found faults =
    (verdict_text calls lines extent found ++ extent_text extent) ++ flat_map (fault_words calls lines (own_of extent (length calls))) faults

-- the page of a text for which this was found
abbrev pub page_of : Text → Extent → Found → List ToldFault → List ℕ
page_of text extent found faults =
    page_text text.calls text.lines text.callers (own_of extent (length text.calls)) (page_report text.calls text.lines extent found faults)

-- the same if it is wanted
abbrev pub page_if : Bool → Text → Extent → Found → List ToldFault → Option (List ℕ)
page_if true text extent found faults = Some (page_of text extent found faults)
page_if false text extent found faults = None

-- the bytes of a text, if they are known, were judged in this scope, and this is the page of what was found, if it is wanted
pub record IsPaged (scope : Scope) (known : Option (List ℕ)) (wanted : Bool) (page : Option (List ℕ)) : Type 0 where
  pub text : Text
  pub extent : Extent
  pub found : Found
  pub list : FaultList
  pub judged : IsJudgedBy scope.window scope known (was_accepted found) (was_decided found) text extent
  pub is_found : IsFound text.calls found
  pub are_all : IfRejected found (λ _. IsListed text.calls list)
  pub page_is : page ≡ page_if wanted text extent found list.faults.items

-- the same of an outcome; of a text with a bad line there is no page
abbrev pub IsPagedIf : Scope → Option (List ℕ) → Bool → Outcome → Option (List ℕ) → Type 0
IsPagedIf scope known wanted (Accepted acceptance) page = IsPaged scope known wanted page
IsPagedIf scope known wanted (Rejected rejection) page = IsPaged scope known wanted page
IsPagedIf scope known wanted (Undecided hits) page = IsPaged scope known wanted page
IsPagedIf scope known wanted (BadLine bad) page = page ≡ None
IsPagedIf scope known wanted (BadTrace fault) page = ⊥
