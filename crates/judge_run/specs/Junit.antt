-- What came of judging, as a JUnit file. Systems of continuous integration show it.
use Rattle.std.specs.Prelude.{◌≡◌, ℕ, nat_lt, List, [], ◌++◌, length, if◌then◌else◌, codes}
use Rattle.std.specs.Fmt.{decimal}
use Rattle.certificate_checker.specs.VerdictLine.{bad_trace_line}
use Rattle.history_text.specs.Causes.{bad_line_text}
use Rattle.judge_run.specs.Told.{IsWhy}
use Rattle.judge_run.specs.Xml.{xml_text}
use Rattle.judge_run.specs.declared.outcome.Outcome.{Outcome}
use Rattle.judge_run.specs.declared.outcome.Outcome.TheVariants.{Accepted, Rejected, Undecided, BadLine, BadTrace}
use Rattle.judge_run.specs.declared.rejection.Rejection.{Rejection}

-- the head of a file of one test: how many tests failed and erred, and the test's name
abbrev pub head_text : List ℕ → List ℕ → List ℕ
head_text counts name =
    codes "<?xml version=\"1.0\" encoding=\"UTF-8\"?>\n<testsuites>\n<testsuite name=\"kangaroo judge\" tests=\"1\" "
    ++ (counts
    ++ (codes ">\n<testcase classname=\"kangaroo judge\" name=\""
    ++ (xml_text name ++ codes "\">")))

-- this, and what stands after the test
abbrev pub tail_text : List ℕ → List ℕ
tail_text after = after ++ codes "</testcase>\n</testsuite>\n</testsuites>\n"

-- what came of the test: this before a text, the text, and this after it
abbrev pub inside_text : List ℕ → List ℕ → List ℕ → List ℕ
inside_text before why after =
    before ++ (xml_text why ++ tail_text after)

-- the test passed
abbrev pub passed_text : List ℕ → List ℕ
passed_text name = head_text (codes "failures=\"0\" errors=\"0\"") name ++ inside_text [] [] []

-- the test failed, for this reason
abbrev pub failed_text : List ℕ → List ℕ → List ℕ
failed_text name why =
    head_text (codes "failures=\"1\" errors=\"0\"") name ++ inside_text (codes "<failure message=\"rejected\">") why (codes "</failure>")

-- the test did not say whether the history is right, for this reason
abbrev pub erred_text : List ℕ → List ℕ → List ℕ
erred_text name why =
    head_text (codes "failures=\"0\" errors=\"1\"") name ++ inside_text (codes "<error message=\"") why (codes "\"/>")

-- that an accepted history has fewer calls than it has to have
abbrev pub few_text : ℕ → ℕ → List ℕ
few_text calls least = codes "accepted " ++ (decimal calls ++ (codes " calls of at least " ++ decimal least))

-- the file of a history that is accepted and has this many calls, if it has to have so many
abbrev pub accepted_junit : List ℕ → ℕ → ℕ → List ℕ
accepted_junit name least calls = if nat_lt calls least then erred_text name (few_text calls least) else passed_text name

-- that this many hits are undecided
abbrev pub undecided_junit : List ℕ → ℕ → List ℕ
undecided_junit name hits = erred_text name (codes "undecided " ++ (decimal hits ++ codes " hits"))

-- the history is rejected: the test failed, and its text is why the history is rejected
pub record IsFailed (name : List ℕ) (rejection : Rejection) (text : List ℕ) : Type 0 where
  pub why : List ℕ
  pub is : IsWhy rejection why
  pub text_is : text ≡ failed_text name why

-- the file of a judgement of this name, if an accepted history has to have so many calls
abbrev pub IsJunit : List ℕ → ℕ → Outcome → List ℕ → Type 0
IsJunit name least (Accepted acceptance) text = text ≡ accepted_junit name least acceptance.recorded
IsJunit name least (Rejected rejection) text = IsFailed name rejection text
IsJunit name least (Undecided hits) text = text ≡ undecided_junit name hits
IsJunit name least (BadLine bad) text = text ≡ erred_text name (bad_line_text bad)
IsJunit name least (BadTrace fault) text = text ≡ erred_text name (bad_trace_line fault)
