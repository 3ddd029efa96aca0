-- What `judge`, `check` and `show` wrote if the program ended with a status.
use Rattle.std.specs.Prelude.{◌≡◌, ◌≢◌, ◌⊎◌, ℕ, Bool, true, false, ◌==◌, nat_lt, if◌then◌else◌, fold, length, codes, List, [], ◌∷◌, ◌++◌, Option, Some, None, Ok}
use Rattle.std.specs.Io.KnownBytes.{Appends, Keeps}
use Rattle.figures.specs.declared.form.Form.{Form}
use Rattle.figures.specs.declared.form.Form.TheVariants.{Lines, Json}
use Rattle.history_text.specs.declared.line_cause.LineCause.{LineCause}
use Rattle.history_text.specs.declared.text_fault.TextFault.{TextFault}
use Rattle.history_text.specs.declared.text_fault.TextFault.TheVariants.{Bad}
use Rattle.history_text.specs.Spelled.{IsSaid}
use Rattle.history_text.specs.Spelling.{key_of}
use Rattle.judge_run.specs.declared.detail.Detail.{Detail}
use Rattle.judge_run.specs.declared.outcome.Outcome.{Outcome}
use Rattle.judge_run.specs.declared.scope.Scope.{Scope}
use Rattle.judge_run.specs.declared.shown.Shown.{Shown}
use Rattle.judge_run.specs.Ends.{end_at_least, end_of_outcome, end_of_shown, status_of}
use Rattle.judge_run.specs.Inputs.{IsStandardInput}
use Rattle.judge_run.specs.Showing.{HasShown}
use Rattle.judge_run.specs.TextTold.{ToldText}
use Rattle.judge_run.specs.TraceTold.{ToldTrace}

-- the report on a text of these bytes, as it is judged in this scope, was written, and the status is that of its outcome, if an accepted history has to have so many calls
pub record JudgedOn (form : Form) (scope : Scope) (known : Option (List ℕ)) (detail : Detail) (file : Option (List ℕ)) (least : ℕ) (old new : Option (List ℕ)) (status : ℕ) : Type 0 where
  pub outcome : Outcome
  pub status_is : status ≡ status_of (end_at_least least outcome)
  pub told : ToldText form scope known detail file outcome old new

-- this holds for each status but that of a fault
abbrev pub IsJudgeRunOn : Form → Scope → Option (List ℕ) → Detail → Option (List ℕ) → ℕ → Option (List ℕ) → Option (List ℕ) → ℕ → Type 0
IsJudgeRunOn form scope known detail file least old new status = status ≢ 3 → JudgedOn form scope known detail file least old new status

-- the same of some text
pub record JudgedWith (form : Form) (scope : Scope) (detail : Detail) (file : Option (List ℕ)) (least : ℕ) (old new : Option (List ℕ)) (status : ℕ) : Type 0 where
  pub known : Option (List ℕ)
  pub is : JudgedOn form scope known detail file least old new status

abbrev pub IsJudgeRun : Form → Scope → Detail → Option (List ℕ) → ℕ → Option (List ℕ) → Option (List ℕ) → ℕ → Type 0
IsJudgeRun form scope detail file least old new status = status ≢ 3 → JudgedWith form scope detail file least old new status

-- of several files each is named: by a line before its answer, or by a member of its object
abbrev pub is_headed : Form → Bool → Bool
is_headed Lines several = several
is_headed Json several = false

abbrev pub name_in : Form → Bool → List ℕ → Option (List ℕ)
name_in Lines several file = None
name_in Json true file = Some file
name_in Json false file = None

-- the name of a file and a colon, on a line of their own, were written if that is wanted
abbrev pub IsHeaded : Bool → List ℕ → Option (List ℕ) → Option (List ℕ) → Type 0
IsHeaded true file old new = Appends old new (file ++ codes ":\n")
IsHeaded false file old new = new ≡ old

-- the report on the text in a file was written, with the name of the file if it is one of several. If the file is the standard input, the text is what was left of it; otherwise nothing of it was read
pub record JudgedFile (form : Form) (scope : Scope) (detail : Detail) (least : ℕ) (several : Bool) (file : List ℕ) (input left old new : Option (List ℕ)) (status : ℕ) : Type 0 where
  pub begun : Option (List ℕ)
  pub head : status ≢ 3 → IsHeaded (is_headed form several) file old begun
  pub judged : IsJudgeRun form scope detail (name_in form several file) least begun new status
  pub standard_input : IsStandardInput file → IsJudgeRunOn form scope input detail (name_in form several file) least begun new status
  pub unread : ¬ IsStandardInput file → left ≡ input

-- the same of file after file, with the status of each
abbrev pub AreJudged : Form → Scope → Detail → ℕ → Bool → List (List ℕ) → List ℕ → Option (List ℕ) → Option (List ℕ) → Option (List ℕ) → Option (List ℕ) → Type 0
AreJudged form scope detail least several [] [] input left old new = (left ≡ input) × (new ≡ old)
AreJudged form scope detail least several (file ∷ files) (status ∷ statuses) input left old new =
    (between : Option (List ℕ)) × (so_far : Option (List ℕ)) × JudgedFile form scope detail least several file input between old so_far status × AreJudged form scope detail least several files statuses between left so_far new
AreJudged form scope detail least several [] (status ∷ statuses) input left old new = ⊥
AreJudged form scope detail least several (file ∷ files) [] input left old new = ⊥

-- how much a status has to be noticed: 3 before 2, 1, 4 and 0
abbrev pub weight_of : ℕ → ℕ
weight_of status = if status == 0 then 0 else (if status == 4 then 1 else (if status == 1 then 2 else (if status == 2 then 3 else 4)))

-- that of two statuses which has to be noticed more
abbrev pub worse_of : ℕ → ℕ → ℕ
worse_of one other = if nat_lt (weight_of one) (weight_of other) then other else one

-- that of several
abbrev pub worst_of : List ℕ → ℕ
worst_of [] = 0
worst_of (status ∷ statuses) = fold worse_of status statuses

-- the texts in these files were judged in turn, and the status is that which has to be noticed most
pub record JudgedInTurn (form : Form) (scope : Scope) (detail : Detail) (least : ℕ) (several : Bool) (files : List (List ℕ)) (input left old new : Option (List ℕ)) (status : ℕ) : Type 0 where
  pub statuses : List ℕ
  pub are : AreJudged form scope detail least several files statuses input left old new
  pub status_is : status ≡ worst_of statuses

-- the same with some standard input
pub record JudgedFiles (form : Form) (scope : Scope) (detail : Detail) (least : ℕ) (several : Bool) (files : List (List ℕ)) (old new : Option (List ℕ)) (status : ℕ) : Type 0 where
  pub input : Option (List ℕ)
  pub left : Option (List ℕ)
  pub is : JudgedInTurn form scope detail least several files input left old new status

-- several files are judged
abbrev pub are_several : List (List ℕ) → Bool
are_several others = nat_lt 0 (length others)

-- the report on a trace of these bytes, of which those are left, was written, and the status is that of its outcome
pub record CheckedOn (form : Form) (known left : Option (List ℕ)) (explain : Bool) (old new : Option (List ℕ)) (status : ℕ) : Type 0 where
  pub outcome : Outcome
  pub status_is : status ≡ status_of (end_of_outcome outcome)
  pub told : ToldTrace form known left explain outcome old new

-- this holds for each status but that of a fault
abbrev pub IsCheckRunOn : Form → Option (List ℕ) → Option (List ℕ) → Bool → Option (List ℕ) → Option (List ℕ) → ℕ → Type 0
IsCheckRunOn form known left explain old new status = status ≢ 3 → CheckedOn form known left explain old new status

-- the same of some trace
pub record CheckedWith (form : Form) (explain : Bool) (old new : Option (List ℕ)) (status : ℕ) : Type 0 where
  pub known : Option (List ℕ)
  pub left : Option (List ℕ)
  pub is : CheckedOn form known left explain old new status

abbrev pub IsCheckRun : Form → Bool → Option (List ℕ) → Option (List ℕ) → ℕ → Type 0
IsCheckRun form explain old new status = status ≢ 3 → CheckedWith form explain old new status

-- the key whose calls alone are asked for is the one that the word writes, if there is a word
abbrev pub IsAskedFor : Option (List ℕ) → Option (List ℕ) → Type 0
IsAskedFor None only = only ≡ None
IsAskedFor (Some word) only = (key : List ℕ) × (key_of word ≡ Ok key) × (only ≡ Some key)

-- the word writes no key, for this cause, or memory was refused
abbrev pub IsNotAskedFor : Option (List ℕ) → TextFault → Type 0
IsNotAskedFor None fault = ⊥
IsNotAskedFor (Some word) fault = IsSaid (key_of word) fault

-- the outcome of showing a trace of these bytes was written, and the status is that of it
pub record ShownAs (known only old new : Option (List ℕ)) (status : ℕ) : Type 0 where
  pub shown : Shown
  pub status_is : status ≡ status_of (end_of_shown shown)
  pub wrote : HasShown known only shown old new

-- the calls that are shown are those of the key that the word writes, or all if there is no word
pub record ShownOn (known word old new : Option (List ℕ)) (status : ℕ) : Type 0 where
  pub only : Option (List ℕ)
  pub asked : IsAskedFor word only
  pub is : ShownAs known only old new status

-- the word writes no key, for this cause, and nothing was written
pub record ShownNothing (word old new : Option (List ℕ)) (status : ℕ) : Type 0 where
  pub cause : LineCause
  pub none : IsNotAskedFor word (Bad cause)
  pub status_is : status ≡ 2
  pub kept : Keeps old new

-- this holds for each status but that of a fault
abbrev pub IsShowRunOn : Option (List ℕ) → Option (List ℕ) → Option (List ℕ) → Option (List ℕ) → ℕ → Type 0
IsShowRunOn known word old new status = status ≢ 3 → ShownOn known word old new status ⊎ ShownNothing word old new status

-- the same of some trace
pub record ShownWith (word old new : Option (List ℕ)) (status : ℕ) : Type 0 where
  pub known : Option (List ℕ)
  pub is : ShownOn known word old new status ⊎ ShownNothing word old new status

abbrev pub IsShowRun : Option (List ℕ) → Option (List ℕ) → Option (List ℕ) → ℕ → Type 0
IsShowRun word old new status = status ≢ 3 → ShownWith word old new status
