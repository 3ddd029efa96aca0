-- What is reported after the verdict of a history that is rejected.
use Rattle.std.specs.Prelude.{◌≡◌, ℕ, Bool, true, false, List, ◌++◌}
use Rattle.figures.specs.declared.form.Form.{Form}
use Rattle.figures.specs.Figures.{ended}
use Rattle.history_picture.specs.Names.{names_of}
use Rattle.history_picture.specs.Shown.{IsExplanation}
use Rattle.judge_run.specs.declared.rejection.Rejection.{Rejection}
use Rattle.judge_run.specs.Answers.{with_why}
use Rattle.judge_run.specs.FromStart.{start_why}

-- why a history is rejected, and what its reason speaks of that was there from the start
pub record IsWhy (rejection : Rejection) (why : List ℕ) : Type 0 where
  pub explained : List ℕ
  pub is : IsExplanation rejection.history rejection.lines.items (names_of rejection.callers.items) rejection.reason explained
  pub why_is : why ≡ explained ++ start_why rejection.from_start.items

-- the text is the answer that was begun, and after it why the history is rejected, with this text at its end
pub record Explained (form : Form) (more : List ℕ) (rejection : Rejection) (begun text : List ℕ) : Type 0 where
  pub why : List ℕ
  pub is : IsWhy rejection why
  pub text_is : text ≡ ended form (with_why form begun (why ++ more))

-- the text is the answer that was begun, and after it why the history is rejected, if that is wanted
abbrev pub IsBehind : Form → Bool → List ℕ → Rejection → List ℕ → List ℕ → Type 0
IsBehind form true more rejection begun text = Explained form more rejection begun text
IsBehind form false more rejection begun text = text ≡ ended form begun
