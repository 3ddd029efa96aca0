-- Explanations as a whole.
use Rattle.std.proofs.Common.{◌≡◌, ℕ, ◌≤◌, List, ◌++◌, sym, subst, ◌∙◌, arith, length}
use Rattle.std.specs.Prelude.{codes}
use Rattle.std.specs.List.{flat_map}
use Rattle.trace_file.specs.declared.call.Call.{Call}
use Rattle.history_picture.specs.declared.reason.Reason.{Reason}
use Rattle.history_picture.specs.declared.sheet.Sheet.{Sheet}
use Rattle.history_picture.specs.Marks.{marks_of}
use Rattle.history_picture.specs.Measures.{IsSheet}
use Rattle.history_picture.specs.Plain.{IsPlain}
use Rattle.history_picture.specs.Rows.{row_text}
use Rattle.history_picture.specs.Sentences.{sentence_of}
use Rattle.history_picture.specs.Shown.{AreShown, IsExplanation}
use Rattle.history_picture.proofs.Marking.{few_marks}
use Rattle.history_picture.proofs.PlainTexts.{plain_explanation}

-- the marks are few enough to be shown
pub room_for_marks : (reason : Reason) (marks : List ℕ) (most : ℕ) → marks ≡ marks_of reason → 19 ≤ most → length marks ≤ most
room_for_marks reason marks most is room = subst (λ m. length m ≤ most) (sym is) (omega (arith, few_marks reason))

-- a sentence and the lines of what is shown are an explanation
pub explained : (history : List Call) (lines : List ℕ) (callers : List (List ℕ)) (reason : Reason) (marks shown items : List ℕ) (sheet : Sheet) (sentence rows text : List ℕ) → marks ≡ marks_of reason → shown ≡ items → AreShown history marks 24 items → IsSheet history lines callers shown sheet → sentence ≡ sentence_of history lines reason → rows ≡ flat_map (row_text history lines callers marks sheet) shown → text ≡ sentence ++ (codes "\n" ++ rows) → IsExplanation history lines callers reason text
explained history lines callers reason marks shown items sheet sentence rows text m s are measured said told is =
    let all : rows ≡ flat_map (row_text history lines callers (marks_of reason) sheet) items = told ∙ (λ i. flat_map (row_text history lines callers (m i) sheet) (s i)) in
    let whole : text ≡ sentence_of history lines reason ++ (codes "\n" ++ flat_map (row_text history lines callers (marks_of reason) sheet) items) = is ∙ (λ i. said i ++ (codes "\n" ++ all i)) in
    record {
      shown = items;
      sheet = sheet;
      are_shown = subst (λ k. AreShown history k 24 items) m are;
      is_sheet = subst (λ k. IsSheet history lines callers k sheet) s measured;
      is = whole;
      plain = subst IsPlain (sym whole) (plain_explanation history lines callers reason (marks_of reason) sheet items);
    }
