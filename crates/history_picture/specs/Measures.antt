-- How wide the words of the calls that are shown are.
use Rattle.std.specs.Prelude.{◌≡◌, ℕ, List, [], ◌∷◌, max, length, take, Option, Some, None, slice_get}
use Rattle.std.specs.Fmt.{decimal}
use Rattle.trace_file.specs.declared.call.Call.{Call}
use Rattle.history_picture.specs.Rows.{caller_words, end_words, label_number, value_words}
use Rattle.history_picture.specs.Scale.{IsScale}
use Rattle.history_picture.specs.declared.sheet.Sheet.{Sheet}

-- the length of the longest of some words
abbrev pub widest : (ℕ → List ℕ) → List ℕ → ℕ
widest word [] = 0
widest word (position ∷ positions) = max (length (word position)) (widest word positions)

-- a word for a call, none for no call
abbrev pub word_for : (Call → List ℕ) → Option Call → List ℕ
word_for word None = []
word_for word (Some call) = word call

-- the words of a line, by the position of its call
abbrev pub label_at : List ℕ → ℕ → List ℕ
label_at lines position = decimal (label_number (slice_get lines position) position)

abbrev pub caller_of : List (List ℕ) → Call → List ℕ
caller_of callers call = caller_words (slice_get callers call.caller) call.caller

abbrev pub caller_at : List Call → List (List ℕ) → ℕ → List ℕ
caller_at history callers position = word_for (caller_of callers) (slice_get history position)

abbrev pub start_at : List Call → ℕ → List ℕ
start_at history position = word_for (λ call. decimal call.start) (slice_get history position)

abbrev pub end_at : List Call → ℕ → List ℕ
end_at history position = word_for (λ call. end_words call.end) (slice_get history position)

abbrev pub value_at : List Call → ℕ → List ℕ
value_at history position = word_for (λ call. value_words call.act) (slice_get history position)

-- each column of words is as wide as its longest word
pub record AreWidths (history : List Call) (lines : List ℕ) (names : List (List ℕ)) (shown : List ℕ) (sheet : Sheet) : Type 0 where
  pub labels : sheet.labels ≡ widest (label_at lines) shown
  pub callers : sheet.callers ≡ widest (caller_at history names) shown
  pub starts : sheet.starts ≡ widest (start_at history) shown
  pub ends : sheet.ends ≡ widest (end_at history) shown
  pub values : sheet.values ≡ widest (value_at history) shown

-- the measures of the lines of these calls: the scale, and each column of words as wide as its longest word
pub record IsSheet (history : List Call) (lines : List ℕ) (callers : List (List ℕ)) (shown : List ℕ) (sheet : Sheet) : Type 0 where
  pub scale : IsScale history shown sheet.stamps.items
  pub widths : AreWidths history lines callers shown sheet

-- the scale is that of all, and the words of the first calls fit
pub record IsSheetSoFar (history : List Call) (lines : List ℕ) (callers : List (List ℕ)) (shown : List ℕ) (first : ℕ) (sheet : Sheet) : Type 0 where
  pub scale : IsScale history shown sheet.stamps.items
  pub widths : AreWidths history lines callers (take first shown) sheet

-- the words of a call were made to fit, and the scale is the same
pub record IsWidened (history : List Call) (lines : List ℕ) (names : List (List ℕ)) (position : ℕ) (old new : Sheet) : Type 0 where
  pub stamps : new.stamps ≡ old.stamps
  pub labels : new.labels ≡ max old.labels (length (label_at lines position))
  pub callers : new.callers ≡ max old.callers (length (caller_at history names position))
  pub starts : new.starts ≡ max old.starts (length (start_at history position))
  pub ends : new.ends ≡ max old.ends (length (end_at history position))
  pub values : new.values ≡ max old.values (length (value_at history position))

-- the words of a call, but for where it was recorded, were made to fit
pub record IsFit (names : List (List ℕ)) (call : Call) (old new : Sheet) : Type 0 where
  pub stamps : new.stamps ≡ old.stamps
  pub labels : new.labels ≡ old.labels
  pub callers : new.callers ≡ max old.callers (length (caller_of names call))
  pub starts : new.starts ≡ max old.starts (length (decimal call.start))
  pub ends : new.ends ≡ max old.ends (length (end_words call.end))
  pub values : new.values ≡ max old.values (length (value_words call.act))
