-- Widening by one call after the other.
use Rattle.std.proofs.Common.{◌≡◌, ℕ, ◌+◌, ◌<◌, ◌≤◌, List, [], ◌∷◌, ◌++◌, sym, subst, ap, ◌∙◌, arith, length, max, take, get_or}
use Rattle.std.proofs.lemmas.List.{take_all, take_more}
use Rattle.trace_file.specs.declared.call.Call.{Call}
use Rattle.history_picture.specs.Measures.{AreWidths, IsSheet, IsSheetSoFar, IsWidened, widest, label_at, caller_at, start_at, end_at, value_at}
use Rattle.history_picture.specs.Scale.{IsScale}
use Rattle.history_picture.specs.declared.sheet.Sheet.{Sheet}

widest_push : (word : ℕ → List ℕ) (xs : List ℕ) (x : ℕ) → widest word (xs ++ x ∷ []) ≡ max (widest word xs) (length (word x))
widest_push word [] x = omega arith
widest_push word (y ∷ xs) x = omega (arith, widest_push word xs x)

widest_more : (word : ℕ → List ℕ) (xs : List ℕ) (i : ℕ) (old new : ℕ) → i < length xs → old ≡ widest word (take i xs) → new ≡ max old (length (word (get_or xs i 0))) → new ≡ widest word (take (i + 1) xs)
widest_more word xs i old new less o n =
    n ∙ ap (λ w. max w (length (word (get_or xs i 0)))) o ∙ sym (ap (widest word) (take_more xs i 0 less) ∙ widest_push word (take i xs) (get_or xs i 0))

-- the words of one more call fit
pub widened : (history : List Call) (lines : List ℕ) (callers : List (List ℕ)) (shown : List ℕ) (i : ℕ) (old new : Sheet) → i < length shown → IsSheetSoFar history lines callers shown i old → IsWidened history lines callers (get_or shown i 0) old new → IsSheetSoFar history lines callers shown (i + 1) new
widened history lines callers shown i old new less a w = record {
  scale = subst (λ stamps. IsScale history shown stamps.items) (sym w.stamps) a.scale;
  widths = record {
    labels = widest_more (label_at lines) shown i old.labels new.labels less a.widths.labels w.labels;
    callers = widest_more (caller_at history callers) shown i old.callers new.callers less a.widths.callers w.callers;
    starts = widest_more (start_at history) shown i old.starts new.starts less a.widths.starts w.starts;
    ends = widest_more (end_at history) shown i old.ends new.ends less a.widths.ends w.ends;
    values = widest_more (value_at history) shown i old.values new.values less a.widths.values w.values;
  };
}

-- the words of all calls fit
pub all_widened : (history : List Call) (lines : List ℕ) (callers : List (List ℕ)) (shown : List ℕ) (i : ℕ) (sheet : Sheet) → length shown ≤ i → IsSheetSoFar history lines callers shown i sheet → IsSheet history lines callers shown sheet
all_widened history lines callers shown i sheet over a = record {
  scale = a.scale;
  widths = subst (λ xs. AreWidths history lines callers xs sheet) (take_all i shown over) a.widths;
}
