-- The lines and the key that a reason speaks of.
use Rattle.std.proofs.Common.{◌≡◌, ℕ, ◌+◌, ◌<◌, ◌≤◌, true, false, eqb, ltb, List, [], ◌∷◌, ◌++◌, length, get_or, take, drop, drop-cons, add-one, fold, Option, Some, None, IsSomeAnd, refl, sym, ap, ◌∙◌, append_assoc}
use Rattle.std.specs.Prelude.{slice_get, insert}
use Rattle.std.proofs.lemmas.List.{drop_all, take_all, take_more, take-append-drop}
use Rattle.std.proofs.lemmas.List.Elements.{filter_map-append}
use Rattle.std.proofs.lemmas.List.Sums.{fold-append}
use Rattle.std.proofs.lemmas.Option.{slice_get-get_or, slice_get_past, slice_get_within}
use Rattle.trace_file.specs.declared.call.Call.{Call}
use Rattle.certificate_finder.specs.declared.witness.Witness.{Witness}
use Rattle.certificate_finder.specs.declared.witness.Witness.TheVariants.{Interval, Hit, Crossed, Unread}
use Rattle.certificate_finder.specs.Witnesses.{IsWitness}
use Rattle.judge_run.specs.Telling.{put_in, ascending, first_position, lines_at}

some_within : {A : Type 0} (P : A → Type 0) (xs : List A) (i : ℕ) (o : Option A) → slice_get xs i ≡ o → IsSomeAnd o P → i < length xs
some_within P xs i None is h = absurd h
some_within P xs i (Some x) is h = slice_get_within xs i x is

-- the call whose key a reason is about is one of the history
pub first_within : (history : List Call) (witness : Witness) → IsWitness history witness → first_position witness < length history
first_within history (Interval call) is = some_within _ history call (slice_get history call) refl is
first_within history (Hit hit puts) is = slice_get_within history hit is.call is.at
first_within history (Crossed one other) is =
    some_within _ history one.write (slice_get history one.write) refl is.first.writes
first_within history (Unread unread) is = slice_get_within history unread.hit is.call is.at

-- ---- a number put at its place

behind : (t : ℕ) (ts : List ℕ) (n : ℕ) → ltb n t ≡ false → eqb n t ≡ false → put_in (t ∷ ts) n ≡ t ∷ put_in ts n
behind t ts n less same = rw (less, same) refl

here : (t : ℕ) (ts : List ℕ) (n : ℕ) → ltb n t ≡ false → eqb n t ≡ true → put_in (t ∷ ts) n ≡ t ∷ ts
here t ts n less same = rw (less, same) refl

before : (t : ℕ) (ts : List ℕ) (n : ℕ) → ltb n t ≡ true → put_in (t ∷ ts) n ≡ n ∷ t ∷ ts
before t ts n less = rw less refl

module _ (ls : List ℕ) (i n : ℕ) (lt : i < length ls) where
  rest : drop i ls ≡ get_or ls i 0 ∷ drop (i + 1) ls
  rest = rw (add-one) (drop-cons ls i 0 lt)

  pub put_on : ltb n (get_or ls i 0) ≡ false → eqb n (get_or ls i 0) ≡ false → take i ls ++ put_in (drop i ls) n ≡ take (i + 1) ls ++ put_in (drop (i + 1) ls) n
  put_on less same =
      ap (λ xs. take i ls ++ put_in xs n) rest
      ∙ ap (λ xs. take i ls ++ xs) (behind (get_or ls i 0) (drop (i + 1) ls) n less same)
      ∙ sym (append_assoc (take i ls) (get_or ls i 0 ∷ []) (put_in (drop (i + 1) ls) n))
      ∙ ap (λ xs. xs ++ put_in (drop (i + 1) ls) n) (sym (take_more ls i 0 lt))

  pub put_here : ltb n (get_or ls i 0) ≡ false → eqb n (get_or ls i 0) ≡ true → take i ls ++ put_in (drop i ls) n ≡ ls
  put_here less same =
      ap (λ xs. take i ls ++ put_in xs n) rest
      ∙ ap (λ xs. take i ls ++ xs) (here (get_or ls i 0) (drop (i + 1) ls) n less same)
      ∙ ap (λ xs. take i ls ++ xs) (sym rest)
      ∙ take-append-drop i ls

  pub put_before : ltb n (get_or ls i 0) ≡ true → take i ls ++ put_in (drop i ls) n ≡ insert ls i n
  put_before less =
      ap (λ xs. take i ls ++ put_in xs n) rest
      ∙ ap (λ xs. take i ls ++ xs) (before (get_or ls i 0) (drop (i + 1) ls) n less)
      ∙ ap (λ xs. take i ls ++ n ∷ xs) (sym rest)

pub put_last : (ls : List ℕ) (i n : ℕ) → length ls ≤ i → take i ls ++ put_in (drop i ls) n ≡ ls ++ n ∷ []
put_last ls i n all =
    ap (λ xs. take i ls ++ put_in xs n) (drop_all i ls all) ∙ ap (λ xs. xs ++ n ∷ []) (take_all i ls all)

-- ---- the lines of positions, one position after the other

module _ (lines positions : List ℕ) (i : ℕ) (lt : i < length positions) where
  pub line_more : lines_at lines (take (i + 1) positions) ≡ lines_at lines (take i positions) ++ lines_at lines (get_or positions i 0 ∷ [])
  line_more =
      ap (lines_at lines) (take_more positions i 0 lt)
      ∙ filter_map-append (slice_get lines) (take i positions) (get_or positions i 0 ∷ [])

  pub one : ascending (lines_at lines (take (i + 1) positions)) ≡ fold put_in (ascending (lines_at lines (take i positions))) (lines_at lines (get_or positions i 0 ∷ []))
  one =
      ap ascending line_more
      ∙ fold-append put_in [] (lines_at lines (take i positions)) (lines_at lines (get_or positions i 0 ∷ []))

-- the line of one position, if there is one
pub line_here : (lines told : List ℕ) (p : ℕ) → p < length lines → put_in told (get_or lines p 0) ≡ fold put_in told (lines_at lines (p ∷ []))
line_here lines told p lt = let at = slice_get-get_or lines p 0 lt in rw at refl

pub no_line : (lines told : List ℕ) (p : ℕ) → length lines ≤ p → told ≡ fold put_in told (lines_at lines (p ∷ []))
no_line lines told p past = let at = slice_get_past lines p past in rw at refl
