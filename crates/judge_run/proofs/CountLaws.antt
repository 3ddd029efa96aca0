-- Calls that are counted: of what is kept there are no more than of all, and what does not fit in 64 bits.
use Rattle.std.proofs.Common.{◌≡◌, ◌∙◌, ◌≤◌, ◌<◌, ◌+◌, ◌^◌, ℕ, suc, zero, Bool, cond, List, [], ◌∷◌, ◌++◌, Option, Some, None, Result, Ok, Err, length, take, ap, arith, refl, sym, slice_get, inl, inr, subst}
use Rattle.std.specs.Prelude.{◌⊎◌}
use Rattle.std.specs.List.{sum_by}
use Rattle.std.proofs.lemmas.List.Sums.{sum_by-cons, sum_by-take-le, sum_by_push}
use Rattle.trace_file.specs.declared.call.Call.{Call}
use Rattle.trace_file.specs.declared.call_kind.CallKind.{CallKind}
use Rattle.trace_file.specs.declared.call_kind.CallKind.TheVariants.{Put, Remove, Hit, Miss}
use Rattle.certificate_checker.specs.Orders.{in_order}
use Rattle.certificate_checker.proofs.public_laws.Listing.{Member, Pairs, pairs_from}
use Rattle.certificate_checker.proofs.public_laws.Lookups.{take_next}
use Rattle.history_text.specs.declared.bad_line.BadLine.{BadLine}
use Rattle.history_text.specs.declared.read_text_fault.ReadTextFault.TheVariants.{CountFull}
use Rattle.history_text.specs.declared.reading.Reading.{Reading}
use Rattle.history_text.specs.Pieces.{Progress, TakesPiece}
use Rattle.history_text.specs.Text.{Text, TextRead, of_history, read_by, read_from}
use Rattle.history_window.specs.Streams.{IsKept, Piece, decided_in, puts_in}
use Rattle.judge_run.specs.declared.forgotten.Forgotten.{Forgotten}
use Rattle.judge_run.specs.declared.kind_counts.KindCounts.{KindCounts}
use Rattle.judge_run.specs.declared.scope.Scope.{Scope}
use Rattle.judge_run.specs.Kinds as kinds
use Rattle.judge_run.specs.Kinds.{counts_in}
use Rattle.judge_run.specs.Streams as streams
use Rattle.judge_run.specs.Streams.{AreFewer, IsJudgedLast, IsOver, IsStreamFault, count_of}
use Rattle.judge_run.proofs.StreamLaws.{count_both, puts_added}

-- ---- calls at rising positions

module _ (weight : Call → ℕ) where
  more_taken : (xs : List Call) (a b : ℕ) → a ≤ b → sum_by weight (take a xs) ≤ sum_by weight (take b xs)
  more_taken xs zero b less =
      let none : sum_by weight (take zero xs) ≡ 0 = refl in
      omega (arith, none)
  more_taken [] (suc a) b less =
      let none : sum_by weight (take (suc a) []) ≡ 0 = refl in
      omega (arith, none)
  more_taken (x ∷ xs) (suc a) zero less = absurd (omega (arith, less))
  more_taken (x ∷ xs) (suc a) (suc b) less =
      let more = more_taken xs a b (omega (arith, less)) in
      let one : sum_by weight (take (suc a) (x ∷ xs)) ≡ weight x + sum_by weight (take a xs) = sum_by-cons weight x (take a xs) in
      let other : sum_by weight (take (suc b) (x ∷ xs)) ≡ weight x + sum_by weight (take b xs) = sum_by-cons weight x (take b xs) in
      omega (arith, more, one, other)

  picked_one : (calls : List Call) (place : ℕ) (rest : List ℕ) (from : ℕ) (found : Option Call) → from ≤ place → slice_get calls place ≡ found → sum_by weight (take (place + 1) calls) + sum_by weight (in_order calls rest) ≤ sum_by weight calls → sum_by weight (take from calls) + sum_by weight (in_order calls (place ∷ rest)) ≤ sum_by weight calls
  picked_one calls place rest from None least at more =
      let front = more_taken calls from (place + 1) (omega (arith, least)) in
      let same : in_order calls (place ∷ rest) ≡ in_order calls rest = rw at refl in
      let alike = ap (sum_by weight) same in
      omega (arith, front, alike, more)
  picked_one calls place rest from (Some call) least at more =
      let front = more_taken calls from place least in
      let this : sum_by weight (take (place + 1) calls) ≡ sum_by weight (take place calls) + weight call = ap (sum_by weight) (take_next calls place call at) ∙ sum_by_push weight (take place calls) call in
      let same : in_order calls (place ∷ rest) ≡ call ∷ in_order calls rest = rw at refl in
      let alike = ap (sum_by weight) same ∙ sum_by-cons weight call (in_order calls rest) in
      omega (arith, front, this, alike, more)

  picked_few : (calls : List Call) (places : List ℕ) (from : ℕ) → ((place : ℕ) → Member place places → from ≤ place) → Pairs (λ earlier later. earlier < later) places → sum_by weight (take from calls) + sum_by weight (in_order calls places) ≤ sum_by weight calls
  picked_few calls [] from least rise =
      let front = sum_by-take-le weight calls from in
      let none : sum_by weight (in_order calls []) ≡ 0 = refl in
      omega (arith, front, none)
  picked_few calls (place ∷ rest) from least rise =
      picked_one calls place rest from (slice_get calls place) (least place (inl refl)) refl (picked_few calls rest (place + 1) (λ other m. let less = rise.0 other m in omega (arith, less)) rise.1)

  -- of those there are no more than of all
  few_picked : (calls : List Call) (places : List ℕ) → Pairs (λ earlier later. earlier < later) places → sum_by weight (in_order calls places) ≤ sum_by weight calls
  few_picked calls places rise =
      let all = picked_few calls places 0 (λ place m. omega arith) rise in
      let none : sum_by weight (take 0 calls) ≡ 0 = refl in
      omega (arith, all, none)

  -- of what is kept there are no more than of what was judged
  kept_few : (bound : ℕ) (calls kept : List Call) (lines kept_lines : List ℕ) → IsKept bound calls lines kept kept_lines → sum_by weight kept ≤ sum_by weight calls
  kept_few bound calls kept lines kept_lines is =
      let window = few_picked calls is.window (pairs_from (λ earlier later. earlier < later) is.window is.is_window.rise) in
      let left = few_picked (in_order calls is.window) is.left (pairs_from (λ earlier later. earlier < later) is.left is.are_left.rise) in
      let same = ap (sum_by weight) is.calls_are in
      omega (arith, window, left, same)

kept_of : (kind : CallKind) (bound : ℕ) (calls kept : List Call) (lines kept_lines : List ℕ) → IsKept bound calls lines kept kept_lines → kinds.calls_of kind kept ≤ kinds.calls_of kind calls
kept_of kind bound calls kept lines kept_lines is = kept_few (λ call. cond (kinds.is_of kind call) 1 0) bound calls kept lines kept_lines is

pub fewer_kept : (bound : ℕ) (calls kept : List Call) (lines kept_lines : List ℕ) (before after : KindCounts) → IsKept bound calls lines kept kept_lines → before ≡ counts_in calls → after ≡ counts_in kept → AreFewer after before
fewer_kept bound calls kept lines kept_lines before after is b a = subst (λ (n : KindCounts). AreFewer n before) (sym a) (subst (AreFewer (counts_in kept)) (sym b) (record {
  puts = kept_of Put bound calls kept lines kept_lines is;
  removals = kept_of Remove bound calls kept lines kept_lines is;
  hits = kept_of Hit bound calls kept lines kept_lines is;
  misses = kept_of Miss bound calls kept lines kept_lines is;
}))

-- ---- counts that don't fit

counted_as : (kind : CallKind) (calls : List Call) (counts : KindCounts) → counts ≡ counts_in calls → count_of kind counts ≡ kinds.calls_of kind calls
counted_as Put calls counts is = ap (λ (n : KindCounts). n.puts) is
counted_as Remove calls counts is = ap (λ (n : KindCounts). n.removals) is
counted_as Hit calls counts is = ap (λ (n : KindCounts). n.hits) is
counted_as Miss calls counts is = ap (λ (n : KindCounts). n.misses) is

module _ (scope : Scope) (window least : ℕ) (unended : Bool) (known left : Option (List ℕ)) (progress : Progress) (judged : Text) (waiting : List Call) (waiting_lines : List ℕ) (latest : ℕ) (forgotten : Forgotten) (from_start : Option ℕ) (last : IsJudgedLast scope window least unended known left progress judged waiting waiting_lines latest forgotten from_start) where
  abbrev pieces : List Piece
  pieces = last.last ∷ last.earlier

  full_by : ((kind : CallKind) × (2 ^ 64 ≤ kinds.calls_of kind (decided_in pieces ++ waiting))) ⊎ (2 ^ 64 ≤ puts_in pieces) → IsStreamFault scope window least known CountFull
  full_by full = record {
    unended = unended;
    left = left;
    progress = progress;
    judged = judged;
    waiting = waiting;
    waiting_lines = waiting_lines;
    latest = latest;
    forgotten = forgotten;
    from_start = from_start;
    is = last;
    full = full;
  }

  -- of what was judged
  pub over_judged : (before : KindCounts) → before ≡ counts_in judged.calls → IsOver forgotten before from_start → IsStreamFault scope window least known CountFull
  over_judged before is over = full_by (elim over [
    | inl some ↦ inl (
      some.0,
      (
          let many = some.1 in
          let here = counted_as some.0 judged.calls before is in
          let same = ap (kinds.calls_of some.0) last.calls_are in
          let all = last.counted some.0 in
          let both = count_both some.0 (decided_in pieces) waiting in
          omega (arith, many, here, same, all, both)),
    )
    | inr many ↦ inr (
        let earlier = last.added_before in
        let here = puts_added scope.warm (last.last.kept ++ last.last.decided) (last.last.kept_lines ++ last.last.decided_lines) last.last.puts last.last.put_lines from_start last.are.1.puts last.added in
        omega (arith, many, earlier, here))
  ])

  -- with what waits
  pub over_waiting : IsOver forgotten (counts_in waiting) None → IsStreamFault scope window least known CountFull
  over_waiting over = full_by (elim over [
    | inl some ↦ inl (
      some.0,
      (
          let many = some.1 in
          let here = counted_as some.0 waiting (counts_in waiting) refl in
          let all = last.counted some.0 in
          let both = count_both some.0 (decided_in pieces) waiting in
          omega (arith, many, here, all, both)),
    )
    | inr many ↦ inr (
        let before : 2 ^ 64 ≤ forgotten.added + 0 = many in
        let earlier = last.added_before in
        omega (arith, before, earlier))
  ])

-- ---- a reading of some calls

abbrev calls_read : Result TextRead BadLine → ℕ
calls_read (Ok read) = length read.text.calls
calls_read (Err bad) = 0

some_line : (how : Reading) (held text : Text) (skipped after number next : ℕ) (front : List (List ℕ)) → read_from of_history how (read_by held skipped) number front ≡ Ok (read_by text after) → length held.calls < length text.calls → next ≡ number + length front → number < next
some_line how held text skipped after number next [] read less is =
    let same : length held.calls ≡ length text.calls = ap calls_read read in
    absurd (omega (arith, same, less))
some_line how held text skipped after number next (line ∷ lines) read less is =
    let more : length (line ∷ lines) ≡ length lines + 1 = omega arith in
    omega (arith, more, is)

-- takes a line, if it takes a call
pub more_read : (left rest : Option (List ℕ)) (old new : Progress) (held text : Text) → TakesPiece left old held rest new text → length held.calls < length text.calls → old.number < new.number
more_read left rest old new held text takes less =
    some_line old.reading held text old.skipped new.skipped old.number new.number takes.front takes.read less takes.number_is
