-- What a reading adds to what is held of a stream.
use Rattle.std.proofs.Common.{◌≡◌, ◌∙◌, ℕ, ◌<◌, ◌≤◌, ◌+◌, Bool, false, List, [], ◌∷◌, ◌++◌, length, map, take, slice_get, Option, Some, None, Ok, Err, IsSomeAnd, append_assoc, ap, ap₂, arith, inl, inr, refl, subst, sym}
use Rattle.std.proofs.lemmas.List.{length-append, length-map, map-append}
use Rattle.std.proofs.lemmas.List.Sums.{fold-append}
use Rattle.trace_file.specs.declared.call.Call.{Call}
use Rattle.certificate_checker.proofs.public_laws.Lookups.{some_and, take_next}
use Rattle.clock_skew.specs.Widening.{widened}
use Rattle.history_text.specs.declared.bad_line.BadLine.{BadLine}
use Rattle.history_text.specs.declared.line_cause.LineCause.TheVariants.{BeforeWindow}
use Rattle.history_text.specs.declared.read_text_fault.ReadTextFault.{ReadTextFault}
use Rattle.history_text.specs.declared.read_text_fault.ReadTextFault.TheVariants.{Bad, ReadFault, OutOfMemory, CountFull}
use Rattle.history_text.specs.Pieces.{GoesOn, IsFaultFrom, Progress, StopsAt, TakesPiece}
use Rattle.history_text.proofs.public_laws.Going.{first_then, goes_through, read_then}
use Rattle.history_text.specs.Text.{Text, calls_of, endless, no_text, read_by, read_from, text_by}
use Rattle.history_window.specs.Standing.{StartFrom}
use Rattle.history_window.specs.Streams.{IsKeptAfter, calls_in, first_start, last_end, later_end, lines_in, waiting_in}
use Rattle.judge_run.specs.declared.forgotten.Forgotten.{Forgotten}
use Rattle.judge_run.specs.declared.scope.Scope.{Scope}
use Rattle.judge_run.specs.Scopes.{text_scoped}
use Rattle.judge_run.specs.Streams.{IsBadLine, IsBefore, IsEarly, IsFirstOf, IsGoing, IsNoneBefore, IsReadSoFar, IsReadTo, IsStreamFault, IsTaken, piece_size}

-- ---- calls behind calls

-- one call more is appended
pub one_more : (position : ℕ) (first more before after : List Call) (call : Call) → slice_get more position ≡ Some call → before ≡ first ++ take position more → after ≡ before ++ call ∷ [] → after ≡ first ++ take (position + 1) more
one_more position first more before after call found so_far pushed =
    pushed ∙ ap (λ (cs : List Call). cs ++ call ∷ []) so_far ∙ append_assoc first (take position more) (call ∷ [])
    ∙ ap (λ (cs : List Call). first ++ cs) (sym (take_next more position call found))

-- ---- what is read in two steps

module _ (scope : Scope) (known left rest : Option (List ℕ)) (old new : Progress) (calls : List Call) (lines : List ℕ) (callers : List (List ℕ)) (piece : Text) (so_far : IsReadSoFar scope known left old calls lines callers) (takes : TakesPiece left old (text_by [] [] callers) rest new piece) where
  -- all calls so far, as they were spelled
  abbrev whole : Text
  whole = text_by (so_far.spelled.calls ++ takes.calls) (so_far.spelled.lines ++ takes.lines) piece.callers

  goes_next : GoesOn endless scope.reading left (read_by so_far.spelled old.skipped) old.number rest (read_by whole new.skipped) new.number
  goes_next =
      subst (λ how. GoesOn endless how left (read_by so_far.spelled old.skipped) old.number rest (read_by whole new.skipped) new.number) so_far.reading
      (subst (λ names. GoesOn endless old.reading left (read_by (text_by so_far.spelled.calls so_far.spelled.lines names) old.skipped) old.number rest (read_by whole new.skipped) new.number) so_far.callers_are
      (takes.spelled so_far.spelled.calls so_far.spelled.lines))

  good_next : read_from endless scope.reading (read_by so_far.spelled old.skipped) old.number takes.front ≡ Ok (read_by whole new.skipped)
  good_next =
      subst (λ how. read_from endless how (read_by so_far.spelled old.skipped) old.number takes.front ≡ Ok (read_by whole new.skipped)) so_far.reading
      (subst (λ names. read_from endless old.reading (read_by (text_by so_far.spelled.calls so_far.spelled.lines names) old.skipped) old.number takes.front ≡ Ok (read_by whole new.skipped)) so_far.callers_are
      (takes.good so_far.spelled.calls so_far.spelled.lines))

  next_number : new.number ≡ 1 + length (so_far.front ++ takes.front)
  next_number =
      let before = so_far.number_is in
      let more = takes.number_is in
      let both = length-append so_far.front takes.front in
      omega (arith, before, more, both)

  -- the calls of one reading more
  read_on : IsReadSoFar scope known rest new (calls ++ map (widened scope.skew) piece.calls) (lines ++ piece.lines) piece.callers
  read_on = record {
    spelled = whole;
    reading = takes.same ∙ so_far.reading;
    goes_on = goes_through endless scope.reading known left rest (read_by no_text 0) (read_by so_far.spelled old.skipped) (read_by whole new.skipped) 1 old.number new.number so_far.goes_on goes_next;
    calls_are = ap₂ (λ (a b : List Call). a ++ b) so_far.calls_are (ap (map (widened scope.skew)) takes.calls_are) ∙ sym (map-append (widened scope.skew) so_far.spelled.calls takes.calls);
    lines_are = ap₂ (λ (a b : List ℕ). a ++ b) so_far.lines_are takes.lines_are;
    callers_are = refl;
    front = so_far.front ++ takes.front;
    first = first_then known left rest so_far.front takes.front so_far.first takes.first;
    number_is = next_number;
    good = read_then endless scope.reading (read_by no_text 0) (read_by so_far.spelled old.skipped) (Ok (read_by whole new.skipped)) 1 old.number so_far.front takes.front so_far.number_is so_far.good good_next;
  }

-- ---- faults

bad_line : (scope : Scope) (window least : ℕ) (bytes : List ℕ) (left : Option (List ℕ)) (old : Progress) (calls : List Call) (lines : List ℕ) (callers : List (List ℕ)) (bad : BadLine) → IsReadSoFar scope (Some bytes) left old calls lines callers → IsFaultFrom left old (text_by [] [] callers) (Bad bad) → IsNoneBefore scope window least (Some bytes) bad.number → IsBadLine scope window least bytes bad
bad_line scope window least bytes None old calls lines callers bad so_far fault before = absurd so_far.goes_on
bad_line scope window least bytes (Some others) old calls lines callers bad so_far fault before =
    let there = subst (λ how. GoesOn endless how (Some bytes) (read_by no_text 0) 1 (Some others) (read_by so_far.spelled old.skipped) old.number) (sym so_far.reading) so_far.goes_on in
    let here = subst (λ names. GoesOn endless old.reading (Some bytes) (read_by no_text 0) 1 (Some others) (read_by (text_by so_far.spelled.calls so_far.spelled.lines names) old.skipped) old.number) (sym so_far.callers_are) there in
    record {
      spelled = λ apart. subst (λ how. calls_of how bytes ≡ Err bad) so_far.reading (here ∙ fault.spelled apart so_far.spelled.calls so_far.spelled.lines);
      many = λ is. record { calls = calls; lines = lines; callers = callers; left = Some others; progress = old; read = so_far; first = fault };
      before = before;
    }

pub before_fault : (scope : Scope) (window least : ℕ) (known : Option (List ℕ)) (line : ℕ) → IsBefore scope window least known line → IsStreamFault scope window least known (Bad (record { number = line; cause = BeforeWindow }))
before_fault scope window least None line is = tt
before_fault scope window least (Some bytes) line is = inr (refl, is)

-- ---- one reading more

module _ (scope : Scope) (left rest : Option (List ℕ)) (old new : Progress) (callers : List (List ℕ)) (piece judged : Text) (takes : TakesPiece left old (text_by [] [] callers) rest new piece) (judged_is : judged ≡ text_scoped scope piece) where
  -- each call of a reading has a line
  pub as_many : length judged.lines ≡ length judged.calls
  as_many =
      let alike : length piece.lines ≡ length piece.calls = ap length takes.lines_are ∙ takes.as_many ∙ sym (ap length takes.calls_are) in
      subst (λ (t : Text). length t.lines ≡ length t.calls) (sym judged_is) (alike ∙ sym (length-map piece.calls (widened scope.skew)))

-- as many calls are judged as were read, and so enough
pub enough_judged : (scope : Scope) (piece judged : Text) (before : List Call) (least most : ℕ) → judged ≡ text_scoped scope piece → before ≡ [] → length piece.calls ≡ length before + most → least ≤ most → least ≤ length judged.calls
enough_judged scope piece judged before least most judged_is none full le =
    let long : length judged.calls ≡ length piece.calls = ap (λ (t : Text). length t.calls) judged_is ∙ length-map piece.calls (widened scope.skew) in
    let zero_before = ap length none in
    omega (arith, long, zero_before, full, le)

-- a piece as it is judged has as many calls as were read
pub full_judged : (scope : Scope) (piece judged : Text) (before : List Call) (most size : ℕ) → judged ≡ text_scoped scope piece → before ≡ [] → length piece.calls ≡ length before + most → most ≡ size → length judged.calls ≡ size
full_judged scope piece judged before most size judged_is none full is =
    let long : length judged.calls ≡ length piece.calls = ap (λ (t : Text). length t.calls) judged_is ∙ length-map piece.calls (widened scope.skew) in
    let zero_before = ap length none in
    omega (arith, long, zero_before, full, is)

pub few_judged : (scope : Scope) (piece judged : Text) (before : List Call) (most size : ℕ) → judged ≡ text_scoped scope piece → before ≡ [] → length piece.calls ≤ length before + most → most ≡ size → length judged.calls ≤ size
few_judged scope piece judged before most size judged_is none few is =
    let long : length judged.calls ≡ length piece.calls = ap (λ (t : Text). length t.calls) judged_is ∙ length-map piece.calls (widened scope.skew) in
    let zero_before = ap length none in
    omega (arith, long, zero_before, few, is)

pub below : (a b : ℕ) → a < b → a ≤ b
below a b less = omega (arith, less)

module _ (scope : Scope) (window least : ℕ) (known left rest : Option (List ℕ)) (old new : Progress) (kept : Text) (waiting : List Call) (waiting_lines : List ℕ) (piece judged : Text) (bound latest : ℕ) (forgotten : Forgotten) (going : IsGoing scope window least known left old kept waiting waiting_lines bound latest forgotten) (takes : TakesPiece left old (text_by [] [] kept.callers) rest new piece) (judged_is : judged ≡ text_scoped scope piece) where
  read : IsReadSoFar scope known rest new (calls_in going.pieces ++ judged.calls) (lines_in going.pieces ++ judged.lines) judged.callers
  read = subst (λ (t : Text). IsReadSoFar scope known rest new (calls_in going.pieces ++ t.calls) (lines_in going.pieces ++ t.lines) t.callers) (sym judged_is)
      (read_on scope known left rest old new (calls_in going.pieces) (lines_in going.pieces) kept.callers piece going.read takes)

  -- the hits that wait, and after them the calls of the reading
  pub taken : (text : Text) (end : ℕ) (over : Bool) → (over ≡ false → least ≤ length judged.calls) → (over ≡ false → length judged.calls ≡ piece_size least kept.calls waiting) → StartFrom bound judged.calls → end ≡ last_end latest judged.calls → text ≡ text_by (waiting ++ judged.calls) (waiting_lines ++ judged.lines) judged.callers → IsTaken scope window least known rest new kept.calls kept.lines text end forgotten over
  taken text end over enough full from end_is text_is =
      let alike = as_many scope left rest old new kept.callers piece judged takes judged_is in
      let pieces = going.pieces in
      subst (λ (t : Text). IsTaken scope window least known rest new kept.calls kept.lines t end forgotten over) (sym text_is) (record {
        pieces = pieces;
        are = going.are;
        large = going.large;
        sized = going.sized;
        after = subst (λ (b : ℕ). IsKeptAfter (first_start b (waiting_in pieces)) pieces kept.calls kept.lines) going.bound_is
            (subst (λ (cs : List Call). IsKeptAfter (first_start bound cs) pieces kept.calls kept.lines) going.waiting_are going.after);
        calls = judged.calls;
        lines = judged.lines;
        late = subst (λ (b : ℕ). StartFrom b judged.calls) going.bound_is from;
        enough = enough;
        full = λ is. subst (λ (ws : List Call). length judged.calls ≡ piece_size least kept.calls ws) going.waiting_are (full is);
        latest_is = end_is ∙ ap (λ l. last_end l judged.calls) going.latest_is ∙ sym (fold-append later_end 0 (calls_in pieces) judged.calls);
        calls_are = ap (λ (cs : List Call). cs ++ judged.calls) going.waiting_are;
        lines_are = ap (λ (ls : List ℕ). ls ++ judged.lines) going.waiting_lines_are;
        as_many = going.as_many;
        asked_many = length-append waiting_lines judged.lines ∙ ap₂ (λ m n. m + n) going.waiting_many alike ∙ sym (length-append waiting judged.calls);
        read = read;
        counted = going.counted;
        added = going.added;
      })

  -- all lines up to the end of the reading
  pub read_to : length judged.calls ≤ piece_size least kept.calls waiting → IsReadTo scope window least known bound new.number judged
  read_to few = record {
    pieces = going.pieces;
    are = going.are;
    sized = going.sized;
    bound_is = going.bound_is;
    kept = kept.calls;
    kept_lines = kept.lines;
    after = subst (λ (ws : List Call). IsKeptAfter (first_start bound ws) going.pieces kept.calls kept.lines) going.waiting_are going.after;
    few = subst (λ (ws : List Call). length judged.calls ≤ piece_size least kept.calls ws) going.waiting_are few;
    left = rest;
    progress = new;
    read = read;
    number_is = refl;
  }

  -- the first call of the reading that starts too early
  pub before : (line : ℕ) → length judged.calls ≤ piece_size least kept.calls waiting → IsEarly bound judged line → IsBefore scope window least known line
  before line few early = record { bound = bound; number = new.number; text = judged; read = read_to few; early = early }

-- the first call that starts before a stamp, by its place
pub early_at : (judged : Text) (bound place line : ℕ) → IsSomeAnd (slice_get judged.calls place) (λ (call : Call). call.start < bound) → StartFrom bound (take place judged.calls) → slice_get judged.lines place ≡ Some line → IsEarly bound judged line
early_at judged bound place line at first line_is =
    let found = some_and (slice_get judged.calls place) (λ (call : Call). call.start < bound) at in
    record { place = place; call = found.0; at = found.1; line_is = line_is; before = found.2; first = first }

-- the first of a bad line and a call before it that starts too early
pub first_told : (scope : Scope) (window least : ℕ) (known left : Option (List ℕ)) (old : Progress) (kept : Text) (waiting : List Call) (waiting_lines : List ℕ) (piece : Text) (bound latest : ℕ) (forgotten : Forgotten) (bad : BadLine) (told : ReadTextFault) → IsGoing scope window least known left old kept waiting waiting_lines bound latest forgotten → IsFaultFrom left old (text_by [] [] kept.callers) (Bad bad) → StopsAt left old (text_by [] [] kept.callers) piece bad → length (text_scoped scope piece).calls ≤ piece_size least kept.calls waiting → IsFirstOf (text_scoped scope piece) bound bad told → IsStreamFault scope window least known told
first_told scope window least known left old kept waiting waiting_lines piece bound latest forgotten bad OutOfMemory going fault stop few is = tt
first_told scope window least known left old kept waiting waiting_lines piece bound latest forgotten bad ReadFault going fault stop few is = absurd is
first_told scope window least known left old kept waiting waiting_lines piece bound latest forgotten bad CountFull going fault stop few is = absurd is
first_told scope window least None left old kept waiting waiting_lines piece bound latest forgotten bad (Bad told) going fault stop few is = tt
first_told scope window least (Some bytes) left old kept waiting waiting_lines piece bound latest forgotten bad (Bad told) going fault stop few is =
    let to = read_to scope window least (Some bytes) left stop.rest old stop.at kept waiting waiting_lines piece (text_scoped scope piece) bound latest forgotten going stop.piece refl few in
    elim is [
      | inl itself ↦
          let none : IsNoneBefore scope window least (Some bytes) bad.number = record {
            bound = bound;
            text = text_scoped scope piece;
            read = subst (λ (n : ℕ). IsReadTo scope window least (Some bytes) bound n (text_scoped scope piece)) (sym stop.number_is) to;
            late = itself.1;
          } in
          inl (subst (λ (b : BadLine). IsBadLine scope window least bytes b) (sym itself.0) (bad_line scope window least bytes left old (calls_in going.pieces) (lines_in going.pieces) kept.callers bad going.read fault none))
      | inr early ↦ inr (early.0, before scope window least (Some bytes) left stop.rest old stop.at kept waiting waiting_lines piece (text_scoped scope piece) bound latest forgotten going stop.piece refl told.number few early.1)
    ]
