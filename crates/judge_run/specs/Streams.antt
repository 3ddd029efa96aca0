-- What is judged of a text that is read as a stream.
use Rattle.std.specs.Prelude.{◌≡◌, ◌≢◌, ◌↔◌, ◌⊎◌, ℕ, ◌+◌, ◌-◌, ◌^◌, max, min, ◌<◌, ◌≤◌, All, Bool, true, false, List, [], ◌∷◌, ◌++◌, IfSome, length, map, take, slice_get, Option, Some, None, Ok, Err, unwrap_or}
use Rattle.std.specs.Io.KnownBytes.{IsAtEnd}
use Rattle.trace_file.specs.declared.call.Call.{Call}
use Rattle.clock_skew.specs.Widening.{widened}
use Rattle.history_text.specs.declared.bad_line.BadLine.{BadLine}
use Rattle.history_text.specs.declared.line_cause.LineCause.TheVariants.{BeforeWindow, TooManyCalls}
use Rattle.history_text.specs.declared.read_text_fault.ReadTextFault.{ReadTextFault}
use Rattle.history_text.specs.declared.read_text_fault.ReadTextFault.TheVariants.{Bad, ReadFault, OutOfMemory, CountFull}
use Rattle.history_text.specs.Outcome.{IsFaultOf, Left}
use Rattle.history_text.specs.Pieces.{AreFirst, GoesOn, IsFaultFrom, Progress}
use Rattle.history_text.specs.Text.{Text, calls_of, endless, no_text, read_by, read_from, text_by}
use Rattle.history_window.specs.Standing.{Acceptable, StartFrom}
use Rattle.certificate_finder.specs.declared.found.Found.{Found}
use Rattle.certificate_finder.specs.declared.found.Found.TheVariants as verdicts
use Rattle.certificate_finder.specs.Finding.{AreUndecided, IfRejected, IsFound}
use Rattle.history_window.specs.Streams.{ArePieces, IsKeptAfter, IsLastOf, Piece, added_in, bound_after, calls_in, decided_in, first_start, judged_in, judged_lines, last_end, lines_in, puts_in, waiting_in, waiting_lines_in}
use Rattle.judge_run.specs.declared.extent.Extent.{Extent}
use Rattle.judge_run.specs.declared.forgotten.Forgotten.{Forgotten}
use Rattle.trace_file.specs.declared.call_kind.CallKind.{CallKind}
use Rattle.trace_file.specs.declared.call_kind.CallKind.TheVariants.{Put, Remove, Hit, Miss}
use Rattle.judge_run.specs.declared.fault_list.FaultList.{FaultList}
use Rattle.judge_run.specs.declared.kind_counts.KindCounts.{KindCounts}
use Rattle.judge_run.specs.declared.piece_rule.PieceRule.{PieceRule}
use Rattle.judge_run.specs.declared.scope.Scope.{Scope}
use Rattle.judge_run.specs.declared.stream.Stream.{Stream}
use Rattle.judge_run.specs.declared.stream_end.StreamEnd.{StreamEnd}
use Rattle.judge_run.specs.Listing.{IsListed}
use Rattle.judge_run.specs.Scopes.{IsCounted, IsJudged}
use Rattle.judge_run.specs.Kinds as kinds

-- these calls, widened by the skew of the stamps, stand on these lines in what was read so far: they are what the lines up to there say, none of which is bad. If the bytes are known, what is left of them gives, after it, what all bytes give
pub record IsReadSoFar (scope : Scope) (known left : Option (List ℕ)) (progress : Progress) (calls : List Call) (lines : List ℕ) (callers : List (List ℕ)) : Type 0 where
  pub spelled : Text
  pub reading : progress.reading ≡ scope.reading
  pub goes_on : GoesOn endless scope.reading known (read_by no_text 0) 1 left (read_by spelled progress.skipped) progress.number
  pub calls_are : calls ≡ map (widened scope.skew) spelled.calls
  pub lines_are : lines ≡ spelled.lines
  pub callers_are : callers ≡ spelled.callers
  pub front : List (List ℕ)
  pub first : AreFirst known front left
  pub number_is : progress.number ≡ 1 + length front
  pub good : read_from endless scope.reading (read_by no_text 0) 1 front ≡ Ok (read_by spelled progress.skipped)

-- how many calls of a kind were forgotten
abbrev pub forgotten_of : CallKind → Forgotten → ℕ
forgotten_of Put forgotten = forgotten.puts
forgotten_of Remove forgotten = forgotten.removals
forgotten_of Hit forgotten = forgotten.hits
forgotten_of Miss forgotten = forgotten.misses

-- of each kind, all calls are those of this list and those that were forgotten
abbrev pub AreCounted : Forgotten → List Call → List Call → Type 0
AreCounted forgotten all list = (kind : CallKind) → kinds.calls_of kind all ≡ kinds.calls_of kind list + forgotten_of kind forgotten

-- how many puts were added, if that was asked for
abbrev pub added_if : Bool → List Call → Option ℕ
added_if true puts = Some (length puts)
added_if false puts = None

-- each piece has so many calls, or more
abbrev pub AreLarge : ℕ → List Piece → Type 0
AreLarge least pieces = All (λ piece. least ≤ length piece.calls) pieces

-- how many calls a piece has: so many, or as many as are kept and wait if those are more, and at least one. A number that 64 bits can't hold stops at the last that they can
abbrev pub piece_size : ℕ → List Call → List Call → ℕ
piece_size least kept waiting = max (max least (min (length kept + length waiting) (2 ^ 64 - 1))) 1

-- each piece has exactly so many
abbrev pub AreSized : ℕ → List Piece → Type 0
AreSized least [] = Unit {0}
AreSized least (piece ∷ earlier) = AreSized least earlier × (length piece.calls ≡ piece_size least piece.kept (waiting_in earlier))

-- this is held of a stream between two readings: what is kept of all that was judged, and the hits that wait. The calls that are read next have to start at this stamp or later
pub record IsGoing (scope : Scope) (window least : ℕ) (known left : Option (List ℕ)) (progress : Progress) (kept : Text) (waiting : List Call) (waiting_lines : List ℕ) (bound latest : ℕ) (forgotten : Forgotten) : Type 0 where
  pub pieces : List Piece
  pub are : ArePieces window scope.warm pieces
  pub large : AreLarge least pieces
  pub sized : AreSized least pieces
  pub after : IsKeptAfter (first_start bound waiting) pieces kept.calls kept.lines
  pub waiting_are : waiting ≡ waiting_in pieces
  pub waiting_lines_are : waiting_lines ≡ waiting_lines_in pieces
  pub bound_is : bound ≡ bound_after window (calls_in pieces)
  pub latest_is : latest ≡ last_end 0 (calls_in pieces)
  pub as_many : length kept.lines ≡ length kept.calls
  pub waiting_many : length waiting_lines ≡ length waiting
  pub read : IsReadSoFar scope known left progress (calls_in pieces) (lines_in pieces) kept.callers
  pub counted : AreCounted forgotten (decided_in pieces) kept.calls
  pub added : forgotten.added ≡ puts_in pieces

-- a piece was read: what is kept is the same, and the piece's calls stand after the hits that wait. Fewer calls than wanted were read only if the input is over
pub record IsTaken (scope : Scope) (window least : ℕ) (known left : Option (List ℕ)) (progress : Progress) (kept : List Call) (kept_lines : List ℕ) (asked : Text) (latest : ℕ) (forgotten : Forgotten) (over : Bool) : Type 0 where
  pub pieces : List Piece
  pub are : ArePieces window scope.warm pieces
  pub large : AreLarge least pieces
  pub sized : AreSized least pieces
  pub after : IsKeptAfter (first_start (bound_after window (calls_in pieces)) (waiting_in pieces)) pieces kept kept_lines
  pub calls : List Call
  pub lines : List ℕ
  pub late : StartFrom (bound_after window (calls_in pieces)) calls
  pub enough : over ≡ false → least ≤ length calls
  pub full : over ≡ false → length calls ≡ piece_size least kept (waiting_in pieces)
  pub latest_is : latest ≡ last_end 0 (calls_in pieces ++ calls)
  pub calls_are : asked.calls ≡ waiting_in pieces ++ calls
  pub lines_are : asked.lines ≡ waiting_lines_in pieces ++ lines
  pub as_many : length kept_lines ≡ length kept
  pub asked_many : length asked.lines ≡ length asked.calls
  pub read : IsReadSoFar scope known left progress (calls_in pieces ++ calls) (lines_in pieces ++ lines) asked.callers
  pub counted : AreCounted forgotten (decided_in pieces) kept
  pub added : forgotten.added ≡ puts_in pieces

-- the first call of a text that starts before a stamp stands on this line
pub record IsEarly (bound : ℕ) (text : Text) (line : ℕ) : Type 0 where
  pub place : ℕ
  pub call : Call
  pub at : slice_get text.calls place ≡ Some call
  pub line_is : slice_get text.lines place ≡ Some line
  pub before : call.start < bound
  pub first : StartFrom bound (take place text.calls)

-- all lines before the one of this number are good. They have the calls of pieces, each as many as a piece has, which give this stamp, and after those the calls of this text, at most as many as the next piece has
pub record IsReadTo (scope : Scope) (window least : ℕ) (known : Option (List ℕ)) (bound number : ℕ) (text : Text) : Type 0 where
  pub pieces : List Piece
  pub are : ArePieces window scope.warm pieces
  pub sized : AreSized least pieces
  pub bound_is : bound ≡ bound_after window (calls_in pieces)
  pub kept : List Call
  pub kept_lines : List ℕ
  pub after : IsKeptAfter (first_start bound (waiting_in pieces)) pieces kept kept_lines
  pub few : length text.calls ≤ piece_size least kept (waiting_in pieces)
  pub left : Option (List ℕ)
  pub progress : Progress
  pub read : IsReadSoFar scope known left progress (calls_in pieces ++ text.calls) (lines_in pieces ++ text.lines) text.callers
  pub number_is : number ≡ progress.number

-- the call on this line is the first one that starts too early, and no line before it is bad
pub record IsBefore (scope : Scope) (window least : ℕ) (known : Option (List ℕ)) (line : ℕ) : Type 0 where
  pub bound : ℕ
  pub number : ℕ
  pub text : Text
  pub read : IsReadTo scope window least known bound number text
  pub early : IsEarly bound text line

-- no call on a line before this one starts too early
pub record IsNoneBefore (scope : Scope) (window least : ℕ) (known : Option (List ℕ)) (line : ℕ) : Type 0 where
  pub bound : ℕ
  pub text : Text
  pub read : IsReadTo scope window least known bound line text
  pub late : StartFrom bound text.calls

-- of the calls before a bad line the first that starts before a stamp is told, or if there is none, the bad line itself. Memory may be refused
abbrev pub IsFirstOf : Text → ℕ → BadLine → ReadTextFault → Type 0
IsFirstOf text bound bad (Bad told) = ((told ≡ bad) × StartFrom bound text.calls) ⊎ ((told.cause ≡ BeforeWindow) × IsEarly bound text told.number)
IsFirstOf text bound bad ReadFault = ⊥
IsFirstOf text bound bad CountFull = ⊥
IsFirstOf text bound bad OutOfMemory = Unit {0}

-- from the beginning of some reading on there are more calls than a history may have: the bad line is that of the first one too many
pub record AreTooMany (scope : Scope) (known : Option (List ℕ)) (bad : BadLine) : Type 0 where
  pub calls : List Call
  pub lines : List ℕ
  pub callers : List (List ℕ)
  pub left : Option (List ℕ)
  pub progress : Progress
  pub read : IsReadSoFar scope known left progress calls lines callers
  pub first : IsFaultFrom left progress (text_by [] [] callers) (Bad bad)

-- a line is the first bad one of these bytes, however many calls there are; or there are too many from some reading on. No call before it starts too early
pub record IsBadLine (scope : Scope) (window least : ℕ) (bytes : List ℕ) (bad : BadLine) : Type 0 where
  pub spelled : bad.cause ≢ TooManyCalls → calls_of scope.reading bytes ≡ Err bad
  pub many : bad.cause ≡ TooManyCalls → AreTooMany scope (Some bytes) bad
  pub before : IsNoneBefore scope window least (Some bytes) bad.number

-- the last piece was judged: what was kept before it, all calls that are decided with it, and the puts that were added. More may come or not. Every piece has so many calls or more, but for one at whose end the input is over
pub record IsJudgedLast (scope : Scope) (window least : ℕ) (unended : Bool) (known left : Option (List ℕ)) (progress : Progress) (judged : Text) (waiting : List Call) (waiting_lines : List ℕ) (latest : ℕ) (forgotten : Forgotten) (from_start : Option ℕ) : Type 0 where
  pub last : Piece
  pub earlier : List Piece
  pub are : IsLastOf window scope.warm unended last earlier
  pub large : AreLarge least earlier
  pub enough : unended ≡ true → least ≤ length last.calls
  pub sized : AreSized least earlier
  pub full : unended ≡ true → length last.calls ≡ piece_size least last.kept (waiting_in earlier)
  pub latest_is : latest ≡ last_end 0 (calls_in (last ∷ earlier))
  pub calls_are : judged.calls ≡ judged_in last
  pub lines_are : judged.lines ≡ judged_lines last
  pub waiting_are : waiting ≡ last.waiting
  pub waiting_lines_are : waiting_lines ≡ last.waiting_lines
  pub as_many : length judged.lines ≡ length judged.calls
  pub waiting_many : length waiting_lines ≡ length waiting
  pub read : IsReadSoFar scope known left progress (calls_in (last ∷ earlier)) (lines_in (last ∷ earlier)) judged.callers
  pub added : from_start ≡ added_if scope.warm last.puts
  pub counted : AreCounted forgotten (decided_in (last ∷ earlier)) (judged_in last)
  pub added_before : forgotten.added ≡ puts_in earlier

-- of some kind, 64 bits can't count the calls of all pieces and the hits that wait, with the puts that were added; or they can't count those puts
pub record IsCountFull (scope : Scope) (window least : ℕ) (known : Option (List ℕ)) : Type 0 where
  pub unended : Bool
  pub left : Option (List ℕ)
  pub progress : Progress
  pub judged : Text
  pub waiting : List Call
  pub waiting_lines : List ℕ
  pub latest : ℕ
  pub forgotten : Forgotten
  pub from_start : Option ℕ
  pub is : IsJudgedLast scope window least unended known left progress judged waiting waiting_lines latest forgotten from_start
  pub full : ((kind : CallKind) × (2 ^ 64 ≤ kinds.calls_of kind (decided_in (is.last ∷ is.earlier) ++ waiting))) ⊎ (2 ^ 64 ≤ puts_in (is.last ∷ is.earlier))

-- why a stream is not judged: its first bad line, or the first call that starts too early, whichever comes first; or too many calls; or the reader or memory refused something
abbrev pub IsStreamFault : Scope → ℕ → ℕ → Option (List ℕ) → ReadTextFault → Type 0
IsStreamFault scope window least known (Bad bad) =
    IfSome known (λ bytes. IsBadLine scope window least bytes bad ⊎ ((bad.cause ≡ BeforeWindow) × IsBefore scope window least known bad.number))
IsStreamFault scope window least known ReadFault = Unit {0}
IsStreamFault scope window least known OutOfMemory = Unit {0}
IsStreamFault scope window least known CountFull = IsCountFull scope window least known

-- the input is over: what was judged is acceptable exactly if all calls that were read are, with the puts that were added
pub record IsToldWhole (known left : Option (List ℕ)) (last : Piece) (earlier : List Piece) (told : Text) : Type 0 where
  pub stand : Acceptable told.calls ↔ Acceptable (calls_in (last ∷ earlier) ++ added_in (last ∷ earlier))
  pub ended : IfSome known (λ _. IsAtEnd left)

-- more may come, and what was judged is not accepted. If that was decided, the calls that were read are not acceptable, with the puts that were added, whatever comes later
pub record IsToldPast (window : ℕ) (accepted decided : Bool) (last : Piece) (earlier : List Piece) : Type 0 where
  pub unaccepted : accepted ≡ false
  pub excluded : decided ≡ true → (later : List Call) → StartFrom (bound_after window (calls_in (last ∷ earlier))) later → ¬ Acceptable ((calls_in (last ∷ earlier) ++ later) ++ added_in (last ∷ earlier))

-- what is told says so much of all calls
abbrev pub IsToldOf : Bool → ℕ → Bool → Bool → Option (List ℕ) → Option (List ℕ) → Piece → List Piece → Text → Type 0
IsToldOf true window accepted decided known left last earlier told = IsToldPast window accepted decided last earlier
IsToldOf false window accepted decided known left last earlier told = IsToldWhole known left last earlier told

-- for some hits of these calls it is not decided what they read, and for nothing else there is no certificate: no reason was found, and for some key no rule gives one
abbrev pub HasUndecided : List Call → Type 0
HasUndecided calls = (hits : List ℕ) × AreUndecided calls hits

-- the calls of a text that is read as a stream are told, those that were judged with the last piece, by whether they were accepted and whether that was decided. Nothing is left open unless their hits leave it open. Of each kind, all calls are those that are told and those that count as forgotten, with the hits that still wait
pub record IsStreamed (scope : Scope) (window least : ℕ) (known : Option (List ℕ)) (accepted decided : Bool) (told : Text) (extent : Extent) : Type 0 where
  pub unended : Bool
  pub left : Option (List ℕ)
  pub progress : Progress
  pub waiting : List Call
  pub waiting_lines : List ℕ
  pub latest : ℕ
  pub forgotten : Forgotten
  pub is : IsJudgedLast scope window least unended known left progress told waiting waiting_lines latest forgotten extent.from_start
  pub told_is : IsToldOf unended window accepted decided known left is.last is.earlier told
  pub gone : Forgotten
  pub gone_is : extent.forgotten ≡ Some gone
  pub undecided : decided ≡ false → HasUndecided told.calls
  pub counted : AreCounted gone (decided_in (is.last ∷ is.earlier) ++ waiting) told.calls
  pub added : gone.added ≡ puts_in is.earlier
  pub skipped : IsCounted scope.reading.skip_bad progress.skipped extent.skipped

-- whether a certificate was found
abbrev pub was_accepted : Found → Bool
was_accepted (verdicts.Accepted certificate) = true
was_accepted (verdicts.Rejected witness) = false
was_accepted (verdicts.Undecided hits) = false

-- whether it was decided that there is one
abbrev pub was_decided : Found → Bool
was_decided (verdicts.Accepted certificate) = true
was_decided (verdicts.Rejected witness) = true
was_decided (verdicts.Undecided hits) = false

-- what was found for calls is so, all their faults are listed if they are rejected, and each has its line
pub record IsVerdict (calls : List Call) (lines : List ℕ) (what : Found) (list : FaultList) : Type 0 where
  pub found : IsFound calls what
  pub faults : IfRejected what (λ _. IsListed calls list)
  pub as_many : length lines ≡ length calls

-- the calls of a stream that are judged with a piece, with their lines, and the callers so far
abbrev pub judged_of : {S H : Type 0} → Stream S H → Text
judged_of stream = text_by stream.text.history stream.text.lines.items stream.text.callers

-- this is held of a stream between two readings, and nothing of the next piece
pub record IsHeld {S H : Type 0} (rule : PieceRule) (known left : Option (List ℕ)) (progress : Progress) (stream : Stream S H) : Type 0 where
  pub going : IsGoing rule.scope rule.window rule.least known left progress (text_by stream.kept.history stream.kept.lines.items stream.text.callers) stream.waiting.history stream.waiting.lines.items stream.bound stream.latest stream.forgotten
  pub no_calls : stream.text.history ≡ []
  pub no_lines : stream.text.lines.items ≡ []

-- a piece was read, which stands after the hits that waited
abbrev pub IsPiece : {S H : Type 0} → PieceRule → Option (List ℕ) → Option (List ℕ) → Progress → Bool → Stream S H → Type 0
IsPiece rule known left progress over stream = IsTaken rule.scope rule.window rule.least known left progress stream.kept.history stream.kept.lines.items (judged_of stream) stream.latest stream.forgotten over

-- the calls that are judged with a piece, with so many puts that were added
abbrev pub IsPieceJudged : {S H : Type 0} → PieceRule → Bool → Option (List ℕ) → Option (List ℕ) → Progress → Option ℕ → Stream S H → Type 0
IsPieceJudged rule unended known left progress from_start stream = IsJudgedLast rule.scope rule.window rule.least unended known left progress (judged_of stream) stream.waiting.history stream.waiting.lines.items stream.latest stream.forgotten from_start

-- what comes of a piece: the stream goes on, or its end is told
abbrev pub IsPieceEnd : {S H : Type 0} → PieceRule → Option (List ℕ) → Option (List ℕ) → Progress → Option StreamEnd → Stream S H → Type 0
IsPieceEnd rule known left progress None stream = IsHeld rule known left progress stream
IsPieceEnd rule known left progress (Some told) stream = IsStreamed rule.scope rule.window rule.least known (was_accepted told.found) (was_decided told.found) (judged_of stream) told.extent

-- what is told of the calls with which a stream ends is so
abbrev pub IsEndOf : {S H : Type 0} → Stream S H → StreamEnd → Type 0
IsEndOf stream told = IsVerdict stream.text.history stream.text.lines.items told.found told.faults

-- more was forgotten: of each kind the calls that were counted before and are no longer there, and the puts that were added
pub record IsGrown (forgotten new : Forgotten) (before after : KindCounts) (from_start : Option ℕ) : Type 0 where
  pub puts : before.puts + forgotten.puts ≡ after.puts + new.puts
  pub removals : before.removals + forgotten.removals ≡ after.removals + new.removals
  pub hits : before.hits + forgotten.hits ≡ after.hits + new.hits
  pub misses : before.misses + forgotten.misses ≡ after.misses + new.misses
  pub added : new.added ≡ forgotten.added + unwrap_or from_start 0

-- of no kind there are more calls than of other ones
pub record AreFewer (calls others : KindCounts) : Type 0 where
  pub puts : calls.puts ≤ others.puts
  pub removals : calls.removals ≤ others.removals
  pub hits : calls.hits ≤ others.hits
  pub misses : calls.misses ≤ others.misses

-- how many calls of a kind there are, by these counts
abbrev pub count_of : CallKind → KindCounts → ℕ
count_of Put counts = counts.puts
count_of Remove counts = counts.removals
count_of Hit counts = counts.hits
count_of Miss counts = counts.misses

-- of some kind, 64 bits can't count these calls and those that were forgotten; or they can't count the puts that were added, with so many more
abbrev pub IsOver : Forgotten → KindCounts → Option ℕ → Type 0
IsOver forgotten counts from_start =
    ((kind : CallKind) × (2 ^ 64 ≤ count_of kind counts + forgotten_of kind forgotten)) ⊎ (2 ^ 64 ≤ forgotten.added + unwrap_or from_start 0)

-- the fewest calls of a piece of a text that is read as a stream, but for the last piece
abbrev pub least_piece : ℕ
least_piece = 65536

-- what is judged of a text in a scope: all of it, as it is read whole or as a stream with a window
abbrev pub IsJudgedBy : Option ℕ → Scope → Option (List ℕ) → Bool → Bool → Text → Extent → Type 0
IsJudgedBy None scope known accepted decided judged extent = IsJudged scope known judged extent
IsJudgedBy (Some window) scope known accepted decided judged extent = IsStreamed scope window least_piece known accepted decided judged extent

-- all was read; of a stream that is so if it was accepted
abbrev pub IsEndedBy : Option ℕ → Bool → Option (List ℕ) → Type 0
IsEndedBy None accepted left = IsAtEnd left
IsEndedBy (Some window) accepted left = accepted ≡ true → IsAtEnd left

-- why a text is not judged
abbrev pub IsFaultBy : Option ℕ → Scope → Option (List ℕ) → ReadTextFault → Type 0
IsFaultBy None scope known fault = IfSome known (λ bytes. IsFaultOf scope.reading bytes fault)
IsFaultBy (Some window) scope known fault = IsStreamFault scope window least_piece known fault

-- how far a reader was read then. Of a stream nothing is said of it
abbrev pub IsLeftBy : Option ℕ → Scope → Option (List ℕ) → Option (List ℕ) → ReadTextFault → Type 0
IsLeftBy None scope old new fault = fault ≢ OutOfMemory → Left scope.reading old new fault
IsLeftBy (Some window) scope old new fault = Unit {0}
