-- What a judge reads of a stream of calls, piece by piece, what it judges, and what it keeps.
use Rattle.std.specs.Prelude.{◌≡◌, ◌≢◌, ◌↔◌, ℕ, ◌+◌, ◌-◌, ◌≤◌, ◌==◌, max, min, Bool, true, false, List, [], ◌∷◌, ◌++◌, All, AllPairs, length, slice_get, if◌then◌else◌}
use Rattle.std.specs.List.{filter_map, fold}
use Rattle.record_pages.specs.Expiry.{never}
use Rattle.trace_file.specs.declared.call.Call.{Call}
use Rattle.certificate_checker.specs.Deeds.{Deed}
use Rattle.certificate_checker.specs.Latest.{IsWrite}
use Rattle.certificate_checker.specs.Orders.{in_order}
use Rattle.certificate_finder.specs.declared.warmed.Warmed.{Warmed}
use Rattle.certificate_finder.specs.Lists.{AreAllBelow}
use Rattle.certificate_finder.specs.Turns.{IsHit, end_at}
use Rattle.certificate_finder.specs.WarmLaws.{AreNew, IsAcceptedAfter}
use Rattle.certificate_finder.specs.Warming.{IsWarmed, warm_puts}
use Rattle.history_window.specs.Settled.{AreUnsettled}
use Rattle.history_window.specs.Standing.{Acceptable, StartFrom}
use Rattle.history_window.specs.Windows.{IsWindow}

-- the later of a stamp and the end of a call, if the call returned
abbrev pub later_end : ℕ → Call → ℕ
later_end latest call = if call.end == never then latest else max latest call.end

-- the last end of the calls that returned, or this stamp, if that is later
abbrev pub last_end : ℕ → List Call → ℕ
last_end latest calls = fold later_end latest calls

-- the stamp at which calls that come after these have to start, or later: it lies so much before their last end
abbrev pub bound_after : ℕ → List Call → ℕ
bound_after length_of calls = last_end 0 calls - length_of

-- the earlier of a stamp and the start of a call
abbrev pub earlier_start : ℕ → Call → ℕ
earlier_start first call = min first call.start

-- the first start of the calls, or this stamp, if that is earlier
abbrev pub first_start : ℕ → List Call → ℕ
first_start first calls = fold earlier_start first calls

-- the lines at these positions
abbrev pub lines_of : List ℕ → List ℕ → List ℕ
lines_of lines positions = filter_map (slice_get lines) positions

-- of calls and their lines these are kept at a stamp: the window, without settled hits
pub record IsKept (bound : ℕ) (calls : List Call) (lines : List ℕ) (kept : List Call) (kept_lines : List ℕ) : Type 0 where
  pub window : List ℕ
  pub left : List ℕ
  pub is_window : IsWindow bound calls window
  pub are_left : AreUnsettled bound (in_order calls window) left
  pub calls_are : kept ≡ in_order (in_order calls window) left
  pub lines_are : kept_lines ≡ lines_of (lines_of lines window) left

-- the call at a position is a hit that ended at a stamp or later
pub record IsRecent (bound : ℕ) (history : List Call) (hit : ℕ) : Type 0 where
  pub key : List ℕ
  pub value : List ℕ
  pub moment : ℕ
  pub is : IsHit history hit key value moment
  pub late : bound ≤ end_at history hit

-- the positions of all calls but for recent hits, in order: what the others read started before the stamp
abbrev pub ArePast : ℕ → List Call → List ℕ → Type 0
ArePast bound history kept = AreAllBelow (λ position. ¬ IsRecent bound history position) (length history) kept

-- the positions of all recent hits, in order
abbrev pub AreRecent : ℕ → List Call → List ℕ → Type 0
AreRecent bound history recent = AreAllBelow (IsRecent bound history) (length history) recent

-- a piece of a stream: the stamp at which all that is judged with it for the first time starts or later; what is kept of all that was judged before; its own calls, as they were read; of these and of the hits that waited, those that are decided with it; the puts that are added for values that were there from the start; and the hits that wait for the next piece; each with its lines
pub record Piece : Type 0 where
  pub bound : ℕ
  pub kept : List Call
  pub kept_lines : List ℕ
  pub calls : List Call
  pub lines : List ℕ
  pub decided : List Call
  pub decided_lines : List ℕ
  pub puts : List Call
  pub put_lines : List ℕ
  pub waiting : List Call
  pub waiting_lines : List ℕ

-- the calls that are judged with a piece, and their lines
abbrev pub judged_in : Piece → List Call
judged_in piece = piece.kept ++ (piece.decided ++ piece.puts)

abbrev pub judged_lines : Piece → List ℕ
judged_lines piece = piece.kept_lines ++ (piece.decided_lines ++ piece.put_lines)

-- the calls of pieces in the order in which they were read, the last piece first
abbrev pub calls_in : List Piece → List Call
calls_in [] = []
calls_in (piece ∷ earlier) = calls_in earlier ++ piece.calls

-- the lines of pieces
abbrev pub lines_in : List Piece → List ℕ
lines_in [] = []
lines_in (piece ∷ earlier) = lines_in earlier ++ piece.lines

-- all puts that were added with pieces
abbrev pub added_in : List Piece → List Call
added_in [] = []
added_in (piece ∷ earlier) = added_in earlier ++ piece.puts

-- how many these are
abbrev pub puts_in : List Piece → ℕ
puts_in [] = 0
puts_in (piece ∷ earlier) = puts_in earlier + length piece.puts

-- the calls that are decided, in the order in which they were, each piece with the puts that were added
abbrev pub decided_in : List Piece → List Call
decided_in [] = []
decided_in (piece ∷ earlier) = decided_in earlier ++ (piece.decided ++ piece.puts)

-- the hits that wait after pieces, and their lines
abbrev pub waiting_in : List Piece → List Call
waiting_in [] = []
waiting_in (piece ∷ earlier) = piece.waiting

abbrev pub waiting_lines_in : List Piece → List ℕ
waiting_lines_in [] = []
waiting_lines_in (piece ∷ earlier) = piece.waiting_lines

-- these puts, on these lines, are added to calls: those that warming adds, each on the line of the hit that reads it, if it is wanted
abbrev pub ArePuts : Bool → List Call → List ℕ → List Call → List ℕ → Type 0
ArePuts true calls lines puts put_lines =
    (warm : Warmed) × IsWarmed calls warm × (puts ≡ warm_puts calls warm.hits.items) × (put_lines ≡ lines_of lines warm.hits.items)
ArePuts false calls lines puts put_lines = (puts ≡ []) × (put_lines ≡ [])

-- of calls these are decided at a stamp, and these wait: recent hits wait, since what they read may be still to come; all others are decided
pub record IsParted (bound : ℕ) (calls : List Call) (lines : List ℕ) (decided : List Call) (decided_lines : List ℕ) (waiting : List Call) (waiting_lines : List ℕ) : Type 0 where
  pub past : List ℕ
  pub recent : List ℕ
  pub are_past : ArePast bound calls past
  pub are_recent : AreRecent bound calls recent
  pub decided_are : decided ≡ in_order calls past
  pub decided_lines_are : decided_lines ≡ lines_of lines past
  pub waiting_are : waiting ≡ in_order calls recent
  pub waiting_lines_are : waiting_lines ≡ lines_of lines recent

-- the same if more may come; at the end of the input all calls are decided
abbrev pub IsPartedIf : Bool → ℕ → List Call → List ℕ → List Call → List ℕ → List Call → List ℕ → Type 0
IsPartedIf true bound calls lines decided decided_lines waiting waiting_lines = IsParted bound calls lines decided decided_lines waiting waiting_lines
IsPartedIf false bound calls lines decided decided_lines waiting waiting_lines =
    (decided ≡ calls) × (decided_lines ≡ lines) × (waiting ≡ []) × (waiting_lines ≡ [])

-- this is kept after pieces: nothing of none; otherwise what was judged last is acceptable, and the window of it is kept, without settled hits
abbrev pub IsKeptAfter : ℕ → List Piece → List Call → List ℕ → Type 0
IsKeptAfter bound [] kept kept_lines = (kept ≡ []) × (kept_lines ≡ [])
IsKeptAfter bound (piece ∷ earlier) kept kept_lines = Acceptable (judged_in piece) × IsKept bound (judged_in piece) (judged_lines piece) kept kept_lines

-- a piece comes after others, and after it more may come or not: its calls start at the stamp that those before it give, or later. What is kept of those is kept at that stamp, or at the first start of a hit that waited. Puts are added for hits that are decided alone
pub record ComesAfter (length_of : ℕ) (warm unended : Bool) (earlier : List Piece) (piece : Piece) : Type 0 where
  pub bound_is : piece.bound ≡ first_start (bound_after length_of (calls_in earlier)) (waiting_in earlier)
  pub kept : IsKeptAfter piece.bound earlier piece.kept piece.kept_lines
  pub late : StartFrom (bound_after length_of (calls_in earlier)) piece.calls
  pub parted : IsPartedIf unended (bound_after length_of (calls_in (piece ∷ earlier))) (waiting_in earlier ++ piece.calls) (waiting_lines_in earlier ++ piece.lines) piece.decided piece.decided_lines piece.waiting piece.waiting_lines
  pub puts : ArePuts warm (piece.kept ++ piece.decided) (piece.kept_lines ++ piece.decided_lines) piece.puts piece.put_lines

-- these are pieces of a stream that is judged with a window so long, the last piece first, and more may come
abbrev pub ArePieces : ℕ → Bool → List Piece → Type 0
ArePieces length_of warm [] = Unit {0}
ArePieces length_of warm (piece ∷ earlier) = ArePieces length_of warm earlier × ComesAfter length_of warm true earlier piece

-- the last piece of a stream comes after others, and after it more may come or not
abbrev pub IsLastOf : ℕ → Bool → Bool → Piece → List Piece → Type 0
IsLastOf length_of warm unended last earlier = ArePieces length_of warm earlier × ComesAfter length_of warm unended earlier last

-- calls may come after a stamp: those that start at it or later; none at the end of the input
abbrev pub MayCome : Bool → ℕ → List Call → Type 0
MayCome true bound later = StartFrom bound later
MayCome false bound later = later ≡ []

-- at the end of the input, what is judged with the last piece is acceptable exactly if all calls that were read are, with the puts that were added
abbrev pub PiecesStand : Type 0
PiecesStand =
    (length_of : ℕ) (warm : Bool) (last : Piece) (earlier : List Piece)
    → IsLastOf length_of warm false last earlier
    → Acceptable (judged_in last) ↔ Acceptable (calls_in (last ∷ earlier) ++ added_in (last ∷ earlier))

-- if what is judged with the last piece is not acceptable, then all calls that were read are not, with the puts that were added, whatever comes later
abbrev pub PiecesExclude : Type 0
PiecesExclude =
    (length_of : ℕ) (warm unended : Bool) (last : Piece) (earlier : List Piece) (later : List Call)
    → IsLastOf length_of warm unended last earlier
    → ¬ Acceptable (judged_in last)
    → MayCome unended (bound_after length_of (calls_in (last ∷ earlier))) later
    → ¬ Acceptable ((calls_in (last ∷ earlier) ++ later) ++ added_in (last ∷ earlier))

-- if all calls that are read, with what comes later, are accepted after some deeds whose values none of their puts puts again, then what is judged with the last piece is acceptable, with the puts that warming added
abbrev pub PastsPass : Type 0
PastsPass =
    (length_of : ℕ) (unended : Bool) (last : Piece) (earlier : List Piece) (later : List Call) (past : List Deed) (certificate : List ℕ)
    → IsLastOf length_of true unended last earlier
    → MayCome unended (bound_after length_of (calls_in (last ∷ earlier))) later
    → AreNew past (calls_in (last ∷ earlier) ++ later)
    → IsAcceptedAfter past (calls_in (last ∷ earlier) ++ later) certificate
    → Acceptable (judged_in last)

-- these deeds write different keys, each once
abbrev pub AreOfOneEach : List Deed → Type 0
AreOfOneEach past = AllPairs (λ one other. one.key ≢ other.key) past × All (λ deed. IsWrite deed.act) past

-- at the end of the input, if what is judged with the last piece is acceptable, then all calls that were read are accepted after some deeds, one write of a key at most. No call may start at stamp 0: it could come before a put that was added
abbrev pub AcceptedHavePast : Type 0
AcceptedHavePast =
    (length_of : ℕ) (last : Piece) (earlier : List Piece)
    → IsLastOf length_of true false last earlier
    → StartFrom 1 (calls_in (last ∷ earlier))
    → Acceptable (judged_in last)
    → (past : List Deed) × (certificate : List ℕ) × AreOfOneEach past × IsAcceptedAfter past (calls_in (last ∷ earlier)) certificate
