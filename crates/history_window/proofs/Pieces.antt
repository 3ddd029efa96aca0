-- What is kept of the pieces of a stream stands for all that was decided.
use Rattle.std.proofs.Common.{◌≡◌, ℕ, ◌≤◌, ◌==◌, max, min, Bool, true, false, cond, List, [], ◌∷◌, ◌++◌, length, refl, sym, ap, ◌∙◌, subst, arith, inl, inr, append-nil}
use Rattle.std.specs.Prelude.{◌↔◌, All, slice_get}
use Rattle.std.proofs.lemmas.List.{length-append}
use Rattle.std.proofs.lemmas.List.Sums.{fold-append}
use Rattle.std.proofs.Math.Nat.{le-max_left}
use Rattle.record_pages.specs.Expiry.{never}
use Rattle.trace_file.specs.declared.call.Call.{Call}
use Rattle.certificate_checker.proofs.public_laws.Listing.{Member, all_member, member_all, member_at, member_either, member_picked}
use Rattle.history_window.specs.Laws.{ForgettingGoesOn, WarmingFollows}
use Rattle.history_window.specs.Standing.{Acceptable, MayFollow, StandFor, StartFrom}
use Rattle.history_window.specs.Streams.{ArePieces, ArePuts, ComesAfter, IsKept, IsKeptAfter, IsPartedIf, Piece, bound_after, calls_in, decided_in, first_start, judged_in, judged_lines, last_end, later_end, waiting_in, waiting_lines_in}
use Rattle.history_window.proofs.Growing.{stands_now}

-- ---- the last end only grows

one_later : (latest end : ℕ) (never_ends : Bool) → latest ≤ cond never_ends latest (max latest end)
one_later latest end true = omega arith
one_later latest end false = le-max_left latest end

ends_grow : (latest : ℕ) (calls : List Call) → latest ≤ last_end latest calls
ends_grow latest [] = omega arith
ends_grow latest (call ∷ calls) =
    let first = one_later latest call.end (call.end == never) in
    let rest = ends_grow (later_end latest call) calls in
    omega (arith, first, rest)

pub bound_grows : (length_of : ℕ) (first more : List Call) → bound_after length_of first ≤ bound_after length_of (first ++ more)
bound_grows length_of first more =
    let whole : last_end 0 (first ++ more) ≡ last_end (last_end 0 first) more = fold-append later_end 0 first more in
    let grows = ends_grow (last_end 0 first) more in
    omega (arith, whole, grows)

-- ---- the first start

pub first_low : (stamp : ℕ) (calls : List Call) → first_start stamp calls ≤ stamp
first_low stamp [] = omega arith
first_low stamp (call ∷ calls) = let rest = first_low (min stamp call.start) calls in omega (arith, rest)

pub first_each : (stamp : ℕ) (calls : List Call) (call : Call) → Member call calls → first_start stamp calls ≤ call.start
first_each stamp [] call m = absurd m
first_each stamp (c ∷ calls) call m = elim m [
  | inl same ↦
      let rest = first_low (min stamp c.start) calls in
      let start = ap (λ (d : Call). d.start) same in
      omega (arith, rest, start)
  | inr later ↦ first_each (min stamp c.start) calls call later
]

first_above : (bound stamp : ℕ) (calls : List Call) → bound ≤ stamp → ((call : Call) → Member call calls → bound ≤ call.start) → bound ≤ first_start stamp calls
first_above bound stamp [] le each = le
first_above bound stamp (call ∷ calls) le each =
    let here = each call (inl refl) in
    first_above bound (min stamp call.start) calls (omega (arith, le, here)) (λ c m. each c (inr m))

-- ---- what is decided and what waits was asked

pub decided_asked : (unended : Bool) (bound : ℕ) (calls : List Call) (lines : List ℕ) (decided : List Call) (decided_lines : List ℕ) (waiting : List Call) (waiting_lines : List ℕ) → IsPartedIf unended bound calls lines decided decided_lines waiting waiting_lines → (call : Call) → Member call decided → Member call calls
decided_asked true bound calls lines decided decided_lines waiting waiting_lines parted call m =
    let at = member_picked (slice_get calls) parted.past call (subst (Member call) parted.decided_are m) in
    member_at calls at.0 call at.2
decided_asked false bound calls lines decided decided_lines waiting waiting_lines parted call m = subst (Member call) parted.0 m

pub waiting_asked : (unended : Bool) (bound : ℕ) (calls : List Call) (lines : List ℕ) (decided : List Call) (decided_lines : List ℕ) (waiting : List Call) (waiting_lines : List ℕ) → IsPartedIf unended bound calls lines decided decided_lines waiting waiting_lines → (call : Call) → Member call waiting → Member call calls
waiting_asked true bound calls lines decided decided_lines waiting waiting_lines parted call m =
    let at = member_picked (slice_get calls) parted.recent call (subst (Member call) parted.waiting_are m) in
    member_at calls at.0 call at.2
waiting_asked false bound calls lines decided decided_lines waiting waiting_lines parted call m = absurd (subst (Member call) parted.2 m)

-- ---- what may follow

early_follow : (bound : ℕ) (kept calls : List Call) → StartFrom bound calls → All (MayFollow bound kept) calls
early_follow bound kept calls from = member_all (MayFollow bound kept) calls (λ call m. inl (all_member (λ (c : Call). bound ≤ c.start) calls call from m))

puts_follow : WarmingFollows → (bound : ℕ) (warm : Bool) (kept calls : List Call) (lines : List ℕ) (puts : List Call) (put_lines : List ℕ) → Acceptable kept → StartFrom bound calls → ArePuts warm (kept ++ calls) lines puts put_lines → All (MayFollow bound kept) (calls ++ puts)
puts_follow warming bound true kept calls lines puts put_lines past from are = subst (λ added. All (MayFollow bound kept) (calls ++ added)) (sym are.2) (warming bound kept calls are.0 past from are.1)
puts_follow warming bound false kept calls lines puts put_lines past from are = subst (λ added. All (MayFollow bound kept) (calls ++ added)) (sym are.0) (subst (All (MayFollow bound kept)) (sym (append-nil calls)) (early_follow bound kept calls from))

-- ---- what is kept

no_calls : Acceptable []
no_calls = (
  [],
  record {
    intervals = λ k d less. absurd (omega (arith, less));
    spelled = record {
      positions = λ k d less. absurd (omega (arith, less));
      each = λ p less. absurd (omega (arith, less));
      once = λ i j d less past. absurd (omega (arith, past));
    };
    agrees = λ i j d less past. absurd (omega (arith, past));
    lawful = λ before after deed value moment split is.
        let long = ap length split ∙ length-append before (deed ∷ after) in
        absurd (omega (arith, long));
  },
)

nothing_stands : (bound : ℕ) → StandFor bound [] []
nothing_stands bound = record {
  alike = λ later start. (λ x. x, λ x. x);
  unwritten = λ stamp key past none. none;
}

-- the stamp after pieces
abbrev pub stamp_after : ℕ → List Piece → ℕ
stamp_after length_of pieces = first_start (bound_after length_of (calls_in pieces)) (waiting_in pieces)

-- what is kept after pieces stands for all that was decided, which is acceptable
pub record IsReady (bound : ℕ) (kept : List Call) (pieces : List Piece) : Type 0 where
  pub stands : StandFor bound kept (decided_in pieces)
  pub past : Acceptable (decided_in pieces)

module _ (length_of : ℕ) (warm : Bool) where
  module _ (unended : Bool) (piece : Piece) (earlier : List Piece) (is : ComesAfter length_of warm unended earlier piece) where
    -- all that is asked starts at the stamp or later
    pub asked_from : (call : Call) → Member call (waiting_in earlier ++ piece.calls) → piece.bound ≤ call.start
    asked_from call m =
        let stamp = is.bound_is in
        elim (member_either (waiting_in earlier) piece.calls call m) [
          | inl waited ↦ let first = first_each (bound_after length_of (calls_in earlier)) (waiting_in earlier) call waited in omega (arith, stamp, first)
          | inr own ↦
              let from : bound_after length_of (calls_in earlier) ≤ call.start = all_member (λ (c : Call). bound_after length_of (calls_in earlier) ≤ c.start) piece.calls call is.late own in
              let low = first_low (bound_after length_of (calls_in earlier)) (waiting_in earlier) in
              omega (arith, stamp, from, low)
        ]

    pub decided_from : StartFrom piece.bound piece.decided
    decided_from = member_all (λ (c : Call). piece.bound ≤ c.start) piece.decided (λ c m. asked_from c (decided_asked unended (bound_after length_of (calls_in (piece ∷ earlier))) (waiting_in earlier ++ piece.calls) (waiting_lines_in earlier ++ piece.lines) piece.decided piece.decided_lines piece.waiting piece.waiting_lines is.parted c m))

    pub stamp_grows : piece.bound ≤ stamp_after length_of (piece ∷ earlier)
    stamp_grows =
        let stamp = is.bound_is in
        let low = first_low (bound_after length_of (calls_in earlier)) (waiting_in earlier) in
        let grows = bound_grows length_of (calls_in earlier) piece.calls in
        first_above piece.bound (bound_after length_of (calls_in (piece ∷ earlier))) piece.waiting (omega (arith, stamp, low, grows))
        (λ c m. asked_from c (waiting_asked unended (bound_after length_of (calls_in (piece ∷ earlier))) (waiting_in earlier ++ piece.calls) (waiting_lines_in earlier ++ piece.lines) piece.decided piece.decided_lines piece.waiting piece.waiting_lines is.parted c m))

    module _ (goes_on : ForgettingGoesOn) (warming : WarmingFollows) (ready : IsReady piece.bound piece.kept earlier) where
      pub follow : All (MayFollow piece.bound piece.kept) (piece.decided ++ piece.puts)
      follow = puts_follow warming piece.bound warm piece.kept piece.decided (piece.kept_lines ++ piece.decided_lines) piece.puts piece.put_lines (stands_now piece.bound piece.kept (decided_in earlier) ready.stands ready.past) decided_from is.puts

      pub judged_stands : Acceptable (judged_in piece) ↔ Acceptable (decided_in (piece ∷ earlier))
      judged_stands = ready.stands.alike (piece.decided ++ piece.puts) follow

      goes : (bound : ℕ) (kept : List Call) (lines : List ℕ) → piece.bound ≤ bound → Acceptable (judged_in piece) → IsKept bound (judged_in piece) (judged_lines piece) kept lines → IsReady bound kept (piece ∷ earlier)
      goes bound kept lines le a is_kept = record {
        stands = subst (λ calls. StandFor bound calls (decided_in (piece ∷ earlier))) (sym is_kept.calls_are)
            (goes_on piece.bound bound (decided_in earlier) piece.kept (piece.decided ++ piece.puts) is_kept.window is_kept.left ready.stands le follow a is_kept.is_window is_kept.are_left);
        past = judged_stands.0 a;
      }

  pub ready : ForgettingGoesOn → WarmingFollows → (pieces : List Piece) (bound : ℕ) (kept : List Call) (lines : List ℕ) → ArePieces length_of warm pieces → bound ≡ stamp_after length_of pieces → IsKeptAfter bound pieces kept lines → IsReady bound kept pieces
  ready goes_on warming [] bound kept lines are bound_is after = record { stands = subst (λ calls. StandFor bound calls []) (sym after.0) (nothing_stands bound); past = no_calls }
  ready goes_on warming (piece ∷ earlier) bound kept lines are bound_is after =
      let stamp = stamp_grows true piece earlier are.1 in
      goes true piece earlier are.1 goes_on warming (ready goes_on warming earlier piece.bound piece.kept piece.kept_lines are.0 are.1.bound_is are.1.kept) bound kept lines (omega (arith, stamp, bound_is)) after.0 after.1
