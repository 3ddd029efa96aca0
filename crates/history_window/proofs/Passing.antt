-- What is accepted after some past is accepted piece by piece, once it is warmed.
use Rattle.std.proofs.Common.{◌≡◌, ◌≢◌, ℕ, ◌+◌, ◌-◌, ◌<◌, ◌≤◌, Bool, true, false, Some, List, [], ◌∷◌, ◌++◌, length, nat_eq, Option, refl, sym, ap, ◌∙◌, subst, arith, inl, inr, ◌⊎◌, append-nil, append_assoc}
use Rattle.std.specs.Prelude.{All, filter, nat_lt, slice_get}
use Rattle.std.specs.Cmp.Lexicographic.{bytes_decides, pointwise}
use Rattle.std.specs.List.{cons_option, filter_map}
use Rattle.std.proofs.lemmas.Bool.{cases_Bool, cases_lt, cases_order, ltb-false, ltb-true}
use Rattle.std.proofs.lemmas.List.{length-append}
use Rattle.std.proofs.lemmas.List.Elements.{filter_map-append}
use Rattle.std.proofs.lemmas.Option.{same_Some, slice_get_within}
use Rattle.record_pages.specs.Expiry.{never}
use Rattle.trace_file.specs.Calls.{value_of}
use Rattle.trace_file.specs.declared.act.Act.{Act}
use Rattle.trace_file.specs.declared.act.Act.TheVariants.{Put, Remove, Hit, Miss}
use Rattle.trace_file.specs.declared.call.Call.{Call}
use Rattle.certificate_checker.specs.Deeds.{Deed, deed_of}
use Rattle.certificate_checker.specs.Latest.{Writes}
use Rattle.certificate_checker.specs.Orders.{Precedes, in_order}
use Rattle.certificate_checker.proofs.public_laws.Accepting.{found_at}
use Rattle.certificate_checker.proofs.public_laws.Listing.{Member, Pairs, all_member, filter_member, map_member, member_all, member_at, member_contained, member_either, member_filter, member_left, member_map, member_picked, member_right, pairs_append, pairs_at, pairs_from, picked_member, place_of}
use Rattle.certificate_finder.specs.WarmLaws.{AreNew, IsAcceptedAfter, KeysAreWarmedOnce}
use Rattle.certificate_finder.specs.Turns.{start_at}
use Rattle.certificate_finder.specs.Warming.{IsUnput, IsWarm, PutsAt, warm_put, warm_puts}
use Rattle.history_window.specs.Laws.{ForgettingGoesOn, WarmingFollows}
use Rattle.history_window.specs.Standing.{Acceptable, MayFollow, StartFrom}
use Rattle.history_window.specs.Streams.{ArePieces, ComesAfter, IsKeptAfter, IsLastOf, MayCome, PastsPass, Piece, added_in, bound_after, calls_in, decided_in, judged_in, waiting_in, waiting_lines_in}
use Rattle.history_window.proofs.CallLemmas.{put_writes, same_value}
use Rattle.history_window.proofs.Firsts.{IsFirstBelow, find_first}
use Rattle.history_window.proofs.Growing.{stands_now}
use Rattle.history_window.proofs.Judging.{decided_read, last_stands}
use Rattle.history_window.proofs.Keeping.{at_history, at_whole, in_later, look_right}
use Rattle.history_window.proofs.Lining.{ReadsIn}
use Rattle.history_window.proofs.Picking.{in_run, look_after, look_left, run, run_from}
use Rattle.history_window.proofs.Pieces.{IsReady, asked_from, bound_grows, decided_asked, ready}
use Rattle.history_window.proofs.Placing.{ArePlaced, AreParted, asked, asked_less, done_ways, in_done, none_placed, old_apart, parts, placed}
use Rattle.history_window.proofs.Reading.{Comes, IsTruly, begun, closed_acceptable, comes_of, joined, line, not_again, one_value, one_way, put_at, reads, unwritten}
use Rattle.history_window.proofs.Warming.{none_unput}

-- ---- keys

same_key_or_not : (one other : List ℕ) → (one ≡ other) ⊎ (one ≢ other)
same_key_or_not one other = elim (cases_Bool (pointwise nat_eq one other)) [
  | inl same ↦ inl ((bytes_decides one other).0 same)
  | inr apart ↦ inr (λ same. let yes_one = (bytes_decides one other).1 same in let both : true ≡ false = sym yes_one ∙ apart in cc)
]

-- a key has a put among these or it has none
has_put : (puts : List Call) (key : List ℕ) → ((put : Call) × Member put puts × (put.key ≡ key)) ⊎ ((put : Call) → Member put puts → put.key ≢ key)
has_put [] key = inr (λ put m. absurd m)
has_put (first ∷ puts) key = elim (same_key_or_not first.key key) [
  | inl same ↦ inl (first, inl refl, same)
  | inr apart ↦ elim (has_put puts key) [
    | inl found ↦ inl (found.0, inr found.1, found.2)
    | inr none ↦ inr (λ put m same. elim m [ inl here ↦ apart (ap (λ (c : Call). c.key) (sym here) ∙ same) | inr later ↦ none put later same ])
  ]
]

-- an act is a hit or it is none
hit_or_not : (act : Act) → ((value : List ℕ) × (moment : ℕ) × (act ≡ Hit value moment)) ⊎ ((value : List ℕ) (moment : ℕ) → ¬ (act ≡ Hit value moment))
hit_or_not (Put v e) = inr (λ value moment is. cc)
hit_or_not Remove = inr (λ value moment is. cc)
hit_or_not (Hit v m) = inl (v, m, refl)
hit_or_not Miss = inr (λ value moment is. cc)

-- ---- what is kept was decided

kept_decided : (length_of : ℕ) (warm : Bool) (pieces : List Piece) (bound : ℕ) (kept : List Call) (lines : List ℕ) → ArePieces length_of warm pieces → IsKeptAfter bound pieces kept lines → (call : Call) → Member call kept → Member call (decided_in pieces)
kept_decided length_of warm [] bound kept lines are after call m = absurd (subst (Member call) after.0 m)
kept_decided length_of warm (piece ∷ earlier) bound kept lines are after call m =
    let outer = member_picked (slice_get (in_order (judged_in piece) after.1.window)) after.1.left call (subst (Member call) after.1.calls_are m) in
    let inner = member_picked (slice_get (judged_in piece)) after.1.window call (member_at (in_order (judged_in piece) after.1.window) outer.0 call outer.2) in
    elim (member_either piece.kept (piece.decided ++ piece.puts) call (member_at (judged_in piece) inner.0 call inner.2)) [
      | inl old ↦ member_left (decided_in earlier) (piece.decided ++ piece.puts) call (kept_decided length_of warm earlier piece.bound piece.kept piece.kept_lines are.0 are.1.kept call old)
      | inr here ↦ member_right (decided_in earlier) (piece.decided ++ piece.puts) call here
    ]

-- ---- one piece

abbrev AreApart : List Call → Type 0
AreApart puts = Pairs (λ (one other : Call). one.key ≢ other.key) puts

module _ (past : List Deed) (all : List Call) (certificate : List ℕ) (new : AreNew past all) (a : IsAcceptedAfter past all certificate) (puts : List Call) where
  abbrev whole : List Call
  whole = all ++ puts

  abbrev Truly : Call → Type 0
  Truly = IsTruly past all certificate new a

  abbrev From : List ℕ → List ℕ → Type 0
  From = Comes past all certificate new a

  abbrev Reads : ℕ → Call → List ℕ → ℕ → Type 0
  Reads p call value moment = ReadsIn (joined past all certificate new a) (line past all certificate new a) p call.key value moment

  read_by : (p : ℕ) (call : Call) (value : List ℕ) (moment : ℕ) → slice_get all p ≡ Some call → call.act ≡ Hit value moment → Reads p call value moment
  read_by = reads past all certificate new a

  -- this is known after pieces: the puts that were added are those of values of the past, one of a key, and each hit that is decided and reads a value of the past has its put
  pub record IsPassed (unended : Bool) (bound : ℕ) (pieces : List Piece) (at : ArePlaced all puts unended bound pieces) : Type 0 where
    pub truly : (put : Call) → Member put (added_in pieces) → Truly put
    pub apart : AreApart (added_in pieces)
    pub covers : (p : ℕ) (call : Call) (value : List ℕ) (moment : ℕ) → Member p at.done → slice_get all p ≡ Some call → call.act ≡ Hit value moment → (r : Reads p call value moment) → length all ≤ r.put → (put : Call) × Member put (added_in pieces) × (put.key ≡ call.key)

  none_passed : (bound : ℕ) (at : ArePlaced all puts true bound []) → IsPassed true bound [] at
  none_passed bound at = record {
    truly = λ put m. absurd m;
    apart = tt;
    covers = λ p call value moment m there is r from. absurd (elim (at.done_only p m) [
      | inl less ↦ omega (arith, less)
      | inr both ↦ let low = both.0 in let less = slice_get_within all p call there in omega (arith, low, less)
    ]);
  }

  -- what is chosen is acceptable, if the reads of hits are decided
  module _ (unended : Bool) (bound : ℕ) (pieces : List Piece) (at : ArePlaced all puts unended bound pieces) (rest : List Call) (all_are : all ≡ calls_in pieces ++ rest) (may : MayCome unended bound rest) (later_puts : List Call) (puts_are : puts ≡ added_in pieces ++ later_puts) (passed : IsPassed unended bound pieces at) where
    abbrev count : ℕ
    count = length (added_in pieces)

    few : count ≤ length puts
    few = let long = ap length puts_are ∙ length-append (added_in pieces) later_puts in omega (arith, long)

    put_there : (j : ℕ) (put : Call) → j < count → slice_get puts j ≡ Some put → slice_get (added_in pieces) j ≡ Some put
    put_there j put less there = sym (look_left (added_in pieces) later_puts j less) ∙ sym (ap (λ (cs : List Call). slice_get cs j) puts_are) ∙ there

    there_put : (j : ℕ) (put : Call) → slice_get (added_in pieces) j ≡ Some put → slice_get puts j ≡ Some put
    there_put j put there = ap (λ (cs : List Call). slice_get cs j) puts_are ∙ look_left (added_in pieces) later_puts j (slice_get_within (added_in pieces) j put there) ∙ there

    truly_at : (j : ℕ) (put : Call) → j < count → slice_get puts j ≡ Some put → Truly put
    truly_at j put less there = passed.truly put (member_at (added_in pieces) j put (put_there j put less there))

    apart_at : (i j : ℕ) (one other : Call) → i < count → j < count → slice_get puts i ≡ Some one → slice_get puts j ≡ Some other → one.key ≡ other.key → i ≡ j
    apart_at i j one other less_i less_j at_i at_j same = elim (cases_order i j) [
      | inl equal ↦ equal
      | inr ways ↦ elim ways [
        | inl less ↦ absurd (pairs_at (λ (b c : Call). b.key ≢ c.key) (added_in pieces) i j one other less (put_there i one less_i at_i) (put_there j other less_j at_j) passed.apart same)
        | inr more ↦ absurd (pairs_at (λ (b c : Call). b.key ≢ c.key) (added_in pieces) j i other one more (put_there j other less_j at_j) (put_there i one less_i at_i) passed.apart (sym same))
      ]
    ]

    -- the positions of calls that are decided
    is_call : ℕ → Bool
    is_call p = nat_lt p (length all)

    call_less : (p : ℕ) → is_call p ≡ true → p < length all
    unfolding is_call
    call_less p is = ltb-true p (length all) is

    less_call : (p : ℕ) → p < length all → is_call p ≡ true
    unfolding is_call
    less_call p less = elim (cases_Bool (nat_lt p (length all))) [
      | inl yes_one ↦ yes_one
      | inr no_one ↦ let from = ltb-false p (length all) no_one in absurd (omega (arith, from, less))
    ]

    abbrev own : List ℕ
    own = filter is_call at.done

    at_place : (call : Call) → (put : Call) × Member put (added_in pieces) × (put.key ≡ call.key) → (j : ℕ) × (put : Call) × (j < count) × (slice_get puts j ≡ Some put) × (put.key ≡ call.key)
    at_place call put =
        let place = place_of (added_in pieces) put.0 put.1 in
        (place.0, put.0, place.1, there_put place.0 put.0 place.2, put.2)

    -- what a decided hit reads of the history is decided, and of the past it is put
    closed_one : (p : ℕ) (call : Call) (value : List ℕ) (moment : ℕ) → Member p at.done → slice_get all p ≡ Some call → call.act ≡ Hit value moment → (r : Reads p call value moment) → (r.put < length all → Member r.put own) × (length all ≤ r.put → (j : ℕ) × (put : Call) × (j < count) × (slice_get puts j ≡ Some put) × (put.key ≡ call.key))
    closed_one p call value moment m there is r = (
      λ less.
          let put = put_at past all certificate new a r.put r.call less r.at in
          filter_member is_call at.done r.put (decided_read all puts unended bound pieces at rest all_are may p r.put call r.call value moment m (slice_get_within all p call there) (at_whole all puts p call there) is less (at_whole all puts r.put r.call put) (put_writes r.call.act value r.expires r.is) (begun past all certificate new a p call call.key value moment there r less)) (less_call r.put less),
      λ from. at_place call (passed.covers p call value moment m there is r from),
    )

    own_below : (p : ℕ) → Member p own → p < length all
    own_below p m = call_less p (member_filter is_call at.done p m).1

    added_done : (p : ℕ) → Member p (run (length all) count) → Member p at.done
    added_done p m = let both = run_from (length all) count p m in at.puts p both.0 both.1

    done_either : (p : ℕ) → Member p at.done → Member p (run (length all) count) ⊎ Member p own
    done_either p m = elim (cases_lt p (length all)) [
      | inl less ↦ inr (filter_member is_call at.done p m (less_call p less))
      | inr from ↦ elim (at.done_only p m) [
        | inl early ↦ let long = ap length all_are ∙ length-append (calls_in pieces) rest in absurd (omega (arith, early, long, from))
        | inr both ↦ inl (in_run (length all) count p both.0 both.1)
      ]
    ]

    -- all that is decided is acceptable
    pub done_acceptable : Acceptable (decided_in pieces)
    done_acceptable = subst Acceptable at.done_are
        (closed_acceptable past all certificate new a puts count few truly_at apart_at own own_below
        (λ p call value moment m there is r. closed_one p call value moment (member_filter is_call at.done p m).0 there is r)
        at.done at.done_once done_either added_done (λ p m. (member_filter is_call at.done p m).0))

    -- and with a hit more, if what that reads is decided, or put
    module _ (p : ℕ) (call : Call) (there : slice_get all p ≡ Some call) (apart_p : ¬ Member p at.done) (decided : (value : List ℕ) (moment : ℕ) → call.act ≡ Hit value moment → (r : Reads p call value moment) → r.put < length all → Member r.put at.done) (covered : (value : List ℕ) (moment : ℕ) → call.act ≡ Hit value moment → (r : Reads p call value moment) → length all ≤ r.put → (put : Call) × Member put (added_in pieces) × (put.key ≡ call.key)) where
      abbrev one_more : List ℕ
      one_more = own ++ p ∷ []

      one_below : (q : ℕ) → Member q one_more → q < length all
      one_below q m = elim (member_either own (p ∷ []) q m) [
        | inl here ↦ own_below q here
        | inr last ↦ elim last [ inl same ↦ let less = slice_get_within all p call there in omega (arith, same, less) | inr none ↦ absurd none ]
      ]

      abbrev Closed : ℕ → Call → Type 0
      Closed q other = (value : List ℕ) (moment : ℕ) → other.act ≡ Hit value moment → (r : Reads q other value moment) → (r.put < length all → Member r.put one_more) × (length all ≤ r.put → (j : ℕ) × (put : Call) × (j < count) × (slice_get puts j ≡ Some put) × (put.key ≡ other.key))

      last_closed : Closed p call
      last_closed value moment is r = (
        λ less. member_left own (p ∷ []) r.put (filter_member is_call at.done r.put (decided value moment is r less) (less_call r.put less)),
        λ from. at_place call (covered value moment is r from),
      )

      last_at : (q : ℕ) (other : Call) → q ≡ p → slice_get all q ≡ Some other → Closed q other
      last_at q other same at_q =
          let calls = same_Some call other (sym there ∙ ap (slice_get all) (sym same) ∙ at_q) in
          subst (λ (x : ℕ). Closed x other) (sym same) (subst (λ (c : Call). Closed p c) calls last_closed)

      more_closed : (q : ℕ) (other : Call) (value : List ℕ) (moment : ℕ) → Member q one_more → slice_get all q ≡ Some other → other.act ≡ Hit value moment → (r : Reads q other value moment) → (r.put < length all → Member r.put one_more) × (length all ≤ r.put → (j : ℕ) × (put : Call) × (j < count) × (slice_get puts j ≡ Some put) × (put.key ≡ other.key))
      more_closed q other value moment mq at_q hits r = elim (member_either own (p ∷ []) q mq) [
        | inl here ↦
            let both = closed_one q other value moment (member_filter is_call at.done q here).0 at_q hits r in
            (λ less. member_left own (p ∷ []) r.put (both.0 less), both.1)
        | inr last ↦ elim last [
          | inl same ↦ last_at q other same at_q value moment hits r
          | inr none ↦ absurd none
        ]
      ]

      -- positions of what was decided, and of that hit
      abbrev places : List ℕ
      places = at.done ++ p ∷ []

      picked : in_order whole places ≡ decided_in pieces ++ call ∷ []
      picked = filter_map-append (slice_get whole) at.done (p ∷ []) ∙ ap (λ (cs : List Call). cs ++ in_order whole (p ∷ [])) at.done_are ∙ ap (λ (o : Option Call). decided_in pieces ++ cons_option o []) (at_whole all puts p call there)

      pub more_acceptable : Acceptable (decided_in pieces ++ call ∷ [])
      more_acceptable =
          subst Acceptable picked
          (closed_acceptable past all certificate new a puts count few truly_at apart_at one_more one_below more_closed places
          (pairs_append (λ (q s : ℕ). q ≢ s) at.done (p ∷ []) at.done_once (λ s n. absurd n, tt) (λ q s mq ms same. elim ms [
            | inl last ↦ apart_p (subst (λ x. Member x at.done) (same ∙ last) mq)
            | inr none ↦ none
          ]))
          (λ q mq. elim (member_either at.done (p ∷ []) q mq) [
            | inl here ↦ elim (done_either q here) [ inl put ↦ inl put | inr mine ↦ inr (member_left own (p ∷ []) q mine) ]
            | inr last ↦ inr (member_right own (p ∷ []) q last)
          ])
          (λ q put. member_left at.done (p ∷ []) q (added_done q put))
          (λ q mq. elim (member_either own (p ∷ []) q mq) [
            | inl here ↦ member_left at.done (p ∷ []) q (member_filter is_call at.done q here).0
            | inr last ↦ member_right at.done (p ∷ []) q last
          ]))

  -- ---- one piece more

  module _ (goes_on : ForgettingGoesOn) (warming : WarmingFollows) (once : KeysAreWarmedOnce) (length_of : ℕ) (unended : Bool) (piece : Piece) (earlier : List Piece) (are : ArePieces length_of true earlier) (is : ComesAfter length_of true unended earlier piece) (rest : List Call) (all_are : all ≡ calls_in (piece ∷ earlier) ++ rest) (may : MayCome unended (bound_after length_of (calls_in (piece ∷ earlier))) rest) (early_may : StartFrom (bound_after length_of (calls_in earlier)) (piece.calls ++ rest)) (later_puts : List Call) (puts_are : puts ≡ added_in (piece ∷ earlier) ++ later_puts) (old : ArePlaced all puts true (bound_after length_of (calls_in earlier)) earlier) (passed : IsPassed true (bound_after length_of (calls_in earlier)) earlier old) where
    abbrev early_are : all ≡ calls_in earlier ++ (piece.calls ++ rest)
    early_are = all_are ∙ append_assoc (calls_in earlier) piece.calls rest

    abbrev early_puts : puts ≡ added_in earlier ++ (piece.puts ++ later_puts)
    early_puts = puts_are ∙ append_assoc (added_in earlier) piece.puts later_puts

    abbrev old_bound : ℕ
    old_bound = bound_after length_of (calls_in earlier)

    abbrev bound : ℕ
    bound = bound_after length_of (calls_in (piece ∷ earlier))

    abbrev le : old_bound ≤ bound
    le = bound_grows length_of (calls_in earlier) piece.calls

    abbrev own_asked : List ℕ
    own_asked = asked all puts length_of true unended piece earlier is old_bound old le rest all_are later_puts puts_are

    abbrev own_parts : AreParted whole unended bound own_asked piece.decided piece.waiting
    own_parts = parts all puts length_of true unended piece earlier is old_bound old le rest all_are later_puts puts_are

    abbrev now : ArePlaced all puts unended bound (piece ∷ earlier)
    now = placed all puts length_of true unended piece earlier is old_bound old le rest all_are later_puts puts_are

    stands : IsReady piece.bound piece.kept earlier
    stands = ready length_of true goes_on warming earlier piece.bound piece.kept piece.kept_lines are is.bound_is is.kept

    abbrev judged : List Call
    judged = piece.kept ++ piece.decided

    -- a hit that reads what none of the judged calls put
    abbrev IsBare : Call → Type 0
    IsBare call = (value : List ℕ) (moment : ℕ) → call.act ≡ Hit value moment → All (λ other. ¬ PutsAt call.key value other) judged

    kept_accepted : Acceptable piece.kept
    kept_accepted = stands_now piece.bound piece.kept (decided_in earlier) stands.stands stands.past

    decided_place : (call : Call) → Member call piece.decided → (p : ℕ) × Member p own_parts.done × (slice_get whole p ≡ Some call)
    decided_place call m = member_picked (slice_get whole) own_parts.done call (subst (Member call) (sym own_parts.done_are) m)

    -- a decided call of the piece, and its position
    module _ (p : ℕ) (call : Call) (own_place : Member p own_parts.done) (at_p : slice_get whole p ≡ Some call) where
      decided_call : Member call piece.decided
      decided_call = subst (Member call) own_parts.done_are (picked_member (slice_get whole) own_parts.done p call own_place at_p)

      less_p : p < length all
      less_p =
          let less = asked_less all puts length_of true unended piece earlier is old_bound old le rest all_are later_puts puts_are p (own_parts.done_asked p own_place) in
          let long = ap length all_are ∙ length-append (calls_in (piece ∷ earlier)) rest in
          omega (arith, less, long)

      there : slice_get all p ≡ Some call
      there = at_history all puts p call less_p at_p

      done_now : Member p now.done
      done_now = in_done all puts length_of true unended piece earlier is old_bound old le rest all_are later_puts puts_are p own_place

      not_old : ¬ Member p old.done
      not_old n = old_apart all puts length_of true unended piece earlier is old_bound old le rest all_are later_puts puts_are p p n (own_parts.done_asked p own_place) refl

      starts : piece.bound ≤ call.start
      starts = asked_from length_of true unended piece earlier is call (decided_asked unended bound (waiting_in earlier ++ piece.calls) (waiting_lines_in earlier ++ piece.lines) piece.decided piece.decided_lines piece.waiting piece.waiting_lines is.parted call decided_call)

      -- a bare hit can't stand after what was decided before
      none_more : IsBare call → (value : List ℕ) (moment : ℕ) → call.act ≡ Hit value moment → ¬ Acceptable (decided_in earlier ++ call ∷ [])
      none_more bare value moment hits whole_past =
          let kept_past = (stands.stands.alike (call ∷ []) (member_all (MayFollow piece.bound piece.kept) (call ∷ []) (λ c mc. elim mc [
            | inl same ↦ inl (subst (λ (d : Call). piece.bound ≤ d.start) (sym same) starts)
            | inr none ↦ absurd none
          ]))).1 whole_past in
          let list = piece.kept ++ call ∷ [] in
          let zero_sum : length piece.kept + 0 ≡ length piece.kept = omega arith in
          let here : slice_get list (length piece.kept) ≡ Some call = sym (ap (slice_get list) zero_sum) ∙ look_after piece.kept (call ∷ []) 0 call refl in
          let less = slice_get_within list (length piece.kept) call here in
          none_unput list [] (length piece.kept) kept_past less (record {
            call = call;
            value = value;
            moment = moment;
            at = at_whole list [] (length piece.kept) call here;
            is = hits;
            unput = member_all (λ other. ¬ PutsAt call.key value other) (list ++ []) (λ other mo puts_it. elim (member_either piece.kept (call ∷ []) other (subst (Member other) (append-nil list) mo)) [
              | inl kept ↦ all_member (λ o. ¬ PutsAt call.key value o) judged other (bare value moment hits) (member_left piece.kept piece.decided other kept) puts_it
              | inr last ↦ elim last [
                | inl same ↦
                    let acts : Put value puts_it.expires ≡ Hit value moment = sym puts_it.is ∙ ap (λ (c : Call). c.act) same ∙ hits in
                    cc
                | inr none ↦ none
              ]
            ]);
          })

      -- what it reads of the history was decided before, if it is bare
      read_before : IsBare call → (value : List ℕ) (moment : ℕ) → call.act ≡ Hit value moment → (r : Reads p call value moment) → r.put < length all → Member r.put old.done
      read_before bare value moment hits r less =
          let put = put_at past all certificate new a r.put r.call less r.at in
          let decided = decided_read all puts unended bound (piece ∷ earlier) now rest all_are may p r.put call r.call value moment done_now less_p at_p hits less (at_whole all puts r.put r.call put) (put_writes r.call.act value r.expires r.is) (begun past all certificate new a p call call.key value moment there r less) in
          elim (done_ways all puts length_of true unended piece earlier is old_bound old le rest all_are later_puts puts_are r.put decided) [
            | inl before ↦ before
            | inr ways ↦ elim ways [
              | inl own_put ↦
                  let listed_put = subst (Member r.call) own_parts.done_are (picked_member (slice_get whole) own_parts.done r.put r.call own_put (at_whole all puts r.put r.call put)) in
                  absurd (all_member (λ o. ¬ PutsAt call.key value o) judged r.call (bare value moment hits) (member_right piece.kept piece.decided r.call listed_put) (record { one_key = r.one_key; expires = r.expires; is = r.is }))
              | inr from ↦ absurd (omega (arith, from, less))
            ]
          ]

      -- so it reads a value of the past
      bare_past : IsBare call → (value : List ℕ) (moment : ℕ) → call.act ≡ Hit value moment → (r : Reads p call value moment) → length all ≤ r.put
      bare_past bare value moment hits r = elim (cases_lt r.put (length all)) [
        | inl less ↦ absurd (none_more bare value moment hits
            (more_acceptable true old_bound earlier old (piece.calls ++ rest) early_are early_may (piece.puts ++ later_puts) early_puts passed p call there not_old
            (λ w k act s. read_before bare w k act s)
            (λ w k act s from. absurd (one_way past all certificate new a p call.key value w moment k r s less from))))
        | inr from ↦ from
      ]

      -- of a key of which no put was added before
      bare_first : IsBare call → (value : List ℕ) (moment : ℕ) → call.act ≡ Hit value moment → (put : Call) → Member put (added_in earlier) → put.key ≢ call.key
      bare_first bare value moment hits put mp same =
          none_more bare value moment hits
          (more_acceptable true old_bound earlier old (piece.calls ++ rest) early_are early_may (piece.puts ++ later_puts) early_puts passed p call there not_old
          (λ w k act s. read_before bare w k act s)
          (λ w k act s from. (put, mp, same)))

      comes_here : (value : List ℕ) (moment : ℕ) → (r : Reads p call value moment) → length all ≤ r.put → From call.key value
      comes_here value moment r from = comes_of past all certificate new a p call.key value moment less_p r from

    -- what was decided is of the history, or a put that was added
    added_call : (q : ℕ) (call : Call) → (q < length (calls_in earlier)) ⊎ ((length all ≤ q) × (q < length all + length (added_in earlier))) → length all ≤ q → slice_get whole q ≡ Some call → Member call (added_in earlier)
    added_call q call only from at = elim only [
      | inl early ↦ let long = ap length early_are ∙ length-append (calls_in earlier) (piece.calls ++ rest) in absurd (omega (arith, early, long, from))
      | inr both ↦
          let high = both.1 in
          let less : q - length all < length (added_in earlier) = omega (arith, high, from) in
          member_at (added_in earlier) (q - length all) call (sym (look_left (added_in earlier) (piece.puts ++ later_puts) (q - length all) less) ∙ sym (ap (λ (cs : List Call). slice_get cs (q - length all)) early_puts) ∙ sym (look_right all puts q (q - length all) (omega (arith, from))) ∙ at)
    ]

    old_call : (call : Call) → Member call (decided_in earlier) → Member call all ⊎ Member call (added_in earlier)
    old_call call m =
        let at = member_picked (slice_get whole) old.done call (subst (Member call) (sym old.done_are) m) in
        elim (cases_lt at.0 (length all)) [
          | inl less ↦ inl (member_at all at.0 call (at_history all puts at.0 call less at.2))
          | inr from ↦ inr (added_call at.0 call (old.done_only at.0 at.1) from at.2)
        ]

    kept_call : (call : Call) → Member call piece.kept → Member call all ⊎ Member call (added_in earlier)
    kept_call call m = old_call call (kept_decided length_of true earlier piece.bound piece.kept piece.kept_lines are is.kept call m)

    -- ---- the puts of the piece

    hit_decided : (i : ℕ) (unput : IsUnput judged i) → Member unput.call piece.decided
    hit_decided i unput = elim (cases_lt i (length piece.kept)) [
      | inl less ↦ absurd (none_unput piece.kept piece.decided i kept_accepted less unput)
      | inr enough ↦ in_later piece.kept piece.decided i unput.call enough unput.at
    ]

    bare_of : (i : ℕ) (unput : IsUnput judged i) → IsBare unput.call
    bare_of i unput value moment hits =
        let same = same_value unput.call.act unput.value value unput.moment moment unput.is hits in
        subst (λ v. All (λ other. ¬ PutsAt unput.call.key v other) judged) same unput.unput

    -- a bare hit that was decided here, and reads a value of the past
    record IsSource (put : Call) : Type 0 where
      call : Call
      p : ℕ
      own_place : Member p own_parts.done
      at_p : slice_get whole p ≡ Some call
      bare : IsBare call
      value : List ℕ
      moment : ℕ
      hits : call.act ≡ Hit value moment
      made : put ≡ warm_put call

    source_of : (put : Call) → Member put piece.puts → IsSource put
    source_of put m =
        let source = member_map warm_put (filter_map (slice_get judged) is.puts.0.hits.items) put (subst (Member put) is.puts.2 m) in
        let at = member_picked (slice_get judged) is.puts.0.hits.items source.0 source.1 in
        let warm = all_member (IsWarm judged) is.puts.0.hits.items at.0 is.puts.1.hits.each at.1 in
        let same = same_Some warm.unput.call source.0 (sym warm.unput.at ∙ at.2) in
        let place = decided_place warm.unput.call (hit_decided at.0 warm.unput) in
        record {
          call = warm.unput.call;
          p = place.0;
          own_place = place.1;
          at_p = place.2;
          bare = bare_of at.0 warm.unput;
          value = warm.unput.value;
          moment = warm.unput.moment;
          hits = warm.unput.is;
          made = source.2 ∙ ap warm_put (sym same);
        }

    truly_here : (put : Call) → Member put piece.puts → Truly put
    truly_here put m =
        let s = source_of put m in
        let r = read_by s.p s.call s.value s.moment (there s.p s.call s.own_place s.at_p) s.hits in
        let from = bare_past s.p s.call s.own_place s.at_p s.bare s.value s.moment s.hits r in
        record {
          value = s.value;
          comes = subst (λ k. From k s.value) (sym (ap (λ (c : Call). c.key) s.made)) (comes_here s.p s.call s.own_place s.at_p s.value s.moment r from);
          is = ap (λ (c : Call). c.act) s.made ∙ ap (λ act. Put (value_of act) never) s.hits;
          start = ap (λ (c : Call). c.start) s.made;
        }

    apart_now : AreApart (added_in (piece ∷ earlier))
    apart_now =
        let own_apart : AreApart piece.puts = subst AreApart (sym is.puts.2) (pairs_from (λ (one other : Call). one.key ≢ other.key) (warm_puts judged is.puts.0.hits.items) (once judged is.puts.0 is.puts.1).0) in
        pairs_append (λ (one other : Call). one.key ≢ other.key) (added_in earlier) piece.puts passed.apart own_apart (λ one other m n same.
        let s = source_of other n in
        bare_first s.p s.call s.own_place s.at_p s.bare s.value s.moment s.hits one m (same ∙ ap (λ (c : Call). c.key) s.made))

    -- ---- each value of the past that a decided hit reads is put

    module _ (key : List ℕ) (value : List ℕ) (comes : From key value) (none : (put : Call) → Member put (added_in earlier) → put.key ≢ key) where
      -- a call of the history does not put it
      no_put : (call : Call) → Member call all → ¬ PutsAt key value call
      no_put call m = all_member (λ o. ¬ PutsAt key value o) all call (not_again past all certificate new a key value comes) m

      decided_all : (call : Call) → Member call piece.decided → (q : ℕ) × (slice_get all q ≡ Some call)
      decided_all call m = let place = decided_place call m in (place.0, there place.0 call place.1 place.2)

      all_bare : All (λ other. ¬ PutsAt key value other) judged
      all_bare = member_all (λ other. ¬ PutsAt key value other) judged (λ other m puts_it. elim (member_either piece.kept piece.decided other m) [
        | inl kept ↦ elim (kept_call other kept) [
          | inl here ↦ no_put other here puts_it
          | inr added ↦ none other added puts_it.one_key
        ]
        | inr decided ↦ let at = decided_all other decided in no_put other (member_at all at.0 other at.1) puts_it
      ])

      -- a bare hit of the key, at a place
      record IsOf (i : ℕ) : Type 0 where
        unput : IsUnput judged i
        of_key : unput.call.key ≡ key

      -- a hit of the key that reads a value of the past is bare
      unput_past : (i p : ℕ) (call : Call) (w : List ℕ) (moment : ℕ) (own_place : Member p own_parts.done) (at_p : slice_get whole p ≡ Some call) → slice_get judged i ≡ Some call → call.key ≡ key → call.act ≡ Hit w moment → (r : Reads p call w moment) → length all ≤ r.put → IsOf i
      unput_past i p call w moment own_place at_p at same hits r from =
          let here : From key w = subst (λ k. From k w) same (comes_here p call own_place at_p w moment r from) in
          let values : value ≡ w = one_value past all certificate new a key value w comes here in
          record {
            unput = record {
              call = call;
              value = w;
              moment = moment;
              at = at;
              is = hits;
              unput = subst (λ k. All (λ other. ¬ PutsAt k w other) judged) (sym same) (subst (λ v. All (λ other. ¬ PutsAt key v other) judged) values all_bare);
            };
            of_key = same;
          }

      which_hit : (i p : ℕ) (call : Call) (w : List ℕ) (moment : ℕ) (own_place : Member p own_parts.done) (at_p : slice_get whole p ≡ Some call) → slice_get judged i ≡ Some call → call.key ≡ key → call.act ≡ Hit w moment → IsOf i ⊎ ¬ IsOf i
      which_hit i p call w moment own_place at_p at same hits =
          let r = read_by p call w moment (there p call own_place at_p) hits in
          elim (cases_lt r.put (length all)) [
            | inr from ↦ inl (unput_past i p call w moment own_place at_p at same hits r from)
            | inl less ↦ inr (λ of.
                let calls = same_Some of.unput.call call (sym of.unput.at ∙ at) in
                let bare = subst (λ (c : Call). IsBare c) calls (bare_of i of.unput) in
                let from = bare_past p call own_place at_p bare w moment hits r in
                omega (arith, from, less))
          ]

      which_act : (i : ℕ) (call : Call) → Member call piece.decided → slice_get judged i ≡ Some call → call.key ≡ key → IsOf i ⊎ ¬ IsOf i
      which_act i call m at same = elim (hit_or_not call.act) [
        | inr no_hit ↦ inr (λ of. no_hit of.unput.value of.unput.moment (ap (λ (c : Call). c.act) (same_Some call of.unput.call (sym at ∙ of.unput.at)) ∙ of.unput.is))
        | inl hit ↦ let place = decided_place call m in which_hit i place.0 call hit.0 hit.1 place.1 place.2 at same hit.2
      ]

      of_or_not : (i : ℕ) → i < length judged → IsOf i ⊎ ¬ IsOf i
      of_or_not i less =
          let found = found_at judged i less in
          elim (cases_lt i (length piece.kept)) [
            | inl early ↦ inr (λ of. none_unput piece.kept piece.decided i kept_accepted early of.unput)
            | inr enough ↦ elim (same_key_or_not found.0.key key) [
              | inl same ↦ which_act i found.0 (in_later piece.kept piece.decided i found.0 enough found.1) found.1 same
              | inr other ↦ inr (λ of. other (ap (λ (c : Call). c.key) (same_Some found.0 of.unput.call (sym found.1 ∙ of.unput.at)) ∙ of.of_key))
            ]
          ]

      -- no write of the key precedes a bare hit of it
      free_of : (i : ℕ) (of : IsOf i) (q : ℕ) (write : Call) → slice_get all q ≡ Some write → Writes (deed_of write) of.unput.call.key → ¬ Precedes write of.unput.call
      free_of i of =
          let unput = of.unput in
          let place = decided_place unput.call (hit_decided i unput) in
          let at = there place.0 unput.call place.1 place.2 in
          let r = read_by place.0 unput.call unput.value unput.moment at unput.is in
          let from = bare_past place.0 unput.call place.1 place.2 (bare_of i unput) unput.value unput.moment unput.is r in
          unwritten past all certificate new a place.0 unput.call unput.call.key unput.value unput.moment at unput.is r from

      -- the first one is taken as there from the start
      first_warm : (i : ℕ) (first : IsFirstBelow (start_at judged) IsOf (length judged) i) → IsWarm judged i
      first_warm i first =
          let unput = first.is.unput in
          record {
            unput = unput;
            unwritten = member_all (λ other. Writes (deed_of other) unput.call.key → ¬ Precedes other unput.call) judged (λ other mo writes before. elim (member_either piece.kept piece.decided other mo) [
              | inl kept ↦ elim (kept_call other kept) [
                | inl here ↦ let at = place_of all other here in free_of i first.is at.0 other at.2 writes before
                | inr added ↦ none other added (writes.0 ∙ first.is.of_key)
              ]
              | inr decided ↦ let at = decided_all other decided in free_of i first.is at.0 other at.1 writes before
            ]);
            first = λ other of same. first.first other (slice_get_within judged other of.call of.at) (record { unput = of; of_key = same ∙ first.is.of_key });
          }

      put_of_first : (i : ℕ) (first : IsFirstBelow (start_at judged) IsOf (length judged) i) → (put : Call) × Member put piece.puts × (put.key ≡ key)
      put_of_first i first =
          let warm = first_warm i first in
          let listed_hit = member_contained is.puts.0.hits.items i (is.puts.1.hits.all i first.within warm) in
          let hit = first.is.unput.call in
          let there_put = map_member warm_put (filter_map (slice_get judged) is.puts.0.hits.items) hit (picked_member (slice_get judged) is.puts.0.hits.items i hit listed_hit first.is.unput.at) in
          (warm_put hit, subst (Member (warm_put hit)) (sym is.puts.2) there_put, first.is.of_key)

      put_here : (i : ℕ) → i < length judged → IsOf i → (put : Call) × Member put piece.puts × (put.key ≡ key)
      put_here i less of = elim (find_first (start_at judged) IsOf (length judged) of_or_not) [
        | inl first ↦ put_of_first first.0 first.1
        | inr no_one ↦ absurd (no_one i less of)
      ]

    covers_here : (p : ℕ) (call : Call) (own_place : Member p own_parts.done) (at_p : slice_get whole p ≡ Some call) (value : List ℕ) (moment : ℕ) → call.act ≡ Hit value moment → (r : Reads p call value moment) → length all ≤ r.put → (put : Call) × Member put (added_in (piece ∷ earlier)) × (put.key ≡ call.key)
    covers_here p call own_place at_p value moment hits r from = elim (has_put (added_in earlier) call.key) [
      | inl old_put ↦ (old_put.0, member_left (added_in earlier) piece.puts old_put.0 old_put.1, old_put.2)
      | inr none ↦
          let comes = comes_here p call own_place at_p value moment r from in
          let at = place_of piece.decided call (decided_call p call own_place at_p) in
          let i = length piece.kept + at.0 in
          let there_i = look_after piece.kept piece.decided at.0 call at.2 in
          let of = unput_past call.key value comes none i p call value moment own_place at_p there_i refl hits r from in
          let put = put_here call.key value comes none i (slice_get_within judged i call there_i) of in
          (put.0, member_right (added_in earlier) piece.puts put.0 put.1, put.2)
    ]

    pub passed_now : IsPassed unended bound (piece ∷ earlier) now
    passed_now = record {
      truly = λ put m. elim (member_either (added_in earlier) piece.puts put m) [ inl before ↦ passed.truly put before | inr here ↦ truly_here put here ];
      apart = apart_now;
      covers = λ q call value moment mq at_q hits r from. elim (done_ways all puts length_of true unended piece earlier is old_bound old le rest all_are later_puts puts_are q mq) [
        | inl before ↦
            let put = passed.covers q call value moment before at_q hits r from in
            (put.0, member_left (added_in earlier) piece.puts put.0 put.1, put.2)
        | inr ways ↦ elim ways [
          | inl own_place ↦ covers_here q call own_place (at_whole all puts q call at_q) value moment hits r from
          | inr added ↦ let less = slice_get_within all q call at_q in absurd (omega (arith, added, less))
        ]
      ];
    }

  -- ---- all pieces

  module _ (goes_on : ForgettingGoesOn) (warming : WarmingFollows) (once : KeysAreWarmedOnce) (length_of : ℕ) where
    -- what is read later starts at the stamp of earlier pieces
    earlier_late : (piece : Piece) (earlier : List Piece) (rest : List Call) → StartFrom (bound_after length_of (calls_in earlier)) piece.calls → StartFrom (bound_after length_of (calls_in (piece ∷ earlier))) rest → StartFrom (bound_after length_of (calls_in earlier)) (piece.calls ++ rest)
    earlier_late piece earlier rest own later = member_all (λ (c : Call). bound_after length_of (calls_in earlier) ≤ c.start) (piece.calls ++ rest) (λ c m. elim (member_either piece.calls rest c m) [
      | inl here ↦ all_member (λ (d : Call). bound_after length_of (calls_in earlier) ≤ d.start) piece.calls c own here
      | inr there ↦
          let start : bound_after length_of (calls_in (piece ∷ earlier)) ≤ c.start = all_member (λ (d : Call). bound_after length_of (calls_in (piece ∷ earlier)) ≤ d.start) rest c later there in
          let grows = bound_grows length_of (calls_in earlier) piece.calls in
          omega (arith, start, grows)
    ])

    -- the places of the calls that are decided with pieces, and what is known of them
    pieces_passed : (pieces : List Piece) → ArePieces length_of true pieces → (rest : List Call) → all ≡ calls_in pieces ++ rest → StartFrom (bound_after length_of (calls_in pieces)) rest → (later_puts : List Call) → puts ≡ added_in pieces ++ later_puts → (at : ArePlaced all puts true (bound_after length_of (calls_in pieces)) pieces) × IsPassed true (bound_after length_of (calls_in pieces)) pieces at
    pieces_passed [] are rest all_are may later_puts puts_are =
        let at = none_placed all puts (bound_after length_of []) in
        (at, none_passed (bound_after length_of []) at)
    pieces_passed (piece ∷ earlier) are rest all_are may later_puts puts_are =
        let early = earlier_late piece earlier rest are.1.late may in
        let old = pieces_passed earlier are.0 (piece.calls ++ rest) (all_are ∙ append_assoc (calls_in earlier) piece.calls rest) early (piece.puts ++ later_puts) (puts_are ∙ append_assoc (added_in earlier) piece.puts later_puts) in (
          placed all puts length_of true true piece earlier are.1 (bound_after length_of (calls_in earlier)) old.0 (bound_grows length_of (calls_in earlier) piece.calls) rest all_are later_puts puts_are,
          passed_now goes_on warming once length_of true piece earlier are.0 are.1 rest all_are may early later_puts puts_are old.0 old.1,
        )

    last_late : (unended : Bool) (last : Piece) (earlier : List Piece) (rest : List Call) → StartFrom (bound_after length_of (calls_in earlier)) last.calls → MayCome unended (bound_after length_of (calls_in (last ∷ earlier))) rest → StartFrom (bound_after length_of (calls_in earlier)) (last.calls ++ rest)
    last_late true last earlier rest own may = earlier_late last earlier rest own may
    last_late false last earlier rest own may = subst (λ (cs : List Call). StartFrom (bound_after length_of (calls_in earlier)) (last.calls ++ cs)) (sym may) (subst (StartFrom (bound_after length_of (calls_in earlier))) (sym (append-nil last.calls)) own)

    pub last_passed : (unended : Bool) (last : Piece) (earlier : List Piece) (are : IsLastOf length_of true unended last earlier) (rest : List Call) (all_are : all ≡ calls_in (last ∷ earlier) ++ rest) → MayCome unended (bound_after length_of (calls_in (last ∷ earlier))) rest → (later_puts : List Call) (puts_are : puts ≡ added_in (last ∷ earlier) ++ later_puts) → Acceptable (decided_in (last ∷ earlier))
    last_passed unended last earlier are rest all_are may later_puts puts_are =
        let early = last_late unended last earlier rest are.1.late may in
        let old = pieces_passed earlier are.0 (last.calls ++ rest) (all_are ∙ append_assoc (calls_in earlier) last.calls rest) early (last.puts ++ later_puts) (puts_are ∙ append_assoc (added_in earlier) last.puts later_puts) in
        done_acceptable unended (bound_after length_of (calls_in (last ∷ earlier))) (last ∷ earlier)
        (placed all puts length_of true unended last earlier are.1 (bound_after length_of (calls_in earlier)) old.0 (bound_grows length_of (calls_in earlier) last.calls) rest all_are later_puts puts_are)
        rest all_are may later_puts puts_are
        (passed_now goes_on warming once length_of unended last earlier are.0 are.1 rest all_are may early later_puts puts_are old.0 old.1)

pub pasts_pass : ForgettingGoesOn → WarmingFollows → KeysAreWarmedOnce → PastsPass
pasts_pass goes_on warming once length_of unended last earlier later past certificate are may new a =
    (last_stands goes_on warming length_of true unended last earlier are).1
    (last_passed past (calls_in (last ∷ earlier) ++ later) certificate new a (added_in (last ∷ earlier)) goes_on warming once length_of unended last earlier are later refl may [] (sym (append-nil (added_in (last ∷ earlier)))))
