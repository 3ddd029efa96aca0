-- What is accepted once a stream is warmed was accepted after some deeds.
use Rattle.std.proofs.Common.{◌≡◌, ◌≢◌, ℕ, ◌-◌, ◌<◌, ◌≤◌, Bool, true, false, not, cond, Some, List, [], ◌∷◌, ◌++◌, length, refl, sym, ap, ◌∙◌, subst, arith, inl, inr}
use Rattle.std.specs.Prelude.{All, AllPairs, filter, map, nat_le, slice_get}
use Rattle.std.specs.List.{filter_map}
use Rattle.std.proofs.lemmas.Bool.{cases_Bool, cases_lt, cases_order, le-leb, leb-true, not-true, not_from_false}
use Rattle.std.proofs.lemmas.List.{length-append, map-append}
use Rattle.std.proofs.lemmas.List.Elements.{filter_map-append}
use Rattle.std.proofs.lemmas.Option.{same_Some}
use Rattle.trace_file.specs.declared.call.Call.{Call}
use Rattle.certificate_checker.specs.Deeds.{Deed, deed_of}
use Rattle.certificate_checker.specs.Latest.{IsLawful, IsWrite, Writes}
use Rattle.certificate_checker.specs.Orders.{Precedes, in_order}
use Rattle.certificate_checker.proofs.public_laws.Accepting.{found_at}
use Rattle.certificate_checker.proofs.public_laws.Listing.{Member, Pairs, all_member, filter_member, member_all, member_at, member_contained, member_either, member_filter, member_left, member_map, member_picked, member_right, pairs_append, pairs_at, pairs_filter, pairs_from, pairs_map, pairs_picked, pairs_to, pairs_weaker}
use Rattle.certificate_finder.specs.WarmLaws.{IsAcceptedAfter, KeysAreWarmedOnce}
use Rattle.certificate_finder.specs.Warming.{IsWarm, warm_put, warm_puts}
use Rattle.history_window.specs.Laws.{ForgettingGoesOn, WarmingFollows}
use Rattle.history_window.specs.Standing.{Acceptable, IsUnwritten, StartFrom}
use Rattle.history_window.specs.Streams.{AcceptedHavePast, ArePieces, ComesAfter, IsLastOf, Piece, added_in, bound_after, calls_in, decided_in, waiting_in, waiting_lines_in}
use Rattle.history_window.proofs.Ahead.{Ahead, Once, ahead_filter, first_member, second_member}
use Rattle.history_window.proofs.Growing.{stands_now}
use Rattle.history_window.proofs.Joining.{order_of}
use Rattle.history_window.proofs.Judging.{IsAdded, added_puts, decided_whole, last_added, last_stands}
use Rattle.history_window.proofs.Keeping.{at_history, at_whole, in_later, look_right}
use Rattle.history_window.proofs.Lining.{AgreesLine, agrees_from, agrees_to}
use Rattle.history_window.proofs.Picking.{same_picks}
use Rattle.history_window.proofs.Pieces.{IsReady, asked_from, decided_asked, ready, waiting_asked}
use Rattle.history_window.proofs.Warming.{none_unput}

-- ---- a list in two

filter_none : (q : ℕ → Bool) (zs : List ℕ) → ((x : ℕ) → Member x zs → q x ≡ false) → filter q zs ≡ []
filter_none q [] each = refl
filter_none q (z ∷ zs) each = ap (λ b. cond b (z ∷ filter q zs) (filter q zs)) (each z (inl refl)) ∙ filter_none q zs (λ x m. each x (inr m))

filter_all : (q : ℕ → Bool) (zs : List ℕ) → ((x : ℕ) → Member x zs → q x ≡ true) → filter q zs ≡ zs
filter_all q [] each = refl
filter_all q (z ∷ zs) each = ap (λ b. cond b (z ∷ filter q zs) (filter q zs)) (each z (inl refl)) ∙ ap (λ rest. z ∷ rest) (filter_all q zs (λ x m. each x (inr m)))

-- what passes a test stands ahead of the rest
in_two : (q : ℕ → Bool) (zs : List ℕ) → ((x y : ℕ) → Ahead zs x y → q y ≡ true → q x ≡ true) → zs ≡ filter q zs ++ filter (λ x. not (q x)) zs
in_two q [] each = refl
in_two q (z ∷ zs) each = elim (cases_Bool (q z)) [
  | inl yes_one ↦
      let rest = in_two q zs (λ x y a. each x y (inr a)) in
      ap (λ l. z ∷ l) rest
      ∙ ap (λ b. cond b (z ∷ filter q zs) (filter q zs) ++ filter (λ x. not (q x)) zs) (sym yes_one)
      ∙ ap (λ b. filter q (z ∷ zs) ++ cond (not b) (z ∷ filter (λ x. not (q x)) zs) (filter (λ x. not (q x)) zs)) (sym yes_one)
  | inr no_one ↦
      let never : (x : ℕ) → Member x zs → q x ≡ false = λ x m. elim (cases_Bool (q x)) [
        | inl passes ↦ let both : true ≡ false = sym (each z x (inl (refl, m)) passes) ∙ no_one in cc
        | inr fails ↦ fails
      ] in
      let others : filter (λ x. not (q x)) (z ∷ zs) ≡ z ∷ zs = filter_all (λ x. not (q x)) (z ∷ zs) (λ x m. elim m [
        | inl same ↦ not_from_false (q x) (ap q same ∙ no_one)
        | inr later ↦ not_from_false (q x) (never x later)
      ]) in
      let none : filter q (z ∷ zs) ≡ [] = filter_none q (z ∷ zs) (λ x m. elim m [ inl same ↦ ap q same ∙ no_one | inr later ↦ never x later ]) in
      sym (ap (λ l. l ++ filter (λ x. not (q x)) (z ∷ zs)) none ∙ others)
]

-- ---- what is decided was read

module _ (length_of : ℕ) (warm unended : Bool) (piece : Piece) (earlier : List Piece) (is : ComesAfter length_of warm unended earlier piece) (waiting_read : (call : Call) → Member call (waiting_in earlier) → Member call (calls_in earlier)) where
  asked_read : (call : Call) → Member call (waiting_in earlier ++ piece.calls) → Member call (calls_in (piece ∷ earlier))
  asked_read call m = elim (member_either (waiting_in earlier) piece.calls call m) [
    | inl waited ↦ member_left (calls_in earlier) piece.calls call (waiting_read call waited)
    | inr own ↦ member_right (calls_in earlier) piece.calls call own
  ]

  decided_read_here : (call : Call) → Member call piece.decided → Member call (calls_in (piece ∷ earlier))
  decided_read_here call m = asked_read call (decided_asked unended (bound_after length_of (calls_in (piece ∷ earlier))) (waiting_in earlier ++ piece.calls) (waiting_lines_in earlier ++ piece.lines) piece.decided piece.decided_lines piece.waiting piece.waiting_lines is.parted call m)

  waiting_read_here : (call : Call) → Member call piece.waiting → Member call (calls_in (piece ∷ earlier))
  waiting_read_here call m = asked_read call (waiting_asked unended (bound_after length_of (calls_in (piece ∷ earlier))) (waiting_in earlier ++ piece.calls) (waiting_lines_in earlier ++ piece.lines) piece.decided piece.decided_lines piece.waiting piece.waiting_lines is.parted call m)

waits_read : (length_of : ℕ) (warm : Bool) (pieces : List Piece) → ArePieces length_of warm pieces → (call : Call) → Member call (waiting_in pieces) → Member call (calls_in pieces)
waits_read length_of warm [] are call m = absurd m
waits_read length_of warm (piece ∷ earlier) are call m = waiting_read_here length_of warm true piece earlier are.1 (waits_read length_of warm earlier are.0) call m

-- puts that were added are decided
pub added_decided : (pieces : List Piece) (call : Call) → Member call (added_in pieces) → Member call (decided_in pieces)
added_decided [] call m = absurd m
added_decided (piece ∷ earlier) call m = elim (member_either (added_in earlier) piece.puts call m) [
  | inl before ↦ member_left (decided_in earlier) (piece.decided ++ piece.puts) call (added_decided earlier call before)
  | inr here ↦ member_right (decided_in earlier) (piece.decided ++ piece.puts) call (member_right piece.decided piece.puts call here)
]

-- ---- one put of a key

abbrev AreApart : List Call → Type 0
AreApart puts = Pairs (λ (one other : Call). one.key ≢ other.key) puts

module _ (once : KeysAreWarmedOnce) (length_of : ℕ) (unended : Bool) (piece : Piece) (earlier : List Piece) (is : ComesAfter length_of true unended earlier piece) (ready : IsReady piece.bound piece.kept earlier) (waiting_read : (call : Call) → Member call (waiting_in earlier) → Member call (calls_in earlier)) (from : StartFrom 1 (calls_in (piece ∷ earlier))) (added : (call : Call) → Member call (added_in earlier) → IsAdded call) where
  abbrev asked : List Call
  asked = piece.kept ++ piece.decided

  -- the hit that a put is added for was decided with the piece
  hit_here : (p : ℕ) (warm : IsWarm asked p) → Member warm.unput.call piece.decided
  hit_here p warm = elim (cases_lt p (length piece.kept)) [
    | inl less ↦ absurd (none_unput piece.kept piece.decided p (stands_now piece.bound piece.kept (decided_in earlier) ready.stands ready.past) less warm.unput)
    | inr enough ↦ in_later piece.kept piece.decided p warm.unput.call enough warm.unput.at
  ]

  -- no put of its key was added before
  none_before : (p : ℕ) (warm : IsWarm asked p) (put : Call) → Member put (added_in earlier) → put.key ≢ warm.unput.call.key
  none_before p warm put m same =
      let call = warm.unput.call in
      let decided = hit_here p warm in
      let start : 1 ≤ call.start = all_member (λ (c : Call). 1 ≤ c.start) (calls_in (piece ∷ earlier)) call from (decided_read_here length_of true unended piece earlier is waiting_read call decided) in
      let bound : piece.bound ≤ call.start = asked_from length_of true unended piece earlier is call (decided_asked unended (bound_after length_of (calls_in (piece ∷ earlier))) (waiting_in earlier ++ piece.calls) (waiting_lines_in earlier ++ piece.lines) piece.decided piece.decided_lines piece.waiting piece.waiting_lines is.parted call decided) in
      let kept : IsUnwritten call.start piece.kept call.key = member_all (λ (c : Call). Writes (deed_of c) call.key → call.start ≤ c.end) piece.kept (λ c mc writes.
      let not_before = all_member (λ other. Writes (deed_of other) call.key → ¬ Precedes other call) asked c warm.unwritten (member_left piece.kept piece.decided c mc) writes in
      elim (cases_lt c.end call.start) [ inl before ↦ absurd (not_before before) | inr after ↦ after ]) in
      let whole = ready.stands.unwritten call.start call.key bound kept in
      let made = added put m in
      let writes : Writes (deed_of put) call.key = (same, subst (λ (c : Call). IsWrite c.act) (sym made.1) tt) in
      let late : call.start ≤ put.end = all_member (λ (c : Call). Writes (deed_of c) call.key → call.start ≤ c.end) (decided_in earlier) put whole (added_decided earlier put m) writes in
      let end : put.end ≡ 0 = ap (λ (c : Call). c.end) made.1 in
      omega (arith, start, late, end)

  apart_here : AreApart (added_in earlier) → AreApart (added_in (piece ∷ earlier))
  apart_here before =
      let warm = is.puts.0 in
      let own : AreApart piece.puts = subst AreApart (sym is.puts.2) (pairs_from (λ (one other : Call). one.key ≢ other.key) (warm_puts asked warm.hits.items) (once asked warm is.puts.1).0) in
      pairs_append (λ (one other : Call). one.key ≢ other.key) (added_in earlier) piece.puts before own (λ one other m n same.
      let source = member_map warm_put (filter_map (slice_get asked) warm.hits.items) other (subst (Member other) is.puts.2 n) in
      let place = member_picked (slice_get asked) warm.hits.items source.0 source.1 in
      let is_warm = all_member (IsWarm asked) warm.hits.items place.0 is.puts.1.hits.each place.1 in
      let mine = same_Some is_warm.unput.call source.0 (sym is_warm.unput.at ∙ place.2) in
      none_before place.0 is_warm one m (same ∙ ap (λ (c : Call). c.key) source.2 ∙ ap (λ (c : Call). c.key) (sym mine)))

module _ (goes_on : ForgettingGoesOn) (warming : WarmingFollows) (once : KeysAreWarmedOnce) (length_of : ℕ) where
  earlier_from : (piece : Piece) (earlier : List Piece) → StartFrom 1 (calls_in (piece ∷ earlier)) → StartFrom 1 (calls_in earlier)
  earlier_from piece earlier from = member_all (λ (c : Call). 1 ≤ c.start) (calls_in earlier) (λ c m. all_member (λ (d : Call). 1 ≤ d.start) (calls_in (piece ∷ earlier)) c from (member_left (calls_in earlier) piece.calls c m))

  added_apart : (pieces : List Piece) → ArePieces length_of true pieces → StartFrom 1 (calls_in pieces) → AreApart (added_in pieces)
  added_apart [] are from = tt
  added_apart (piece ∷ earlier) are from =
      apart_here once length_of true piece earlier are.1 (ready length_of true goes_on warming earlier piece.bound piece.kept piece.kept_lines are.0 are.1.bound_is are.1.kept) (waits_read length_of true earlier are.0) from (added_puts length_of true earlier are.0)
      (added_apart earlier are.0 (earlier_from piece earlier from))

  last_apart : (unended : Bool) (last : Piece) (earlier : List Piece) → IsLastOf length_of true unended last earlier → StartFrom 1 (calls_in (last ∷ earlier)) → AreApart (added_in (last ∷ earlier))
  last_apart unended last earlier are from =
      apart_here once length_of unended last earlier are.1 (ready length_of true goes_on warming earlier last.bound last.kept last.kept_lines are.0 are.1.bound_is are.1.kept) (waits_read length_of true earlier are.0) from (added_puts length_of true earlier are.0)
      (added_apart earlier are.0 (earlier_from last earlier from))

-- ---- the puts stand ahead of all calls, and are the past

module _ (calls added : List Call) (from : StartFrom 1 calls) (are_added : (call : Call) → Member call added → IsAdded call) (apart : AreApart added) (past : Acceptable (calls ++ added)) where
  abbrev whole : List Call
  whole = calls ++ added

  abbrev order : List ℕ
  order = past.0

  once_order : Once order
  once_order = pairs_from (λ (p q : ℕ). p ≢ q) order past.1.spelled.once

  is_put : ℕ → Bool
  is_put p = nat_le (length calls) p

  put_from : (p : ℕ) → is_put p ≡ true → length calls ≤ p
  unfolding is_put
  put_from p is = leb-true (length calls) p is

  no_put : (p : ℕ) → is_put p ≡ false → p < length calls
  unfolding is_put
  no_put p is = elim (cases_lt p (length calls)) [
    | inl less ↦ less
    | inr enough ↦ let both : true ≡ false = sym (le-leb (length calls) p enough) ∙ is in absurd cc
  ]

  added_at : (p : ℕ) (call : Call) → length calls ≤ p → slice_get whole p ≡ Some call → Member call added
  added_at p call enough at = in_later calls added p call enough at

  within : (p : ℕ) → Member p order → p < length whole
  within p m = all_member (λ q. q < length whole) order p past.1.spelled.positions m

  puts_ahead : (x y : ℕ) → Ahead order x y → is_put y ≡ true → is_put x ≡ true
  puts_ahead x y a put = elim (cases_Bool (is_put x)) [
    | inl yes_one ↦ yes_one
    | inr no_one ↦
        let less = no_put x no_one in
        let one = found_at whole x (within x (first_member order x y a)) in
        let other = found_at whole y (within y (second_member order x y a)) in
        let made = are_added other.0 (added_at y other.0 (put_from y put) other.1) in
        let end : other.0.end ≡ 0 = ap (λ (c : Call). c.end) made.1 in
        let start : 1 ≤ one.0.start = all_member (λ (c : Call). 1 ≤ c.start) calls one.0 from (member_at calls x one.0 (at_history calls added x one.0 less one.1)) in
        absurd (agrees_to whole order once_order past.1.agrees x y one.0 other.0 a one.1 other.1 (omega (arith, end, start)))
  ]

  abbrev first : List ℕ
  first = filter is_put order

  abbrev second : List ℕ
  second = filter (λ p. not (is_put p)) order

  second_less : (p : ℕ) → Member p second → p < length calls
  second_less p m = no_put p (not-true (is_put p) (member_filter (λ q. not (is_put q)) order p m).1)

  deeds_are : map deed_of (in_order whole order) ≡ map deed_of (in_order whole first) ++ map deed_of (in_order calls second)
  deeds_are =
      ap (λ l. map deed_of (in_order whole l)) (in_two is_put order puts_ahead)
      ∙ ap (map deed_of) (filter_map-append (slice_get whole) first second ∙ ap (λ (cs : List Call). in_order whole first ++ cs) (same_picks calls added second second_less))
      ∙ map-append deed_of (in_order whole first) (in_order calls second)

  second_once : Once second
  second_once = pairs_filter (λ p. not (is_put p)) (λ (p q : ℕ). p ≢ q) order once_order

  second_agrees : AgreesLine calls second
  second_agrees p q one other a at_p at_q = agrees_to whole order once_order past.1.agrees p q one other (ahead_filter (λ r. not (is_put r)) order p q a) (at_whole calls added p one at_p) (at_whole calls added q other at_q)

  first_apart : Pairs (λ (one other : Call). one.key ≢ other.key) (in_order whole first)
  first_apart =
      pairs_picked (slice_get whole) (λ (p q : ℕ). (p ≢ q) × (length calls ≤ p) × (length calls ≤ q)) (λ (one other : Call). one.key ≢ other.key) first
      (λ p q one other at_p at_q both. different p q one other both.1 both.2 at_p at_q both.0)
      (pairs_weaker (λ (p q : ℕ). p ≢ q) (λ (p q : ℕ). (p ≢ q) × (length calls ≤ p) × (length calls ≤ q)) first (λ p q m n apart_pq. (apart_pq, put_from p (member_filter is_put order p m).1, put_from q (member_filter is_put order q n).1))
      (pairs_filter is_put (λ (p q : ℕ). p ≢ q) order once_order))
    where
      in_added : (p : ℕ) (call : Call) → length calls ≤ p → slice_get whole p ≡ Some call → slice_get added (p - length calls) ≡ Some call
      in_added p call enough at = sym (look_right calls added p (p - length calls) (omega (arith, enough))) ∙ at

      different : (p q : ℕ) (one other : Call) → length calls ≤ p → length calls ≤ q → slice_get whole p ≡ Some one → slice_get whole q ≡ Some other → p ≢ q → one.key ≢ other.key
      different p q one other from_p from_q at_p at_q apart_pq same = elim (cases_order p q) [
        | inl equal ↦ apart_pq equal
        | inr rest ↦ elim rest [
          | inl less ↦ pairs_at (λ (a b : Call). a.key ≢ b.key) added (p - length calls) (q - length calls) one other (omega (arith, less, from_p, from_q)) (in_added p one from_p at_p) (in_added q other from_q at_q) apart same
          | inr more ↦ pairs_at (λ (a b : Call). a.key ≢ b.key) added (q - length calls) (p - length calls) other one (omega (arith, more, from_p, from_q)) (in_added q other from_q at_q) (in_added p one from_p at_p) apart (sym same)
        ]
      ]

  pub has_past : (deeds : List Deed) × (certificate : List ℕ) × (AllPairs (λ (one other : Deed). one.key ≢ other.key) deeds × All (λ (deed : Deed). IsWrite deed.act) deeds) × IsAcceptedAfter deeds calls certificate
  has_past = (
    map deed_of (in_order whole first),
    second,
    (
      pairs_to (λ (one other : Deed). one.key ≢ other.key) (map deed_of (in_order whole first)) (pairs_map deed_of (λ (one other : Deed). one.key ≢ other.key) (in_order whole first) first_apart),
      member_all (λ (deed : Deed). IsWrite deed.act) (map deed_of (in_order whole first)) (λ deed m.
          let of = member_map deed_of (in_order whole first) deed m in
          let at = member_picked (slice_get whole) first of.0 of.1 in
          let made = are_added of.0 (added_at at.0 of.0 (put_from at.0 (member_filter is_put order at.0 at.1).1) at.2) in
          subst (λ (d : Deed). IsWrite d.act) (sym of.2) (subst (λ (c : Call). IsWrite c.act) (sym made.1) tt)),
    ),
    record {
      intervals = member_all (λ (c : Call). c.start ≤ c.end) calls (λ c m. all_member (λ (d : Call). d.start ≤ d.end) whole c past.1.intervals (member_left calls added c m));
      spelled = order_of calls second second_once second_less (λ p less. filter_member (λ q. not (is_put q)) order p (member_contained order p (past.1.spelled.each p (longer p less))) (below p less));
      agrees = agrees_from calls second second_once second_agrees;
      lawful = subst IsLawful deeds_are past.1.lawful;
    },
  )
    where
      longer : (p : ℕ) → p < length calls → p < length whole
      longer p less = let long = length-append calls added in omega (arith, less, long)

      below : (p : ℕ) → p < length calls → not (is_put p) ≡ true
      below p less = elim (cases_Bool (is_put p)) [
        | inl yes_one ↦ let enough = put_from p yes_one in absurd (omega (arith, enough, less))
        | inr no_one ↦ not_from_false (is_put p) no_one
      ]

pub accepted_have_past : ForgettingGoesOn → WarmingFollows → KeysAreWarmedOnce → AcceptedHavePast
accepted_have_past goes_on warming once length_of last earlier are from past =
    has_past (calls_in (last ∷ earlier)) (added_in (last ∷ earlier)) from (last_added length_of true false last earlier are) (last_apart goes_on warming once length_of false last earlier are from)
    (decided_whole goes_on warming length_of true last earlier are ((last_stands goes_on warming length_of true false last earlier are).0 past))
