-- At which positions of all calls that were read, and of the puts that were added, the calls stand that are decided, and those that wait.
use Rattle.std.proofs.Common.{◌≡◌, ◌≢◌, ℕ, ◌+◌, ◌<◌, ◌≤◌, Bool, true, false, Some, List, [], ◌∷◌, ◌++◌, length, refl, sym, ap, ◌∙◌, subst, arith, inl, inr, ◌⊎◌}
use Rattle.std.specs.Prelude.{slice_get}
use Rattle.std.specs.List.{filter_map}
use Rattle.std.proofs.lemmas.Bool.{cases_lt}
use Rattle.std.proofs.lemmas.List.{length-append}
use Rattle.std.proofs.lemmas.List.Elements.{filter_map-append}
use Rattle.std.proofs.lemmas.Option.{same_Some, slice_get_within}
use Rattle.trace_file.specs.declared.act.Act.TheVariants.{Hit}
use Rattle.trace_file.specs.declared.call.Call.{Call}
use Rattle.certificate_checker.specs.Latest.{IsWrite}
use Rattle.certificate_checker.specs.Orders.{in_order}
use Rattle.certificate_checker.proofs.public_laws.Accepting.{found_at}
use Rattle.certificate_checker.proofs.public_laws.Listing.{Member, all_member, member_at, member_contained, member_either, member_left, member_picked, member_right, pairs_append, pairs_from, pairs_weaker, picked_member, place_of}
use Rattle.certificate_finder.specs.Lists.{AreAllBelow}
use Rattle.history_window.specs.Streams.{ArePast, AreRecent, ComesAfter, IsPartedIf, IsRecent, Piece, added_in, bound_after, calls_in, decided_in, waiting_in, waiting_lines_in}
use Rattle.history_window.proofs.Ahead.{Once}
use Rattle.history_window.proofs.CallLemmas.{end_is, no_write}
use Rattle.history_window.proofs.PastLemmas.{recent_or_not}
use Rattle.history_window.proofs.Picking.{in_run, look_after, look_left, look_picked, one_place, run, run_finds, run_from, run_once, spelled_once, twice}

-- ---- asked positions, parted

-- of positions of calls these are decided, and these wait. Only hits wait; and hits that are decided ended before a stamp, if more may come
pub record AreParted (whole : List Call) (unended : Bool) (bound : ℕ) (asked : List ℕ) (decided waiting : List Call) : Type 0 where
  pub done : List ℕ
  pub wait : List ℕ
  pub done_are : in_order whole done ≡ decided
  pub wait_are : in_order whole wait ≡ waiting
  pub done_asked : (p : ℕ) → Member p done → Member p asked
  pub wait_asked : (p : ℕ) → Member p wait → Member p asked
  pub each : (p : ℕ) → Member p asked → Member p done ⊎ Member p wait
  pub done_once : Once done
  pub wait_once : Once wait
  pub apart : (p : ℕ) → Member p done → ¬ Member p wait
  pub waits : (p : ℕ) (call : Call) → Member p wait → slice_get whole p ≡ Some call → ¬ IsWrite call.act
  pub over : unended ≡ true → (p : ℕ) (call : Call) (value : List ℕ) (moment : ℕ) → Member p done → slice_get whole p ≡ Some call → call.act ≡ Hit value moment → call.end < bound

once_below : (xs : List ℕ) (P : ℕ → Type 0) (upto : ℕ) → AreAllBelow P upto xs → Once xs
once_below xs P upto all = pairs_weaker (λ (p q : ℕ). p < q) (λ (p q : ℕ). p ≢ q) xs (λ p q l m less same. omega (arith, less, same)) (pairs_from (λ (p q : ℕ). p < q) xs all.rise)

module _ (whole : List Call) (bound : ℕ) (asked : List ℕ) (calls : List Call) (within : (p : ℕ) → Member p asked → p < length whole) (distinct : Once asked) (asked_are : in_order whole asked ≡ calls) where
  picked : List ℕ → List ℕ
  picked indices = filter_map (slice_get asked) indices

  picked_are : (indices : List ℕ) → in_order whole (picked indices) ≡ in_order calls indices
  unfolding picked
  picked_are indices = sym (twice whole asked within distinct indices) ∙ ap (λ (cs : List Call). in_order cs indices) asked_are

  picked_asked : (indices : List ℕ) (p : ℕ) → Member p (picked indices) → (i : ℕ) × Member i indices × (slice_get asked i ≡ Some p)
  unfolding picked
  picked_asked indices p m = member_picked (slice_get asked) indices p m

  -- the call at an index of what is asked
  same_call : (i p : ℕ) → slice_get asked i ≡ Some p → slice_get calls i ≡ slice_get whole p
  same_call i p at = sym (ap (λ (cs : List Call). slice_get cs i) asked_are) ∙ look_picked whole asked within i p at

  module _ (past recent : List ℕ) (are_past : ArePast bound calls past) (are_recent : AreRecent bound calls recent) where
    past_not : (i : ℕ) → Member i past → ¬ IsRecent bound calls i
    past_not i m = all_member (λ (j : ℕ). ¬ IsRecent bound calls j) past i are_past.each m

    recent_is : (i : ℕ) → Member i recent → IsRecent bound calls i
    recent_is i m = all_member (IsRecent bound calls) recent i are_recent.each m

    index_less : (i p : ℕ) → slice_get asked i ≡ Some p → i < length calls
    index_less i p at =
        let call = found_at whole p (within p (member_at asked i p at)) in
        slice_get_within calls i call.0 (same_call i p at ∙ call.1)

    -- which it is
    one_of_both : (p : ℕ) → Member p asked → Member p (picked past) ⊎ Member p (picked recent)
    unfolding picked
    one_of_both p m =
        let place = place_of asked p m in
        let less = index_less place.0 p place.2 in
        elim (recent_or_not bound calls place.0 less) [
          | inl is_one ↦ inr (picked_member (slice_get asked) recent place.0 p (member_contained recent place.0 (are_recent.all place.0 less is_one)) place.2)
          | inr is_none ↦ inl (picked_member (slice_get asked) past place.0 p (member_contained past place.0 (are_past.all place.0 less is_none)) place.2)
        ]

    not_both : (p : ℕ) → Member p (picked past) → ¬ Member p (picked recent)
    not_both p m n =
        let one = picked_asked past p m in
        let other = picked_asked recent p n in
        let same = one_index asked distinct one.0 other.0 p one.2 other.2 in
        past_not one.0 one.1 (subst (IsRecent bound calls) (sym same) (recent_is other.0 other.1))
      where
        one_index : (asked : List ℕ) → Once asked → (i j p : ℕ) → slice_get asked i ≡ Some p → slice_get asked j ≡ Some p → i ≡ j
        one_index asked distinct i j p at_i at_j = one_place asked i j p distinct at_i at_j

    waits_hit : (p : ℕ) (call : Call) → Member p (picked recent) → slice_get whole p ≡ Some call → ¬ IsWrite call.act
    waits_hit p call m at =
        let one = picked_asked recent p m in
        let recent_one = recent_is one.0 one.1 in
        let same = same_Some recent_one.is.call call (sym recent_one.is.at ∙ same_call one.0 p one.2 ∙ at) in
        no_write call.act recent_one.value recent_one.moment (ap (λ (c : Call). c.act) (sym same) ∙ recent_one.is.is)

    over_hit : (p : ℕ) (call : Call) (value : List ℕ) (moment : ℕ) → Member p (picked past) → slice_get whole p ≡ Some call → call.act ≡ Hit value moment → call.end < bound
    over_hit p call value moment m at is =
        let one = picked_asked past p m in
        let here = same_call one.0 p one.2 ∙ at in
        elim (cases_lt call.end bound) [
          | inl less ↦ less
          | inr late ↦
              let till = end_is calls one.0 call here in
              absurd (past_not one.0 one.1 (record { key = call.key; value = value; moment = moment; is = record { call = call; at = here; one_key = refl; is = is }; late = omega (arith, till, late) }))
        ]

    pub parted_open : AreParted whole true bound asked (in_order calls past) (in_order calls recent)
    unfolding picked
    parted_open = record {
      done = picked past;
      wait = picked recent;
      done_are = picked_are past;
      wait_are = picked_are recent;
      done_asked = λ p m. let one = picked_asked past p m in member_at asked one.0 p one.2;
      wait_asked = λ p m. let one = picked_asked recent p m in member_at asked one.0 p one.2;
      each = one_of_both;
      done_once = spelled_once whole asked within distinct past (once_below past (λ (j : ℕ). ¬ IsRecent bound calls j) (length calls) are_past);
      wait_once = spelled_once whole asked within distinct recent (once_below recent (IsRecent bound calls) (length calls) are_recent);
      apart = not_both;
      waits = waits_hit;
      over = λ is. over_hit;
    }

  parted_of : (unended : Bool) (lines : List ℕ) (decided : List Call) (decided_lines : List ℕ) (waiting : List Call) (waiting_lines : List ℕ) → IsPartedIf unended bound calls lines decided decided_lines waiting waiting_lines → AreParted whole unended bound asked decided waiting
  parted_of true lines decided decided_lines waiting waiting_lines parted =
      subst (λ (cs : List Call). AreParted whole true bound asked cs waiting) (sym parted.decided_are)
      (subst (AreParted whole true bound asked (in_order calls parted.past)) (sym parted.waiting_are) (parted_open parted.past parted.recent parted.are_past parted.are_recent))
  parted_of false lines decided decided_lines waiting waiting_lines parted = record {
    done = asked;
    wait = [];
    done_are = asked_are ∙ sym parted.0;
    wait_are = sym parted.2;
    done_asked = λ p m. m;
    wait_asked = λ p m. absurd m;
    each = λ p m. inl m;
    done_once = distinct;
    wait_once = tt;
    apart = λ p m n. n;
    waits = λ p call m at writes. m;
    over = λ is p call value moment m at hits. let both : false ≡ true = is in cc;
  }

-- ---- all pieces

-- within all calls and all puts these are decided, in this order, and these wait
pub record ArePlaced (all more_puts : List Call) (unended : Bool) (bound : ℕ) (pieces : List Piece) : Type 0 where
  pub done : List ℕ
  pub wait : List ℕ
  pub done_are : in_order (all ++ more_puts) done ≡ decided_in pieces
  pub wait_are : in_order (all ++ more_puts) wait ≡ waiting_in pieces
  pub done_once : Once done
  pub wait_once : Once wait
  pub apart : (p : ℕ) → Member p done → ¬ Member p wait
  pub done_only : (p : ℕ) → Member p done → (p < length (calls_in pieces)) ⊎ ((length all ≤ p) × (p < length all + length (added_in pieces)))
  pub wait_only : (p : ℕ) → Member p wait → p < length (calls_in pieces)
  pub each : (p : ℕ) → p < length (calls_in pieces) → Member p done ⊎ Member p wait
  pub puts : (p : ℕ) → length all ≤ p → p < length all + length (added_in pieces) → Member p done
  pub waits : (p : ℕ) (call : Call) → Member p wait → slice_get (all ++ more_puts) p ≡ Some call → ¬ IsWrite call.act
  pub over : unended ≡ true → (p : ℕ) (call : Call) (value : List ℕ) (moment : ℕ) → Member p done → p < length all → slice_get (all ++ more_puts) p ≡ Some call → call.act ≡ Hit value moment → call.end < bound

-- nothing is placed of no pieces
pub none_placed : (all more_puts : List Call) (bound : ℕ) → ArePlaced all more_puts true bound []
none_placed all more_puts bound = record {
  done = [];
  wait = [];
  done_are = refl;
  wait_are = refl;
  done_once = tt;
  wait_once = tt;
  apart = λ p m n. n;
  done_only = λ p m. absurd m;
  wait_only = λ p m. absurd m;
  each = λ p less. absurd (omega (arith, less));
  puts = λ p low high. absurd (omega (arith, low, high));
  waits = λ p call m at writes. m;
  over = λ is p call value moment m. absurd m;
}

-- one piece more
module _ (all more_puts : List Call) (length_of : ℕ) (warm unended : Bool) (piece : Piece) (earlier : List Piece) (is : ComesAfter length_of warm unended earlier piece) (old_bound : ℕ) (old : ArePlaced all more_puts true old_bound earlier) (old_less : old_bound ≤ bound_after length_of (calls_in (piece ∷ earlier))) (rest : List Call) (all_are : all ≡ calls_in (piece ∷ earlier) ++ rest) (later_puts : List Call) (puts_are : more_puts ≡ added_in (piece ∷ earlier) ++ later_puts) where
  abbrev whole : List Call
  whole = all ++ more_puts

  abbrev bound : ℕ
  bound = bound_after length_of (calls_in (piece ∷ earlier))

  abbrev own : List ℕ
  own = run (length (calls_in earlier)) (length piece.calls)

  abbrev pub asked : List ℕ
  asked = old.wait ++ own

  long_calls : length (calls_in (piece ∷ earlier)) ≡ length (calls_in earlier) + length piece.calls
  long_calls = length-append (calls_in earlier) piece.calls

  long_all : length all ≡ length (calls_in (piece ∷ earlier)) + length rest
  long_all = ap length all_are ∙ length-append (calls_in (piece ∷ earlier)) rest

  long_added : length (added_in (piece ∷ earlier)) ≡ length (added_in earlier) + length piece.puts
  long_added = length-append (added_in earlier) piece.puts

  long_whole : length whole ≡ length all + length more_puts
  long_whole = length-append all more_puts

  own_from : (p : ℕ) → Member p own → (length (calls_in earlier) ≤ p) × (p < length (calls_in (piece ∷ earlier)))
  own_from p m =
      let both = run_from (length (calls_in earlier)) (length piece.calls) p m in
      let low = both.0 in
      let high = both.1 in
      let long = long_calls in
      (low, omega (arith, high, long))

  pub asked_less : (p : ℕ) → Member p asked → p < length (calls_in (piece ∷ earlier))
  asked_less p m = elim (member_either old.wait own p m) [
    | inl waited ↦ let less = old.wait_only p waited in let long = long_calls in omega (arith, less, long)
    | inr new ↦ (own_from p new).1
  ]

  asked_within : (p : ℕ) → Member p asked → p < length whole
  asked_within p m =
      let less = asked_less p m in
      let a = long_all in
      let w = long_whole in
      omega (arith, less, a, w)

  asked_once : Once asked
  asked_once = pairs_append (λ (p q : ℕ). p ≢ q) old.wait own old.wait_once (run_once (length (calls_in earlier)) (length piece.calls)) (λ p q m n same.
      let less = old.wait_only p m in
      let low = (own_from q n).0 in
      omega (arith, less, low, same))

  own_are : in_order whole own ≡ piece.calls
  own_are = run_finds whole (length (calls_in earlier)) piece.calls (λ k call at.
      let less = slice_get_within piece.calls k call at in
      let long = long_calls in
      let a = long_all in
      let here : length (calls_in earlier) + k < length (calls_in (piece ∷ earlier)) = omega (arith, less, long) in
      look_left all more_puts (length (calls_in earlier) + k) (omega (arith, here, a))
      ∙ ap (λ (cs : List Call). slice_get cs (length (calls_in earlier) + k)) all_are
      ∙ look_left (calls_in (piece ∷ earlier)) rest (length (calls_in earlier) + k) here
      ∙ look_after (calls_in earlier) piece.calls k call at)

  asked_are : in_order whole asked ≡ waiting_in earlier ++ piece.calls
  asked_are =
      filter_map-append (slice_get whole) old.wait own
      ∙ ap (λ (cs : List Call). cs ++ in_order whole own) old.wait_are
      ∙ ap (λ (cs : List Call). waiting_in earlier ++ cs) own_are

  pub parts : AreParted whole unended bound asked piece.decided piece.waiting
  parts = parted_of whole bound asked (waiting_in earlier ++ piece.calls) asked_within asked_once asked_are unended (waiting_lines_in earlier ++ piece.lines) piece.decided piece.decided_lines piece.waiting piece.waiting_lines is.parted

  abbrev added : List ℕ
  added = run (length all + length (added_in earlier)) (length piece.puts)

  added_are : in_order whole added ≡ piece.puts
  added_are = run_finds whole (length all + length (added_in earlier)) piece.puts (λ k call at.
      let less = slice_get_within piece.puts k call at in
      let a = long_added in
      let here : length (added_in earlier) + k < length (added_in (piece ∷ earlier)) = omega (arith, less, a) in
      let sum : (length all + length (added_in earlier)) + k ≡ length all + (length (added_in earlier) + k) = omega arith in
      ap (slice_get whole) sum
      ∙ look_after all more_puts (length (added_in earlier) + k) call
      (ap (λ (cs : List Call). slice_get cs (length (added_in earlier) + k)) puts_are
      ∙ look_left (added_in (piece ∷ earlier)) later_puts (length (added_in earlier) + k) here
      ∙ look_after (added_in earlier) piece.puts k call at))

  added_from : (p : ℕ) → Member p added → (length all + length (added_in earlier) ≤ p) × (p < length all + length (added_in (piece ∷ earlier)))
  added_from p m =
      let both = run_from (length all + length (added_in earlier)) (length piece.puts) p m in
      let low = both.0 in
      let high = both.1 in
      let a = long_added in
      (low, omega (arith, high, a))

  now : List ℕ
  now = parts.done ++ added

  now_are : in_order whole now ≡ piece.decided ++ piece.puts
  unfolding now
  now_are =
      filter_map-append (slice_get whole) parts.done added
      ∙ ap (λ (cs : List Call). cs ++ in_order whole added) parts.done_are
      ∙ ap (λ (cs : List Call). piece.decided ++ cs) added_are

  now_once : Once now
  unfolding now
  now_once = pairs_append (λ (p q : ℕ). p ≢ q) parts.done added parts.done_once (run_once (length all + length (added_in earlier)) (length piece.puts)) (λ p q m n same.
      let less = asked_less p (parts.done_asked p m) in
      let low = (added_from q n).0 in
      let a = long_all in
      omega (arith, less, low, a, same))

  -- what was decided before is not asked again
  pub old_apart : (p q : ℕ) → Member p old.done → Member q asked → p ≢ q
  old_apart p q m n same = elim (member_either old.wait own q n) [
    | inl waited ↦ old.apart p m (subst (λ x. Member x old.wait) (sym same) waited)
    | inr new ↦
        let both = own_from q new in
        let low = both.0 in
        let high = both.1 in
        let a = long_all in
        elim (old.done_only p m) [
          | inl less ↦ omega (arith, less, low, same)
          | inr put ↦ let from = put.0 in omega (arith, from, high, a, same)
        ]
  ]

  old_added : (p q : ℕ) → Member p old.done → Member q added → p ≢ q
  old_added p q m n same =
      let low = (added_from q n).0 in
      let a = long_all in
      let long = long_calls in
      elim (old.done_only p m) [
        | inl less ↦ omega (arith, less, low, a, long, same)
        | inr put ↦ let high = put.1 in omega (arith, high, low, same)
      ]

  all_once : Once (old.done ++ now)
  unfolding now
  all_once = pairs_append (λ (p q : ℕ). p ≢ q) old.done now old.done_once now_once (λ p q m n. elim (member_either parts.done added q n) [
    | inl here ↦ old_apart p q m (parts.done_asked q here)
    | inr put ↦ old_added p q m put
  ])

  in_now : (p : ℕ) → Member p parts.done → Member p (old.done ++ now)
  unfolding now
  in_now p m = member_right old.done now p (member_left parts.done added p m)

  -- what is decided was so before, or is of the piece, or was added
  done_either : (p : ℕ) → Member p (old.done ++ now) → Member p old.done ⊎ (Member p parts.done ⊎ (length all ≤ p))
  unfolding now
  done_either p m = elim (member_either old.done now p m) [
    | inl before ↦ inl before
    | inr here ↦ elim (member_either parts.done added p here) [
      | inl own_done ↦ inr (inl own_done)
      | inr put ↦ let low = (added_from p put).0 in inr (inr (omega (arith, low)))
    ]
  ]

  pub placed : ArePlaced all more_puts unended bound (piece ∷ earlier)
  unfolding now
  placed = record {
    done = old.done ++ now;
    wait = parts.wait;
    done_are = filter_map-append (slice_get whole) old.done now ∙ ap (λ (cs : List Call). cs ++ in_order whole now) old.done_are ∙ ap (λ (cs : List Call). decided_in earlier ++ cs) now_are;
    wait_are = parts.wait_are;
    done_once = all_once;
    wait_once = parts.wait_once;
    apart = λ p m n. elim (member_either old.done now p m) [
      | inl before ↦ old_apart p p before (parts.wait_asked p n) refl
      | inr here ↦ elim (member_either parts.done added p here) [
        | inl done ↦ parts.apart p done n
        | inr put ↦
            let low = (added_from p put).0 in
            let less = asked_less p (parts.wait_asked p n) in
            let a = long_all in
            omega (arith, low, less, a)
      ]
    ];
    done_only = λ p m. elim (member_either old.done now p m) [
      | inl before ↦ elim (old.done_only p before) [
        | inl less ↦ let long = long_calls in inl (omega (arith, less, long))
        | inr put ↦ let high = put.1 in let a = long_added in inr (put.0, omega (arith, high, a))
      ]
      | inr here ↦ elim (member_either parts.done added p here) [
        | inl done ↦ inl (asked_less p (parts.done_asked p done))
        | inr put ↦ let both = added_from p put in let low = both.0 in inr (omega (arith, low), both.1)
      ]
    ];
    wait_only = λ p m. asked_less p (parts.wait_asked p m);
    each = λ p less. elim (cases_lt p (length (calls_in earlier))) [
      | inl before ↦ elim (old.each p before) [
        | inl done ↦ inl (member_left old.done now p done)
        | inr waited ↦ elim (parts.each p (member_left old.wait own p waited)) [ inl done ↦ inl (in_now p done) | inr waits ↦ inr waits ]
      ]
      | inr from ↦
          let long = long_calls in
          elim (parts.each p (member_right old.wait own p (in_run (length (calls_in earlier)) (length piece.calls) p from (omega (arith, less, long))))) [ inl done ↦ inl (in_now p done) | inr waits ↦ inr waits ]
    ];
    puts = λ p low high. elim (cases_lt p (length all + length (added_in earlier))) [
      | inl before ↦ member_left old.done now p (old.puts p low before)
      | inr from ↦
          let a = long_added in
          member_right old.done now p (member_right parts.done added p (in_run (length all + length (added_in earlier)) (length piece.puts) p from (omega (arith, high, a))))
    ];
    waits = parts.waits;
    over = λ unended_is p call value moment m less at hits. elim (member_either old.done now p m) [
      | inl before ↦ let soon = old.over refl p call value moment before less at hits in let le = old_less in omega (arith, soon, le)
      | inr here ↦ elim (member_either parts.done added p here) [
        | inl done ↦ parts.over unended_is p call value moment done at hits
        | inr put ↦ let low = (added_from p put).0 in absurd (omega (arith, low, less))
      ]
    ];
  }

  pub done_ways : (p : ℕ) → Member p placed.done → Member p old.done ⊎ (Member p parts.done ⊎ (length all ≤ p))
  unfolding placed
  done_ways p m = done_either p m

  pub in_done : (p : ℕ) → Member p parts.done → Member p placed.done
  unfolding placed
  in_done p m = in_now p m
