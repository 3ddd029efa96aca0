-- What is acceptable without the calls that a window forgets is so with them.
use Rattle.std.proofs.Common.{◌≡◌, ◌≢◌, ℕ, ◌<◌, ◌≤◌, Bool, true, false, not, Some, List, ◌++◌, length, sym, ◌∙◌, subst, arith, inl, inr}
use Rattle.std.specs.Prelude.{All, filter, slice_get}
use Rattle.std.specs.List.{filter_map}
use Rattle.std.proofs.lemmas.Bool.{cases_Bool, cases_lt, not-true, not_from_false}
use Rattle.std.proofs.lemmas.List.{length-append}
use Rattle.trace_file.specs.declared.call.Call.{Call}
use Rattle.certificate_checker.specs.Orders.{in_order}
use Rattle.certificate_checker.proofs.public_laws.Accepting.{found_at}
use Rattle.certificate_checker.proofs.public_laws.Listing.{Member, all_member, filter_member, member_all, member_contained, member_either, member_filter, member_left, member_right, pairs_append, pairs_filter, pairs_from}
use Rattle.history_window.specs.Laws.{LinesAreAcceptable}
use Rattle.history_window.specs.Standing.{Acceptable, MayFollow}
use Rattle.history_window.specs.Windows.{IsWindow, Stays}
use Rattle.history_window.proofs.Ahead.{Once, ahead_filter, filter_ahead, first_member, second_member}
use Rattle.history_window.proofs.Joining.{joined_acceptable, lapses_both, order_of, tail_reads}
use Rattle.history_window.proofs.Keeping.{at_history, at_whole, in_list, is_in, kept_calls, late_placed, list_in, places, places_once, places_within}
use Rattle.history_window.proofs.Lining.{AgreesLine, IsLawfulLine, agrees_to, lawful_to}
use Rattle.history_window.proofs.Picking.{IsLineOf, line_of, run, run_from}
use Rattle.history_window.proofs.Restoring.{not_before, reads_forgotten}

module _ (bound : ℕ) (history later : List Call) (kept : List ℕ) (window : IsWindow bound history kept) (late : All (MayFollow bound history) later) (line : List ℕ) (once : Once line) (below : (p : ℕ) → Member p line → p < length history) (each : (p : ℕ) → p < length history → Member p line) (intervals : All (λ call. call.start ≤ call.end) history) (agrees : AgreesLine history line) (lawful : IsLawfulLine history line) (tail : List ℕ) (is : IsLineOf (history ++ later) (places history later kept) tail) (lapses : All (λ (call : Call). call.start ≤ call.end) later) where
  abbrev is_gone : ℕ → Bool
  is_gone p = not (is_in kept p)

  -- the calls that are forgotten, in the order of the first line
  abbrev gone : List ℕ
  gone = filter is_gone line

  was : (p : ℕ) → Member p gone → Member p line
  was p m = (member_filter is_gone line p m).0

  gone_below : (p : ℕ) → Member p gone → p < length history
  gone_below p m = below p (was p m)

  gone_not : (p : ℕ) → Member p gone → ¬ Member p kept
  gone_not p m old =
      let stays : is_in kept p ≡ false = not-true (is_in kept p) (member_filter is_gone line p m).1 in
      let both : true ≡ false = sym (list_in kept p old) ∙ stays in
      cc

  gone_call : (p : ℕ) (call : Call) → Member p gone → slice_get (history ++ later) p ≡ Some call → slice_get history p ≡ Some call
  gone_call p call m at = at_history history later p call (gone_below p m) at

  not_gone : (p : ℕ) → ¬ Member p kept → is_gone p ≡ true
  not_gone p left = elim (cases_Bool (is_in kept p)) [ inl stays ↦ absurd (left (in_list kept p stays)) | inr goes ↦ not_from_false (is_in kept p) goes ]

  joined_once : Once (gone ++ tail)
  joined_once = pairs_append (λ (p q : ℕ). p ≢ q) gone tail (pairs_filter is_gone (λ (p q : ℕ). p ≢ q) line once) is.once (λ p q m n same.
      elim (member_either kept (run (length history) (length later)) q (is.only q n)) [
        | inl old ↦ gone_not p m (subst (λ x. Member x kept) (sym same) old)
        | inr new ↦
            let less = gone_below p m in
            let past = run_from (length history) (length later) q new in
            let from = past.0 in
            omega (arith, less, from, same)
      ])

  joined_below : (p : ℕ) → Member p (gone ++ tail) → p < length (history ++ later)
  joined_below p m = elim (member_either gone tail p m) [
    | inl old ↦ let less = gone_below p old in let long = length-append history later in omega (arith, less, long)
    | inr new ↦ places_within history later (Stays bound history) kept window p (is.only p new)
  ]

  joined_each : (p : ℕ) → p < length (history ++ later) → Member p (gone ++ tail)
  joined_each p less = elim (cases_lt p (length history)) [
    | inl early ↦ elim (cases_Bool (is_in kept p)) [
      | inl stays ↦ member_right gone tail p (is.each p (member_left kept (run (length history) (length later)) p (in_list kept p stays)))
      | inr goes ↦ member_left gone tail p (filter_member is_gone line p (each p early) (not_from_false (is_in kept p) goes))
    ]
    | inr past ↦
        let call = found_at (history ++ later) p less in
        member_right gone tail p (is.each p (late_placed history later (Stays bound history) kept window p call.0 past call.1))
  ]

  -- a forgotten hit reads what it read, and that is forgotten too
  gone_lawful : IsLawfulLine (history ++ later) gone
  gone_lawful hit call value moment m at hits =
      let here = gone_call hit call m at in
      let r = lawful hit call value moment (was hit m) here hits in
      let passes = not_gone r.put (reads_forgotten bound history line once each intervals agrees lawful later kept window late lapses hit call value moment here hits (gone_not hit m) r) in
      record {
        put = r.put;
        call = r.call;
        expires = r.expires;
        at = at_whole history later r.put r.call r.at;
        one_key = r.one_key;
        is = r.is;
        live = r.live;
        ahead = filter_ahead is_gone line r.put hit r.ahead passes (not_gone hit (gone_not hit m));
        last = λ other write at_other writes a.
            let there = first_member gone other hit a in
            elim (r.last other write (gone_call other write there at_other) writes (ahead_filter is_gone line other hit a)) [
              | inl same ↦ inl same
              | inr sooner ↦ inr (filter_ahead is_gone line other r.put sooner (not_gone other (gone_not other there)) passes)
            ];
      }

  gone_acceptable : LinesAreAcceptable → Acceptable (history ++ later)
  gone_acceptable lines_are =
      joined_acceptable (history ++ later) gone tail joined_once
      (λ p q one other a at_p at_q. agrees p q one other (ahead_filter is_gone line p q a) (gone_call p one (first_member gone p q a) at_p) (gone_call q other (second_member gone p q a) at_q))
      is.agrees
      (λ p q one other m n at_p at_q same_key no_miss no_other. not_before bound history line once each intervals agrees lawful later kept window late lapses p q one other (gone_call p one m at_p) (gone_not p m) (is.only q n) at_q same_key no_miss)
      lines_are (order_of (history ++ later) (gone ++ tail) joined_once joined_below joined_each) (lapses_both history later intervals lapses) gone_lawful
      (λ hit call value moment m at hits. tail_reads (history ++ later) gone tail joined_once hit call.key value moment m (is.lawful hit call value moment m at hits))

-- a history is acceptable if it is acceptable without what a window forgets, and so is what it was when it forgot
pub whole_acceptable : LinesAreAcceptable → (bound : ℕ) (history later : List Call) (kept : List ℕ) → IsWindow bound history kept → All (MayFollow bound history) later → Acceptable history → Acceptable (in_order history kept ++ later) → Acceptable (history ++ later)
whole_acceptable lines_are bound history later kept window late past shown =
    let line = past.0 in
    let a = past.1 in
    let once = pairs_from (λ (p q : ℕ). p ≢ q) line a.spelled.once in
    let chosen = places history later kept in
    let P = Stays bound history in
    let made = subst Acceptable (sym (kept_calls history later P kept window)) shown in
    gone_acceptable bound history later kept window late line once
    (λ p m. all_member (λ q. q < length history) line p a.spelled.positions m)
    (λ p less. member_contained line p (a.spelled.each p less))
    a.intervals (agrees_to history line once a.agrees) (lawful_to history line once a.lawful)
    (filter_map (slice_get chosen) made.0)
    (line_of (history ++ later) chosen (places_within history later P kept window) (places_once history later P kept window) made.0 made.1)
    (member_all (λ (c : Call). c.start ≤ c.end) later (λ c m. all_member (λ (d : Call). d.start ≤ d.end) (in_order history kept ++ later) c shown.1.intervals (member_right (in_order history kept) later c m)))
    lines_are
