-- Calls at chosen positions of a history: they are acceptable if the history is and each hit of them reads one of them.
use Rattle.std.proofs.Common.{◌≢◌, ℕ, ◌<◌, ◌≤◌, List, length, inl, inr}
use Rattle.std.specs.Prelude.{All, filter, slice_get}
use Rattle.trace_file.specs.declared.call.Call.{Call}
use Rattle.certificate_checker.specs.Orders.{in_order}
use Rattle.certificate_checker.proofs.public_laws.Listing.{Member, all_member, filter_member, member_all, member_at, member_contained, member_filter, member_picked, pairs_filter, pairs_from, picked_member, place_of}
use Rattle.history_window.specs.Standing.{Acceptable}
use Rattle.history_window.proofs.Ahead.{Once, ahead_filter, filter_ahead, first_member}
use Rattle.history_window.proofs.Joining.{order_of}
use Rattle.history_window.proofs.Keeping.{in_list, is_in, list_in}
use Rattle.history_window.proofs.Lining.{AgreesLine, IsLawfulLine, agrees_from, agrees_to, lawful_from, lawful_to}
use Rattle.history_window.proofs.Picking.{IsLineOf, line_accepted, line_of, spelled}
use Rattle.history_window.proofs.Showing.{KeepsReads}

-- what holds of all calls holds of those at positions
pub picked_all : (P : Call → Type 0) (whole : List Call) (places : List ℕ) → All P whole → All P (in_order whole places)
picked_all P whole places all = member_all P (in_order whole places) (λ c m.
    let found = member_picked (slice_get whole) places c m in
    all_member P whole c all (member_at whole found.0 c found.2))

-- the chosen positions of a lawful line are one, if they keep what they read
pub chosen_line : (whole : List Call) (places line : List ℕ) → Once line → ((p : ℕ) → Member p places → Member p line) → AgreesLine whole line → IsLawfulLine whole line → KeepsReads whole places line → IsLineOf whole places (filter (is_in places) line)
chosen_line whole places line once listed agrees lawful keeps = record {
  only = λ p m. in_list places p (member_filter (is_in places) line p m).1;
  each = λ p m. filter_member (is_in places) line p (listed p m) (list_in places p m);
  once = pairs_filter (is_in places) (λ (p q : ℕ). p ≢ q) line once;
  agrees = λ p q one other a. agrees p q one other (ahead_filter (is_in places) line p q a);
  lawful = λ hit call value moment m found is.
      let both = member_filter (is_in places) line hit m in
      let r = lawful hit call value moment both.0 found is in
      let passes = list_in places r.put (keeps hit call value moment (in_list places hit both.1) found is r) in
      record {
        put = r.put;
        call = r.call;
        expires = r.expires;
        at = r.at;
        one_key = r.one_key;
        is = r.is;
        live = r.live;
        ahead = filter_ahead (is_in places) line r.put hit r.ahead passes both.1;
        last = λ other write at writes a. elim (r.last other write at writes (ahead_filter (is_in places) line other hit a)) [
          | inl same ↦ inl same
          | inr sooner ↦ inr (filter_ahead (is_in places) line other r.put sooner (member_filter (is_in places) line other (first_member (filter (is_in places) line) other hit a)).1 passes)
        ];
      };
}

module _ (whole : List Call) (places : List ℕ) (within : (p : ℕ) → Member p places → p < length whole) (distinct : Once places) where
  pub chosen_acceptable : ((line : List ℕ) → AgreesLine whole line → KeepsReads whole places line) → Acceptable whole → Acceptable (in_order whole places)
  chosen_acceptable keeps past =
      let line = past.0 in
      let a = past.1 in
      let once = pairs_from (λ (p q : ℕ). p ≢ q) line a.spelled.once in
      let agrees = agrees_to whole line once a.agrees in
      line_accepted whole places within distinct (filter (is_in places) line)
      (chosen_line whole places line once (λ p m. member_contained line p (a.spelled.each p (within p m))) agrees (lawful_to whole line once a.lawful) (keeps line agrees))
      (picked_all (λ (c : Call). c.start ≤ c.end) whole places a.intervals)

  -- all calls are acceptable in one order if they are in another
  pub all_acceptable : ((p : ℕ) → p < length whole → Member p places) → Acceptable (in_order whole places) → Acceptable whole
  all_acceptable each past =
      let line = spelled whole places within distinct past.0 in
      let is = line_of whole places within distinct past.0 past.1 in (
        line,
        record {
          intervals = member_all (λ (c : Call). c.start ≤ c.end) whole (λ c m.
              let place = place_of whole c m in
              all_member (λ (d : Call). d.start ≤ d.end) (in_order whole places) c past.1.intervals (picked_member (slice_get whole) places place.0 c (each place.0 place.1) place.2));
          spelled = order_of whole line is.once (λ p m. within p (is.only p m)) (λ p less. is.each p (each p less));
          agrees = agrees_from whole line is.once is.agrees;
          lawful = lawful_from whole line is.once is.lawful;
        },
      )
