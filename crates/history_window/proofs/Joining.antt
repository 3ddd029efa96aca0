-- Two lines of a history's calls, one after the other, make it acceptable.
use Rattle.std.proofs.Common.{◌≡◌, ◌≢◌, ℕ, ◌<◌, ◌≤◌, false, Some, List, ◌++◌, length, refl, arith, inl, inr}
use Rattle.std.specs.Prelude.{All, slice_get}
use Rattle.std.proofs.lemmas.Bool.{cases_lt}
use Rattle.trace_file.specs.declared.act.Act.TheVariants.{Hit}
use Rattle.trace_file.specs.declared.call.Call.{Call}
use Rattle.certificate_checker.specs.Orders.{IsOrder, Precedes}
use Rattle.certificate_checker.proofs.public_laws.Listing.{Member, all_member, contained_member, member_all, member_either, pairs_to}
use Rattle.certificate_finder.specs.Spots.{AreOfOne, is_miss}
use Rattle.certificate_finder.specs.Turns.{end_at, start_at}
use Rattle.history_window.specs.Laws.{KeysAgree, LinesAreAcceptable}
use Rattle.history_window.specs.Standing.{Acceptable}
use Rattle.history_window.proofs.Ahead.{Ahead, Once, ahead_across, ahead_append, ahead_left, ahead_pairs, ahead_right, first_member, pairs_ahead, second_member}
use Rattle.history_window.proofs.CallLemmas.{end_is, one_of, start_is}
use Rattle.history_window.proofs.Lining.{AgreesLine, IsLawfulLine, ReadsIn, lawful_from}

-- a time that is not earlier is no later
no_later : (a b : ℕ) → ¬ (a < b) → b ≤ a
no_later a b not = elim (cases_lt a b) [ inl less ↦ absurd (not less) | inr le ↦ le ]

-- an order of a history lists each position once
pub order_of : (history : List Call) (line : List ℕ) → Once line → ((p : ℕ) → Member p line → p < length history) → ((p : ℕ) → p < length history → Member p line) → IsOrder history line
order_of history line once below each = record {
  positions = member_all (λ p. p < length history) line below;
  each = λ p less. contained_member line p (each p less);
  once = pairs_to (λ (p q : ℕ). p ≢ q) line once;
}

-- what holds of each call of two lists holds of each of both
pub lapses_both : (history later : List Call) → All (λ (call : Call). call.start ≤ call.end) history → All (λ (call : Call). call.start ≤ call.end) later → All (λ (call : Call). call.start ≤ call.end) (history ++ later)
lapses_both history later first second = member_all (λ (call : Call). call.start ≤ call.end) (history ++ later) (λ call m. elim (member_either history later call m) [
  | inl old ↦ all_member (λ (c : Call). c.start ≤ c.end) history call first old
  | inr new ↦ all_member (λ (c : Call). c.start ≤ c.end) later call second new
])

module _ (history : List Call) (front tail : List ℕ) (once : Once (front ++ tail)) where
  -- what stands in the front stands in no tail
  pub apart : (p : ℕ) → Member p front → ¬ Member p tail
  apart p m n = pairs_ahead (λ (p q : ℕ). p ≢ q) (front ++ tail) p p once (ahead_across front tail p p m n) refl

  -- a hit of the front reads there what it read
  front_reads : (hit : ℕ) (key value : List ℕ) (moment : ℕ) → Member hit front → ReadsIn history front hit key value moment → ReadsIn history (front ++ tail) hit key value moment
  front_reads hit key value moment m r = record {
    put = r.put;
    call = r.call;
    expires = r.expires;
    at = r.at;
    one_key = r.one_key;
    is = r.is;
    live = r.live;
    ahead = ahead_left front tail r.put hit r.ahead;
    last = λ other write at writes a. elim (ahead_append front tail other hit a) [
      | inl first ↦ elim (r.last other write at writes first) [ inl same ↦ inl same | inr sooner ↦ inr (ahead_left front tail other r.put sooner) ]
      | inr rest ↦ elim rest [
        | inl across ↦ absurd (apart hit m across.1)
        | inr second ↦ absurd (apart hit m (second_member tail other hit second))
      ]
    ];
  }

  -- a hit of the tail that reads a put of the tail reads it there too
  pub tail_reads : (hit : ℕ) (key value : List ℕ) (moment : ℕ) → Member hit tail → ReadsIn history tail hit key value moment → ReadsIn history (front ++ tail) hit key value moment
  tail_reads hit key value moment m r = record {
    put = r.put;
    call = r.call;
    expires = r.expires;
    at = r.at;
    one_key = r.one_key;
    is = r.is;
    live = r.live;
    ahead = ahead_right front tail r.put hit r.ahead;
    last = λ other write at writes a. elim (ahead_append front tail other hit a) [
      | inl first ↦ absurd (apart hit (second_member front other hit first) m)
      | inr rest ↦ elim rest [
        | inl across ↦ inr (ahead_across front tail other r.put across.0 (first_member tail r.put hit r.ahead))
        | inr second ↦ elim (r.last other write at writes second) [ inl same ↦ inl same | inr sooner ↦ inr (ahead_right front tail other r.put sooner) ]
      ]
    ];
  }

  module _ (first : AgreesLine history front) (second : AgreesLine history tail) (across : (p q : ℕ) (one other : Call) → Member p front → Member q tail → slice_get history p ≡ Some one → slice_get history q ≡ Some other → one.key ≡ other.key → is_miss one.act ≡ false → is_miss other.act ≡ false → ¬ Precedes other one) where
    in_time : (p q : ℕ) (one other : Call) → Ahead (front ++ tail) p q → slice_get history p ≡ Some one → slice_get history q ≡ Some other → one.key ≡ other.key → is_miss one.act ≡ false → is_miss other.act ≡ false → ¬ Precedes other one
    in_time p q one other a at_p at_q same_key no_miss no_other = elim (ahead_append front tail p q a) [
      | inl early ↦ first p q one other early at_p at_q
      | inr rest ↦ elim rest [
        | inl both ↦ across p q one other both.0 both.1 at_p at_q same_key no_miss no_other
        | inr late ↦ second p q one other late at_p at_q
      ]
    ]

    joined_agrees : KeysAgree history (front ++ tail)
    joined_agrees = pairs_to (λ p q. AreOfOne history p q → start_at history p ≤ end_at history q) (front ++ tail)
        (ahead_pairs (λ p q. AreOfOne history p q → start_at history p ≤ end_at history q) (front ++ tail) (λ p q a of.
        let two = one_of history p q of in
        let le = no_later two.1.end two.0.start (in_time p q two.0 two.1 a two.2 two.3 two.4 two.5 two.6) in
        let from = start_is history p two.0 two.2 in
        let till = end_is history q two.1 two.3 in
        omega (arith, le, from, till)))

    pub joined_acceptable : LinesAreAcceptable → IsOrder history (front ++ tail) → All (λ call. call.start ≤ call.end) history → IsLawfulLine history front → ((hit : ℕ) (call : Call) (value : List ℕ) (moment : ℕ) → Member hit tail → slice_get history hit ≡ Some call → call.act ≡ Hit value moment → ReadsIn history (front ++ tail) hit call.key value moment) → Acceptable history
    joined_acceptable lines_are order intervals lawful reads =
        lines_are history (front ++ tail) order intervals joined_agrees
        (lawful_from history (front ++ tail) once (λ hit call value moment m at hits. elim (member_either front tail hit m) [
          | inl old ↦ front_reads hit call.key value moment old (lawful hit call value moment old at hits)
          | inr new ↦ reads hit call value moment new at hits
        ]))
