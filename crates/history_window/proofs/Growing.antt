-- What stands for a history, as both grow.
use Rattle.std.proofs.Common.{◌≡◌, ℕ, ◌<◌, ◌≤◌, Some, List, ◌++◌, length, sym, ◌∙◌, subst, arith, inl, inr, append_assoc, append-nil, []}
use Rattle.std.specs.Prelude.{◌↔◌, All, slice_get}
use Rattle.std.proofs.lemmas.Bool.{cases_eq}
use Rattle.std.proofs.lemmas.Option.{slice_get_within}
use Rattle.trace_file.specs.declared.call.Call.{Call}
use Rattle.certificate_checker.specs.Deeds.{deed_of}
use Rattle.certificate_checker.specs.Latest.{Writes}
use Rattle.certificate_checker.specs.Orders.{in_order}
use Rattle.certificate_checker.proofs.public_laws.Listing.{Member, all_member, member_all, member_either, member_left, member_right, picked_member, place_of}
use Rattle.history_window.specs.Laws.{ForgettingGoesOn, LinesAreAcceptable, StandingChains, StandingGrows, UnsettledStand, WindowStands}
use Rattle.history_window.specs.Settled.{AreUnsettled, IsSettledHit}
use Rattle.history_window.specs.Standing.{Acceptable, IsUnwritten, MayFollow, StandFor}
use Rattle.history_window.specs.Windows.{IsLastCut, IsWindow, Stays}
use Rattle.history_window.proofs.CallLemmas.{end_is, write_is_no_miss}
use Rattle.history_window.proofs.Dropping.{kept_acceptable}
use Rattle.history_window.proofs.Forgetting.{whole_acceptable}
use Rattle.history_window.proofs.Keeping.{holds_kept}
use Rattle.history_window.proofs.SettledHits.{settled_acceptable}
use Rattle.history_window.proofs.SettledLemmas.{unsettled_acceptable, write_unsettled}

-- ---- keys that have no write that ended

none_of : (stamp : ℕ) (calls : List Call) (key : List ℕ) → IsUnwritten stamp calls key → (call : Call) → Member call calls → Writes (deed_of call) key → stamp ≤ call.end
none_of stamp calls key none call m = all_member (λ (c : Call). Writes (deed_of c) key → stamp ≤ c.end) calls call none m

of_none : (stamp : ℕ) (calls : List Call) (key : List ℕ) → ((call : Call) → Member call calls → Writes (deed_of call) key → stamp ≤ call.end) → IsUnwritten stamp calls key
of_none stamp calls key each = member_all (λ (c : Call). Writes (deed_of c) key → stamp ≤ c.end) calls each

sooner : (bound stamp : ℕ) (kept more : List Call) (key : List ℕ) → bound ≤ stamp → IsUnwritten stamp (kept ++ more) key → IsUnwritten bound kept key
sooner bound stamp kept more key le none = of_none bound kept key (λ call m writes.
    let late = none_of stamp (kept ++ more) key none call (member_left kept more call m) writes in
    omega (arith, le, late))

-- a window keeps some write of each key of which one ended
pub window_unwritten : (bound : ℕ) (history : List Call) (kept : List ℕ) → IsWindow bound history kept → (stamp : ℕ) (key : List ℕ) → bound ≤ stamp → IsUnwritten stamp (in_order history kept) key → IsUnwritten stamp history key
window_unwritten bound history kept window stamp key le none = of_none stamp history key (λ call m writes. by_place call writes (place_of history call m))
  where
    shown : (p : ℕ) (call : Call) → slice_get history p ≡ Some call → p < length history → Stays bound history p → Writes (deed_of call) key → stamp ≤ call.end
    shown p call at less stays writes =
        none_of stamp (in_order history kept) key none call
        (picked_member (slice_get history) kept p call (holds_kept history [] (Stays bound history) kept window p less stays) at) writes

    cut_stays : (of : List ℕ) (cut : ℕ) → (last : IsLastCut bound history of cut) → Stays bound history cut
    cut_stays of cut last = record {
      call = last.is.writes.call;
      at = last.is.writes.at;
      no_miss = write_is_no_miss last.is.writes.call.act last.is.writes.writes.1;
      uncut = λ other given.
          let also = subst (λ k. IsLastCut bound history k other) last.is.writes.writes.0 given in
          elim (cases_eq cut other) [
            | inl same ↦ inl same
            | inr apart ↦ inr (inl (last.last other also.is (λ e. apart (sym e))))
          ];
    }

    by_place : (call : Call) → Writes (deed_of call) key → (p : ℕ) × (p < length history) × (slice_get history p ≡ Some call) → stamp ≤ call.end
    by_place call writes place = shown place.0 call place.2 place.1 (record {
      call = call;
      at = place.2;
      no_miss = write_is_no_miss call.act writes.1;
      uncut = λ cut last.
          let write = last.is.writes.call in
          let at = last.is.writes.at in
          let late = shown cut write at (slice_get_within history cut write at) (cut_stays call.key cut last) (last.is.writes.writes.0 ∙ writes.0, last.is.writes.writes.1) in
          let over = last.is.over in
          let till = end_is history cut write at in
          absurd (omega (arith, late, over, till, le));
    }) writes

-- all writes stay beside the hits that are not settled
pub unsettled_unwritten : (bound : ℕ) (history : List Call) (kept : List ℕ) → AreUnsettled bound history kept → (stamp : ℕ) (key : List ℕ) → IsUnwritten stamp (in_order history kept) key → IsUnwritten stamp history key
unsettled_unwritten bound history kept unsettled stamp key none = of_none stamp history key (λ call m writes.
    let place = place_of history call m in
    let stays = holds_kept history [] (λ p. ¬ IsSettledHit bound history p) kept unsettled place.0 place.1 (write_unsettled bound history place.0 call place.2 writes.1) in
    none_of stamp (in_order history kept) key none call (picked_member (slice_get history) kept place.0 call stays place.2) writes)

-- ---- what may follow

follow_other : (bound : ℕ) (kept history later : List Call) → ((key : List ℕ) → IsUnwritten bound kept key → IsUnwritten bound history key) → All (MayFollow bound kept) later → All (MayFollow bound history) later
follow_other bound kept history later each late = member_all (MayFollow bound history) later (λ call m. elim (all_member (MayFollow bound kept) later call late m) [
  | inl from ↦ inl from
  | inr none ↦ inr (each call.key none)
])

-- calls that may follow at a later stamp, after calls that may follow at an earlier one
pub follow_more : (bound other : ℕ) (kept more later : List Call) → bound ≤ other → All (MayFollow bound kept) more → All (MayFollow other (kept ++ more)) later → All (MayFollow bound kept) (more ++ later)
follow_more bound other kept more later le first second = member_all (MayFollow bound kept) (more ++ later) (λ call m. elim (member_either more later call m) [
  | inl here ↦ all_member (MayFollow bound kept) more call first here
  | inr there ↦ elim (all_member (MayFollow other (kept ++ more)) later call second there) [
    | inl from ↦ inl (omega (arith, le, from))
    | inr none ↦ inr (sooner bound other kept more call.key le none)
  ]
])

-- ---- what stands

pub standing_more : StandingGrows
standing_more bound other kept history more stands le from = record {
  alike = λ later start.
      let both = stands.alike (more ++ later) (follow_more bound other kept more later le from start) in
      subst (λ calls. Acceptable calls ↔ Acceptable ((history ++ more) ++ later)) (sym (append_assoc kept more later))
      (subst (λ calls. Acceptable (kept ++ (more ++ later)) ↔ Acceptable calls) (sym (append_assoc history more later)) both);
  unwritten = λ stamp key past none. of_none stamp (history ++ more) key (λ call m writes. elim (member_either history more call m) [
    | inl here ↦ none_of stamp history key (stands.unwritten stamp key (omega (arith, le, past)) (sooner stamp stamp kept more key (omega arith) none)) call here writes
    | inr there ↦ none_of stamp (kept ++ more) key none call (member_right kept more call there) writes
  ]);
}

pub standing_chain : StandingChains
standing_chain bound one other another first second = record {
  alike = λ later start.
      let here = first.alike later start in
      let there = second.alike later (follow_other bound one other later (λ key. first.unwritten bound key (omega arith)) start) in
      (λ x. there.0 (here.0 x), λ x. here.1 (there.1 x));
  unwritten = λ stamp key past none. second.unwritten stamp key past (first.unwritten stamp key past none);
}

pub window_stand : LinesAreAcceptable → WindowStands
window_stand lines_are bound history kept window past = record {
  alike = λ later start.
      let late = follow_other bound (in_order history kept) history later (λ key. window_unwritten bound history kept window bound key (omega arith)) start in
      (whole_acceptable lines_are bound history later kept window late past, kept_acceptable bound history later kept window late);
  unwritten = window_unwritten bound history kept window;
}

pub unsettled_stands : LinesAreAcceptable → UnsettledStand
unsettled_stands lines_are bound history kept unsettled past = record {
  alike = λ later start.
      let late = follow_other bound (in_order history kept) history later (unsettled_unwritten bound history kept unsettled bound) start in
      (settled_acceptable lines_are bound history later kept unsettled late past, unsettled_acceptable bound history later kept unsettled);
  unwritten = λ stamp key past'. unsettled_unwritten bound history kept unsettled stamp key;
}

-- what stands for acceptable calls is acceptable
pub stands_now : (bound : ℕ) (kept history : List Call) → StandFor bound kept history → Acceptable history → Acceptable kept
stands_now bound kept history stands a =
    let both = stands.alike [] (λ k d less. absurd (omega (arith, less))) in
    subst Acceptable (append-nil kept) (both.1 (subst Acceptable (sym (append-nil history)) a))

pub goes_on : WindowStands → UnsettledStand → ForgettingGoesOn
goes_on windows settles bound other history kept more window left stands le from a is rest =
    let grown = standing_more bound other kept history more stands le from in
    let shown = windows other (kept ++ more) window is a in
    let again = settles other (in_order (kept ++ more) window) left rest (stands_now other (in_order (kept ++ more) window) (kept ++ more) shown a) in
    standing_chain other (in_order (in_order (kept ++ more) window) left) (kept ++ more) (history ++ more)
    (standing_chain other (in_order (in_order (kept ++ more) window) left) (in_order (kept ++ more) window) (kept ++ more) again shown) grown
