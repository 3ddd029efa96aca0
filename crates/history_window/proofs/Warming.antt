-- The puts that warming adds may follow what is kept.
use Rattle.std.proofs.Common.{◌≡◌, ◌≢◌, ℕ, ◌<◌, ◌≤◌, Some, List, ◌++◌, length, sym, ap, ◌∙◌, subst, arith, inl, inr}
use Rattle.std.specs.Prelude.{All, slice_get}
use Rattle.std.specs.List.{filter_map}
use Rattle.std.proofs.lemmas.Bool.{cases_lt}
use Rattle.std.proofs.lemmas.Option.{same_Some}
use Rattle.trace_file.specs.declared.call.Call.{Call}
use Rattle.certificate_checker.specs.Deeds.{deed_of}
use Rattle.certificate_checker.specs.Latest.{Writes}
use Rattle.certificate_checker.specs.Orders.{Precedes}
use Rattle.certificate_checker.proofs.public_laws.Listing.{all_member, member_all, member_at, member_contained, member_either, member_left, member_map, member_picked, pairs_from}
use Rattle.certificate_finder.specs.Warming.{IsUnput, IsWarm, PutsAt, warm_put, warm_puts}
use Rattle.history_window.specs.Laws.{WarmingFollows}
use Rattle.history_window.specs.Standing.{Acceptable, IsUnwritten, MayFollow}
use Rattle.history_window.proofs.Keeping.{at_history, in_later}
use Rattle.history_window.proofs.Lining.{lawful_to}

-- no hit of acceptable calls reads what nobody put
pub none_unput : (kept more : List Call) (p : ℕ) → Acceptable kept → p < length kept → ¬ IsUnput (kept ++ more) p
none_unput kept more p past less is =
    let line = past.0 in
    let a = past.1 in
    let once = pairs_from (λ (p q : ℕ). p ≢ q) line a.spelled.once in
    let here = at_history kept more p is.call less is.at in
    let r = lawful_to kept line once a.lawful p is.call is.value is.moment (member_contained line p (a.spelled.each p less)) here is.is in
    all_member (λ other. ¬ PutsAt is.call.key is.value other) (kept ++ more) r.call is.unput (member_left kept more r.call (member_at kept r.put r.call r.at))
    (record { one_key = r.one_key; expires = r.expires; is = r.is })

put_follows : (bound : ℕ) (kept more : List Call) (p : ℕ) (call : Call) → Acceptable kept → All (λ (c : Call). bound ≤ c.start) more → IsWarm (kept ++ more) p → slice_get (kept ++ more) p ≡ Some call → IsUnwritten bound kept call.key
put_follows bound kept more p call past from warm at =
    let mine = same_Some warm.unput.call call (sym warm.unput.at ∙ at) in
    let keys : call.key ≡ warm.unput.call.key = ap (λ (c : Call). c.key) (sym mine) in
    let starts : bound ≤ warm.unput.call.start = elim (cases_lt p (length kept)) [
      | inl less ↦ absurd (none_unput kept more p past less warm.unput)
      | inr enough ↦ all_member (λ (c : Call). bound ≤ c.start) more warm.unput.call from (in_later kept more p warm.unput.call enough warm.unput.at)
    ] in
    member_all (λ (c : Call). Writes (deed_of c) call.key → bound ≤ c.end) kept (λ c m writes.
    let not = all_member (λ other. Writes (deed_of other) warm.unput.call.key → ¬ Precedes other warm.unput.call) (kept ++ more) c warm.unwritten (member_left kept more c m) (subst (Writes (deed_of c)) keys writes) in
    elim (cases_lt c.end warm.unput.call.start) [
      | inl before ↦ absurd (not before)
      | inr after ↦ omega (arith, starts, after)
    ])

pub follows : WarmingFollows
follows bound kept more warm past from is = member_all (MayFollow bound kept) (more ++ warm_puts (kept ++ more) warm.hits.items) (λ call m. elim (member_either more (warm_puts (kept ++ more) warm.hits.items) call m) [
  | inl here ↦ inl (all_member (λ (c : Call). bound ≤ c.start) more call from here)
  | inr there ↦
      let source = member_map warm_put (filter_map (slice_get (kept ++ more)) warm.hits.items) call there in
      let place = member_picked (slice_get (kept ++ more)) warm.hits.items source.0 source.1 in
      let none = put_follows bound kept more place.0 source.0 past from (all_member (IsWarm (kept ++ more)) warm.hits.items place.0 is.hits.each place.1) place.2 in
      inr (subst (IsUnwritten bound kept) (ap (λ (c : Call). c.key) (sym source.2)) none)
])
