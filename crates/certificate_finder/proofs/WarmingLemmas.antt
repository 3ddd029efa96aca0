-- The values that are taken as there from the start, in numbers and back.
use Rattle.std.proofs.Common.{◌≡◌, ℕ, ◌+◌, ◌*◌, ◌^◌, ◌<◌, ◌≤◌, ◌⊎◌, Some, List, [], ◌∷◌, ◌++◌, length, map, replicate, take, refl, sym, ap, ◌∙◌, subst, arith, inl, inr}
use Rattle.std.specs.Prelude.{All, slice_get}
use Rattle.std.specs.Option.{option_map_or}
use Rattle.std.proofs.lemmas.Bool.{cases_eq, cases_lt}
use Rattle.std.proofs.lemmas.List.{get_or-replicate, length-replicate, map-append}
use Rattle.std.proofs.lemmas.List.Elements.{All-weaker}
use Rattle.std.proofs.lemmas.Option.{get_or_from_slice_get, slice_get_within}
use Rattle.trace_file.specs.Calls.{value_of}
use Rattle.trace_file.specs.Ending.{each_ending, ending_at}
use Rattle.trace_file.specs.declared.act.Act.TheVariants.{Put}
use Rattle.trace_file.specs.declared.call.Call.{Call}
use Rattle.certificate_checker.specs.Deeds.{deed_of}
use Rattle.certificate_checker.specs.Latest.{Writes}
use Rattle.certificate_checker.specs.Orders.{Precedes, in_order}
use Rattle.certificate_checker.proofs.public_laws.Listing.{Member, all_member, member_all, member_map, place_of}
use Rattle.certificate_checker.proofs.public_laws.Lookups.{in_order_next}
use Rattle.certificate_finder.specs.declared.numbered_call.NumberedCall.{NumberedCall}
use Rattle.certificate_finder.specs.declared.warmed.Warmed.{Warmed}
use Rattle.certificate_finder.specs.Lists.{AreAllBelow}
use Rattle.trace_file.specs.Kinds.{IsWriting, kind_of}
use Rattle.certificate_finder.specs.Steps.{AreSteps}
use Rattle.certificate_finder.specs.Turns.{start_at}
use Rattle.certificate_finder.specs.Warming.{IsUnput, IsWarm, IsWarmed, PutsAt, warm_put, warm_puts}
use Rattle.certificate_finder.specs.WarmSteps.{IsWarmStep, ReadsUnput, turn_at}
use Rattle.certificate_finder.proofs.FindLemmas.{call_at, hit_at, put_at, step_at, write_of, writing_of}
use Rattle.certificate_finder.proofs.Listing.{all_at, all_from_at, same_at}

-- ---- turns

start_is : (history : List Call) (p : ℕ) (call : Call) → slice_get history p ≡ Some call → start_at history p ≡ call.start
start_is history p call at = ap (λ o. option_map_or (λ (c : Call). c.start) o 0) at

-- the call of the lesser turn starts first, or is the first of those that start at one stamp
by_turns : (start other_start p q : ℕ) → p < 2 ^ 31 → q < 2 ^ 31 → start * 4294967296 + p ≤ other_start * 4294967296 + q → (q ≡ p) ⊎ ((start < other_start) ⊎ ((start ≡ other_start) × (p < q)))
by_turns start other_start p q a b le = elim (cases_lt start other_start) [
  | inl less ↦ inr (inl less)
  | inr not ↦
      let same : start ≡ other_start = omega arith in
      elim (cases_eq q p) [
        | inl one ↦ inl one
        | inr apart ↦ inr (inr (same, omega arith))
      ]
]

to_turns : (start other_start p q : ℕ) → p < 2 ^ 31 → (start < other_start) ⊎ ((start ≡ other_start) × (p < q)) → start * 4294967296 + p ≤ other_start * 4294967296 + q
to_turns start other_start p q a before = elim before [
  | inl less ↦ omega arith
  | inr same ↦ let e = same.0 in let l = same.1 in omega arith
]

module _ (history : List Call) (steps : List NumberedCall) (are : AreSteps history steps) where
  -- ---- hits of values that nobody put

  step_unput : (p : ℕ) (s : NumberedCall) → slice_get steps p ≡ Some s → IsUnput history p → ReadsUnput steps s
  step_unput p s at_s is =
      let hit = are.each p is.call s is.at at_s in
      record {
        kind = hit.kind ∙ ap kind_of is.is;
        unput = λ q put at_q puts key value.
            let c = call_at history steps are q put at_q in
            let w = put_at history steps are q c.0 put c.2 puts in
            let alike = are.alike q p c.0 is.call put s c.1 is.at at_q at_s in
            let same : w.0 ≡ is.value = sym (ap value_of w.2) ∙ alike.values.0 value ∙ ap value_of is.is in
            all_at (λ other. ¬ PutsAt is.call.key is.value other) history q c.0 is.unput c.1 (record {
              one_key = alike.keys.0 key;
              expires = w.1;
              is = w.2 ∙ ap (λ v. Put v w.1) same;
            });
      }

  call_unput : (p : ℕ) (s : NumberedCall) → slice_get steps p ≡ Some s → ReadsUnput steps s → IsUnput history p
  call_unput p s at_s reads =
      let c = call_at history steps are p s at_s in
      let v = hit_at history steps are p c.0 s c.2 reads.kind in
      record {
        call = c.0;
        value = v.0;
        moment = v.1;
        at = c.1;
        is = v.2;
        unput = all_from_at (λ other. ¬ PutsAt c.0.key v.0 other) history (λ q other at_q puts.
            let o = step_at history steps are q other at_q in
            let alike = are.alike q p other c.0 o.0 s at_q c.1 o.1 at_s in
            reads.unput q o.0 o.1 (o.2.kind ∙ ap kind_of puts.is) (alike.keys.1 puts.one_key) (alike.values.1 (ap value_of puts.is ∙ sym (ap value_of v.2))));
      }

  -- ---- those that are the first ones of their keys

  module _ (few : length steps < 2 ^ 31) where
    warm_call : (p : ℕ) → IsWarmStep steps p → IsWarm history p
    warm_call p warm =
        let unput = call_unput p warm.step warm.at warm.unput in
        let hit = are.each p unput.call warm.step unput.at warm.at in
        let s = hit.start in
        record {
          unput = unput;
          unwritten = all_from_at (λ other. Writes (deed_of other) unput.call.key → ¬ Precedes other unput.call) history (λ q other at_q writes before.
              let o = step_at history steps are q other at_q in
              let alike = are.alike q p other unput.call o.0 warm.step at_q unput.at o.1 warm.at in
              let le = warm.unwritten q o.0 o.1 (subst IsWriting (sym o.2.kind) (writing_of other.act writes.1)) (alike.keys.1 writes.0) in
              let e = o.2.end in
              omega (arith, le, e, s, before));
          first = λ q is key.
              let o = step_at history steps are q is.call is.at in
              let alike = are.alike q p is.call unput.call o.0 warm.step is.at unput.at o.1 warm.at in
              let le = warm.first q o.0 o.1 (step_unput q o.0 o.1 is) (alike.keys.1 key) in
              let mine = start_is history p unput.call unput.at in
              let its = start_is history q is.call is.at in
              let within = slice_get_within steps p warm.step warm.at in
              let there = slice_get_within steps q o.0 o.1 in
              let e = o.2.start in
              by_turns (start_at history p) (start_at history q) p q (omega arith) (omega arith) (omega (arith, le, mine, its, e, s));
        }

    warm_step : (p : ℕ) → IsWarm history p → IsWarmStep steps p
    warm_step p warm =
        let s = step_at history steps are p warm.unput.call warm.unput.at in
        record {
          step = s.0;
          at = s.1;
          unput = step_unput p s.0 s.1 warm.unput;
          unwritten = λ q write at_q writes key. elim (cases_lt write.end s.0.start) [
            | inl less ↦
                let c = call_at history steps are q write at_q in
                let alike = are.alike q p c.0 warm.unput.call write s.0 c.1 warm.unput.at at_q s.1 in
                let a = c.2.end in
                let b = s.2.start in
                absurd (all_at (λ other. Writes (deed_of other) warm.unput.call.key → ¬ Precedes other warm.unput.call) history q c.0 warm.unwritten c.1 (alike.keys.0 key, write_of c.0.act (subst IsWriting c.2.kind writes)) (omega (arith, less, a, b)))
            | inr not ↦ omega arith
          ];
          first = λ q hit at_q reads key.
              let u = call_unput q hit at_q reads in
              let alike = are.alike q p u.call warm.unput.call hit s.0 u.at warm.unput.at at_q s.1 in
              let mine = start_is history p warm.unput.call warm.unput.at in
              let its = start_is history q u.call u.at in
              let e = (are.each q u.call hit u.at at_q).start in
              let b = s.2.start in
              let within = slice_get_within steps p s.0 s.1 in
              elim (warm.first q u (alike.keys.0 key)) [
                | inl same ↦ let one = same_at steps q p hit s.0 same at_q s.1 in subst (λ t. turn_at p s.0 ≤ turn_at q t) (sym one) (omega (arith, same))
                | inr before ↦ let le = to_turns (start_at history p) (start_at history q) p q (omega arith) before in omega (arith, le, mine, its, e, b)
              ];
        }

    pub warm_hits : (hits : List ℕ) → AreAllBelow (IsWarmStep steps) (length steps) hits → AreAllBelow (IsWarm history) (length history) hits
    warm_hits hits all = record {
      each = All-weaker (IsWarmStep steps) (IsWarm history) warm_call hits all.each;
      all = λ p less warm. let count = are.count in all.all p (omega arith) (warm_step p warm);
      rise = all.rise;
      below = subst (λ n. All (λ p. p < n) hits) are.count all.below;
    }

-- ---- the puts that are added

pub puts_next : (history : List Call) (hits : List ℕ) (index position : ℕ) (call : Call) → slice_get hits index ≡ Some position → slice_get history position ≡ Some call → warm_puts history (take (index + 1) hits) ≡ warm_puts history (take index hits) ++ warm_put call ∷ []
puts_next history hits index position call p c = ap (map warm_put) (in_order_next history hits index position call p c) ∙ map-append warm_put (in_order history (take index hits)) (call ∷ [])

-- calls that end at 0 are as they are with that end
zero_ends : (calls : List Call) (ends : List ℕ) → length ends ≡ length calls → ((call : Call) → Member call calls → call.end ≡ 0) → ((end : ℕ) → Member end ends → end ≡ 0) → each_ending calls ends ≡ calls
zero_ends [] [] count all none = refl
zero_ends [] (end ∷ ends) count all none = absurd (omega (arith, count))
zero_ends (call ∷ calls) [] count all none = absurd (omega (arith, count))
zero_ends (call ∷ calls) (end ∷ ends) count all none =
    let first : ending_at call end ≡ call = ap (ending_at call) (none end (inl refl) ∙ sym (all call (inl refl))) in
    let rest = zero_ends calls ends (omega (arith, count)) (λ c m. all c (inr m)) (λ e m. none e (inr m)) in
    ap (λ c. c ∷ each_ending calls ends) first ∙ ap (λ cs. call ∷ cs) rest

none_at : (count k end : ℕ) → slice_get (replicate count 0) k ≡ Some end → end ≡ 0
none_at count k end at =
    let within = slice_get_within (replicate {A = ℕ} count 0) k end at in
    let len : length (replicate {A = ℕ} count 0) ≡ count = length-replicate {A = ℕ} count 0 in
    sym (get_or_from_slice_get (replicate count 0) k end end at) ∙ get_or-replicate count k 0 end (omega arith)

pub ends_kept : (calls : List Call) (ends : List ℕ) (count : ℕ) → All (λ call. call.end ≡ 0) calls → count ≡ length calls → ends ≡ replicate count 0 → each_ending calls ends ≡ calls
ends_kept calls ends count all same is =
    zero_ends calls ends (ap length is ∙ length-replicate {A = ℕ} count 0 ∙ same) (λ call m. all_member (λ (c : Call). c.end ≡ 0) calls call all m) (λ end m.
    let place = place_of ends end m in
    none_at count place.0 end (ap (λ es. slice_get es place.0) (sym is) ∙ place.2))

-- the puts that are added end at 0
pub puts_end : (calls : List Call) → All (λ call. call.end ≡ 0) (map warm_put calls)
puts_end calls = member_all (λ call. call.end ≡ 0) (map warm_put calls) (λ call m. let found = member_map warm_put calls call m in ap (λ (c : Call). c.end) found.2)

-- ---- a warmed history

module _ (history : List Call) (steps lent : List NumberedCall) (are : AreSteps history steps) (same : lent ≡ steps) (few : length history ≤ 2147483647) where
  pub are_warm : (hits : List ℕ) → AreAllBelow (IsWarmStep lent) (length lent) hits → AreAllBelow (IsWarm history) (length history) hits
  are_warm hits all =
      let count = are.count in
      warm_hits history steps are (omega arith) hits (subst (λ l. AreAllBelow (IsWarmStep l) (length l) hits) same all)

pub is_warmed : (history : List Call) (warm : Warmed) (lent : List ℕ) (puts : List Call) → AreAllBelow (IsWarm history) (length history) warm.hits.items → lent ≡ warm.hits.items → puts ≡ warm_puts history lent → warm.history ≡ history ++ puts → IsWarmed history warm
is_warmed history warm lent puts hits same are calls = record {
  hits = hits;
  calls = calls ∙ ap (λ ps. history ++ ps) (are ∙ ap (warm_puts history) same);
}
