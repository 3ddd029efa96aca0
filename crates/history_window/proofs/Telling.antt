-- What is known of a key tells whether it is settled.
use Rattle.std.proofs.Common.{◌≡◌, ℕ, ◌+◌, ◌<◌, ◌&&◌, Bool, true, false, not, Some, List, length, refl, sym, ap, ◌∙◌, subst, arith, inl, inr}
use Rattle.std.specs.Prelude.{nat_lt, slice_get}
use Rattle.std.specs.Option.{option_map_or}
use Rattle.std.proofs.lemmas.Bool.{and_from, and_parts, cases_Bool, cases_lt, lt-ltb, ltb-true, not-true, not_from_false}
use Rattle.std.proofs.lemmas.Option.{same_Some, slice_get_within}
use Rattle.trace_file.specs.declared.act.Act.{Act}
use Rattle.trace_file.specs.declared.act.Act.TheVariants.{Remove}
use Rattle.trace_file.specs.declared.call.Call.{Call}
use Rattle.certificate_finder.specs.Lists.{AreAllBelow, GrowsIf}
use Rattle.certificate_finder.specs.Turns.{WritesAt, end_at}
use Rattle.history_window.specs.declared.key_state.KeyState.{KeyState}
use Rattle.history_window.specs.Acts.{is_reading}
use Rattle.history_window.specs.Knowing.{IsLastBy, SecondKnown}
use Rattle.history_window.specs.Settled.{IsLastWrite, IsSettled, IsSettledHit}
use Rattle.history_window.specs.States.{is_settled_by, settles}
use Rattle.history_window.proofs.ActLemmas.{all_below_if, reading_is}
use Rattle.history_window.proofs.CallLemmas.{end_is}

module _ (history : List Call) (bound : ℕ) (key : List ℕ) (state : KeyState) (known : SecondKnown history (length history) key state) where
  abbrev Lasts : ℕ → Type 0
  Lasts = IsLastBy history key state.start

  inside : (p : ℕ) → WritesAt history p key → p < length history
  inside p writes = slice_get_within history p writes.call writes.at

  -- last writes are those that end at the greatest start or later
  last_to : (p : ℕ) → Lasts p → IsLastWrite history key p
  last_to p last = record {
    writes = last.writes;
    last = λ other writes before.
        let most = known.start.most other (inside other writes) writes in
        let enough = last.enough in
        omega (arith, before, most, enough);
  }

  last_from : (p : ℕ) → IsLastWrite history key p → Lasts p
  last_from p last = record {
    writes = last.writes;
    enough = elim known.start.is [
      | inl zero' ↦ omega (arith, zero')
      | inr found ↦ elim (cases_lt (end_at history p) state.start) [
        | inl less ↦ let e = found.2 in absurd (last.last found.0 found.1 (omega (arith, less, e)))
        | inr enough ↦ enough
      ]
    ];
  }

  abbrev act_of : Act
  act_of = option_map_or (λ (c : Call). c.act) (slice_get history state.latest) Remove

  alike : state.unlike ≡ false → (p : ℕ) (last : IsLastWrite history key p) → last.writes.call.act ≡ act_of
  alike test p last =
      let one = last_from p last in
      let latest = known.latest (known.known.complete p (inside p one.writes) one) in
      let mine = same_Some last.writes.call one.writes.call (sym last.writes.at ∙ one.writes.at) in
      ap (λ (c : Call). c.act) mine
      ∙ known.same test p one latest (inside p one.writes)
      ∙ sym (ap (λ o. option_map_or (λ (c : Call). c.act) o Remove) latest.writes.at)

  pub settled_by : is_settled_by state bound ≡ true → IsSettled bound history key
  settled_by test =
      let both = and_parts (nat_lt state.end bound) (not state.unlike) test in
      let over = ltb-true state.end bound both.0 in
      record {
        act = act_of;
        ended = λ write writes. let most = known.end.most write (inside write writes) writes in omega (arith, most, over);
        alike = alike (not-true state.unlike both.1);
      }

  module _ (some_bound : 0 < bound) (is : IsSettled bound history key) where
    over : state.end < bound
    over = elim known.end.is [
      | inl zero' ↦ omega (arith, zero', some_bound)
      | inr found ↦ let ended = is.ended found.0 found.1 in let e = found.2 in omega (arith, ended, e)
    ]

    act_at : (p : ℕ) (by : Lasts p) → by.writes.call.act ≡ is.act
    act_at p by =
        let last = last_to p by in
        ap (λ (c : Call). c.act) (same_Some by.writes.call last.writes.call (sym by.writes.at ∙ last.writes.at)) ∙ is.alike p last

    not_unlike : state.unlike ≡ false
    not_unlike = elim (cases_Bool state.unlike) [
      | inl unlike ↦
          let pair = known.differ unlike in
          absurd (pair.apart (act_at pair.one pair.first ∙ sym (act_at pair.other pair.second)))
      | inr same ↦ same
    ]

    pub by_settled : is_settled_by state bound ≡ true
    by_settled = and_from (nat_lt state.end bound) (not state.unlike) (lt-ltb state.end bound over) (not_from_false state.unlike not_unlike)

-- ---- the calls that are listed

module _ (history : List Call) (bound : ℕ) (upto : ℕ) (call : Call) (at : slice_get history upto ≡ Some call) (state : KeyState) (known : SecondKnown history (length history) call.key state) where
  settled_hit : settles state bound call ≡ true → IsSettledHit bound history upto
  settled_hit test =
      let outer = and_parts (is_reading call.act) (nat_lt call.end bound && is_settled_by state bound) test in
      let inner = and_parts (nat_lt call.end bound) (is_settled_by state bound) outer.1 in
      let hit = reading_is call.act outer.0 in
      let till = end_is history upto call at in
      let less = ltb-true call.end bound inner.0 in
      record {
        key = call.key;
        value = hit.0;
        moment = hit.1;
        is = record { call = call; at = at; one_key = refl; is = hit.2 };
        over = omega (arith, till, less);
        settled = settled_by history bound call.key state known inner.1;
      }

  hit_settles : IsSettledHit bound history upto → settles state bound call ≡ true
  hit_settles hit =
      let mine = same_Some hit.is.call call (sym hit.is.at ∙ at) in
      let keys : hit.key ≡ call.key = sym hit.is.one_key ∙ ap (λ (c : Call). c.key) mine in
      let reads : is_reading call.act ≡ true = ap (λ (c : Call). is_reading c.act) (sym mine) ∙ ap is_reading hit.is.is in
      let till = end_is history upto call at in
      let over = hit.over in
      and_from (is_reading call.act) (nat_lt call.end bound && is_settled_by state bound) reads
      (and_from (nat_lt call.end bound) (is_settled_by state bound) (lt-ltb call.end bound (omega (arith, till, over)))
      (by_settled history bound call.key state known (omega (arith, till, over)) (subst (IsSettled bound history) keys hit.settled)))

  -- a call more is listed unless it is a settled hit
  pub unsettled_more : (old new : List ℕ) (test : Bool) → test ≡ settles state bound call → AreAllBelow (λ p. ¬ IsSettledHit bound history p) upto old → GrowsIf (not test) upto old new → AreAllBelow (λ p. ¬ IsSettledHit bound history p) (upto + 1) new
  unsettled_more old new test is had grows =
      all_below_if (λ p. ¬ IsSettledHit bound history p) (not test) upto old new had grows
      (λ stays hit. let goes : test ≡ true = is ∙ hit_settles hit in let both : true ≡ false = sym goes ∙ not-true test stays in cc)
      (λ left. elim (cases_Bool test) [
        | inl goes ↦ absurd (left (settled_hit (sym is ∙ goes)))
        | inr stays ↦ not_from_false test stays
      ])
