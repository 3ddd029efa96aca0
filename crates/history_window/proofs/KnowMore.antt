-- Whether the last writes of a key did the same, call by call.
use Rattle.std.proofs.Common.{◌≡◌, ℕ, ◌+◌, ◌<◌, ◌≤◌, ◌||◌, true, false, not, cond, Some, List, length, refl, sym, ap, ◌∙◌, subst, arith, inl, inr}
use Rattle.std.specs.Prelude.{slice_get, nat_lt}
use Rattle.std.specs.Option.{option_map_or}
use Rattle.std.proofs.lemmas.Bool.{and_cases, and_parts, cases_Bool, cases_eq, ltb-false, ltb-true, not-true, not_from_false, or_cases, or_parts}
use Rattle.std.proofs.lemmas.Option.{same_Some}
use Rattle.trace_file.specs.declared.call.Call.{Call}
use Rattle.certificate_finder.specs.Turns.{WritesAt}
use Rattle.history_window.specs.declared.key_state.KeyState.{KeyState}
use Rattle.history_window.specs.Knowing.{Differ, FirstKnown, IsLastBy, SecondKnown}
use Rattle.history_window.specs.States.{Changes, acts_match, after_second, unlike_by}
use Rattle.history_window.specs.Acts.{is_writing}
use Rattle.history_window.proofs.CallLemmas.{end_is}
use Rattle.history_window.proofs.KnowLemmas.{flag_kept, flag_more, is_match, match_is, step_all, writes_here, writes_not}

pub second_begins : (history : List Call) (key : List ℕ) (state : KeyState) → FirstKnown history (length history) key state → SecondKnown history 0 key state
second_begins history key state first = subst (SecondKnown history 0 key) (sym first.rest) (record {
  start = first.start;
  end = first.end;
  known = record { sound = λ e. cc; complete = λ p less want. absurd (omega (arith, less)) };
  latest = λ e. cc;
  differ = λ e. cc;
  same = λ e p one other less. absurd (omega (arith, less));
})

-- what is not a last write changes nothing
second_kept : (history : List Call) (upto : ℕ) (key : List ℕ) (state : KeyState) → SecondKnown history upto key state → ¬ IsLastBy history key state.start upto → SecondKnown history (upto + 1) key state
second_kept history upto key state past none = record {
  start = past.start;
  end = past.end;
  known = flag_kept (IsLastBy history key state.start) upto state.known past.known none;
  latest = past.latest;
  differ = past.differ;
  same = λ e p one other under. elim (cases_eq p upto) [
    | inl equal ↦ absurd (none (subst (IsLastBy history key state.start) equal one))
    | inr apart ↦ past.same e p one other (omega (arith, under, apart))
  ];
}

module _ (history : List Call) (upto : ℕ) (call : Call) (at : slice_get history upto ≡ Some call) (state : KeyState) (past : SecondKnown history upto call.key state) (test : is_writing call.act ≡ true) where
  abbrev Lasts : ℕ → Type 0
  Lasts = IsLastBy history call.key state.start

  here : WritesAt history upto call.key
  here = writes_here history upto call at test

  module _ (enough : state.start ≤ call.end) where
    last_here : Lasts upto
    last_here = record { writes = here; enough = (let till = end_is history upto call at in omega (arith, till, enough)) }

    -- what the latest one did, if a test says that it is unlike, and if it does not
    unlike_is : unlike_by history state call ≡ true → Differ history call.key state.start
    unlike_is h =
        let both = and_parts state.known (option_map_or (λ (latest : Call). not (acts_match latest.act call.act)) (slice_get history state.latest) false) h in
        let latest = past.latest both.0 in
        let no' : not (acts_match latest.writes.call.act call.act) ≡ true = sym (ap (λ o. option_map_or (λ (c : Call). not (acts_match c.act call.act)) o false) latest.writes.at) ∙ both.1 in
        let apart : acts_match latest.writes.call.act call.act ≡ false = not-true (acts_match latest.writes.call.act call.act) no' in
        record {
          one = state.latest;
          other = upto;
          first = latest;
          second = last_here;
          apart = λ same.
              let mine = same_Some last_here.writes.call call (sym last_here.writes.at ∙ at) in
              let acts : latest.writes.call.act ≡ call.act = same ∙ ap (λ (c : Call). c.act) mine in
              let yes' : acts_match latest.writes.call.act call.act ≡ true = ap (λ a. acts_match a call.act) acts ∙ is_match call.act test in
              let both' : true ≡ false = sym yes' ∙ apart in
              cc;
        }

    alike_is : unlike_by history state call ≡ false → (latest : Lasts state.latest) → state.known ≡ true → latest.writes.call.act ≡ call.act
    alike_is h latest known =
        elim (and_cases state.known (option_map_or (λ (c : Call). not (acts_match c.act call.act)) (slice_get history state.latest) false) h) [
          | inl no' ↦ absurd (let both : true ≡ false = sym known ∙ no' in cc)
          | inr no' ↦
              let match : not (acts_match latest.writes.call.act call.act) ≡ false = sym (ap (λ o. option_map_or (λ (c : Call). not (acts_match c.act call.act)) o false) latest.writes.at) ∙ no' in
              match_is latest.writes.call.act call.act (elim (cases_Bool (acts_match latest.writes.call.act call.act)) [
                | inl yes' ↦ yes'
                | inr fails ↦ absurd (let other = not_from_false (acts_match latest.writes.call.act call.act) fails in let both : true ≡ false = sym other ∙ match in cc)
              ])
        ]

    -- a write that no other one follows
    second_last : SecondKnown history (upto + 1) call.key (record state { known = true; latest = upto; unlike = state.unlike || unlike_by history state call })
    second_last = record {
      start = past.start;
      end = past.end;
      known = flag_more Lasts upto last_here;
      latest = λ e. last_here;
      differ = λ e. elim (or_cases state.unlike (unlike_by history state call) e) [ inl old ↦ past.differ old | inr new ↦ unlike_is new ];
      same = λ e p one other under.
          let both = or_parts state.unlike (unlike_by history state call) e in
          let mine : other.writes.call ≡ call = same_Some other.writes.call call (sym other.writes.at ∙ at) in
          let acts = ap (λ (c : Call). c.act) mine in
          elim (cases_eq p upto) [
            | inl equal ↦ ap (λ (c : Call). c.act) (same_Some one.writes.call call (sym one.writes.at ∙ ap (slice_get history) equal ∙ at)) ∙ sym acts
            | inr apart ↦
                let below : p < upto = omega (arith, under, apart) in
                let known = past.known.complete p below one in
                let latest = past.latest known in
                past.same both.0 p one latest below ∙ alike_is both.1 latest known ∙ sym acts
          ];
    }

  pub second_here : SecondKnown history (upto + 1) call.key (after_second state upto call (unlike_by history state call))
  second_here = elim (nat_lt call.end state.start) as (λ b. nat_lt call.end state.start ≡ b → SecondKnown history (upto + 1) call.key (cond b state (record state { known = true; latest = upto; unlike = state.unlike || unlike_by history state call }))) [
    | true ↦
        λ e.
        let less = ltb-true call.end state.start e in
        second_kept history upto call.key state past (λ last. let enough = last.enough in let till = end_is history upto call at in omega (arith, enough, till, less))
    | false ↦ λ e. second_last (ltb-false call.end state.start e)
  ] refl

pub second_next : (history : List Call) (upto : ℕ) (call : Call) → slice_get history upto ≡ Some call → (old new : List ℕ → KeyState) → ((key : List ℕ) → SecondKnown history upto key (old key)) → Changes (is_writing call.act) call (after_second (old call.key) upto call (unlike_by history (old call.key) call)) old new → (key : List ℕ) → SecondKnown history (upto + 1) key (new key)
second_next history upto call at old new had change =
    step_all (SecondKnown history) upto (is_writing call.act) call (after_second (old call.key) upto call (unlike_by history (old call.key) call)) old new change
    (λ test. second_here history upto call at (old call.key) (had call.key) test)
    (λ key no'. second_kept history upto key (old key) (had key) (λ last. writes_not history upto call at key no' last.writes))
