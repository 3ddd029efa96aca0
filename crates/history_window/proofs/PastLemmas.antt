-- Recent hits, and all other calls, call by call.
use Rattle.std.proofs.Common.{◌≡◌, ℕ, ◌+◌, ◌<◌, ◌&&◌, Bool, true, false, not, Some, List, length, refl, sym, ap, ◌∙◌, arith, inl, inr, ◌⊎◌}
use Rattle.std.specs.Prelude.{nat_le, slice_get}
use Rattle.std.proofs.lemmas.Bool.{and_from, and_parts, cases_Bool, le-leb, leb-true, not-true, not_from_false}
use Rattle.std.proofs.lemmas.Option.{same_Some}
use Rattle.trace_file.specs.declared.call.Call.{Call}
use Rattle.certificate_checker.proofs.public_laws.Accepting.{found_at}
use Rattle.certificate_finder.specs.Lists.{AreAllBelow, GrowsIf}
use Rattle.history_window.specs.Acts.{is_reading}
use Rattle.history_window.specs.Streams.{IsRecent}
use Rattle.history_window.proofs.ActLemmas.{all_below_if, reading_is}
use Rattle.history_window.proofs.CallLemmas.{end_is}

-- ---- one call more

module _ (bound : ℕ) (history : List Call) (i : ℕ) (call : Call) (at : slice_get history i ≡ Some call) where
  pub recent_passes : IsRecent bound history i → (is_reading call.act && nat_le bound call.end) ≡ true
  recent_passes recent =
      let mine = same_Some recent.is.call call (sym recent.is.at ∙ at) in
      let till = end_is history i call at in
      let late = recent.late in
      and_from (is_reading call.act) (nat_le bound call.end) (ap is_reading (ap (λ (c : Call). c.act) (sym mine) ∙ recent.is.is)) (le-leb bound call.end (omega (arith, late, till)))

  pub passes_recent : (is_reading call.act && nat_le bound call.end) ≡ true → IsRecent bound history i
  passes_recent test =
      let both = and_parts (is_reading call.act) (nat_le bound call.end) test in
      let reads = reading_is call.act both.0 in
      let beyond = leb-true bound call.end both.1 in
      let till = end_is history i call at in
      record { key = call.key; value = reads.0; moment = reads.1; is = record { call = call; at = at; one_key = refl; is = reads.2 }; late = omega (arith, beyond, till) }

  pub past_more : (old new : List ℕ) (test : Bool) → test ≡ (is_reading call.act && nat_le bound call.end) → AreAllBelow (λ p. ¬ IsRecent bound history p) i old → GrowsIf (not test) i old new → AreAllBelow (λ p. ¬ IsRecent bound history p) (i + 1) new
  past_more old new test is had grows =
      all_below_if (λ p. ¬ IsRecent bound history p) (not test) i old new had grows
      (λ stays recent. let goes : test ≡ true = is ∙ recent_passes recent in let both : true ≡ false = sym goes ∙ not-true test stays in cc)
      (λ left. elim (cases_Bool test) [
        | inl goes ↦ absurd (left (passes_recent (sym is ∙ goes)))
        | inr stays ↦ not_from_false test stays
      ])

  pub recent_more : (old new : List ℕ) (test : Bool) → test ≡ (is_reading call.act && nat_le bound call.end) → AreAllBelow (IsRecent bound history) i old → GrowsIf test i old new → AreAllBelow (IsRecent bound history) (i + 1) new
  recent_more old new test is had grows =
      all_below_if (IsRecent bound history) test i old new had grows
      (λ goes. passes_recent (sym is ∙ goes))
      (λ recent. is ∙ recent_passes recent)

-- a call is a recent hit or it is none
pub recent_or_not : (bound : ℕ) (history : List Call) (i : ℕ) → i < length history → IsRecent bound history i ⊎ ¬ IsRecent bound history i
recent_or_not bound history i less =
    let call = found_at history i less in
    elim (cases_Bool (is_reading call.0.act && nat_le bound call.0.end)) [
      | inl test ↦ inl (passes_recent bound history i call.0 call.1 test)
      | inr test ↦ inr (λ recent. let both : true ≡ false = sym (recent_passes bound history i call.0 call.1 recent) ∙ test in cc)
    ]
