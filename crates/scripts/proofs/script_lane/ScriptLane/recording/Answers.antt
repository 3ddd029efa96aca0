-- One call more, and what the whole says.
use Rattle.std.proofs.Common.{◌≡◌, length, take, map, refl, sym, ap, ◌∙◌, subst, arith}
use Rattle.std.specs.List.{range_with_len}
use Rattle.std.proofs.lemmas.List.{length-map}
use Rattle.std.proofs.lemmas.List.FromFn.{length-range_with_len}
use Rattle.std.proofs.Math.Seq.{take-length}
use Rattle.certificate_checker.specs.Acceptance.{IsAccepted}
use Rattle.recorded_lane.specs.Points.{noted_shown}
use Rattle.scripts.specs.Own.{IsOfScript, ended, own_history}
use Rattle.scripts.proofs.OwnHistory.{next_history, next_certificate, accepted}
use Rattle.scripts.proofs.script_lane.ScriptLane.recording.Goals as goal

pub loop-position-preserved : goal.loop-position-preserved
loop-position-preserved g c =
    let more = next_history c.deref-lane.result.now.calls c.loop-position.position (noted_shown c.at.result) c.at.ensures.call in
    let further = next_certificate c.loop-position.position in
    record {
      calls = rw (c.in_ok-push_ref.ensures.ok, c.loop-position.invariant.calls, c.with_end.ensures.call) more;
      places = rw (c.in_ok-push.ensures.ok, c.loop-position.invariant.places) further;
    }

pub returns-clause-accepted : goal.returns-clause-accepted
returns-clause-accepted g c =
    let calls = c.deref-lane.result.now.calls in
    let all : c.loop-position.position ≡ length calls = omega (arith, c.len-position-end.ensures.count) in
    let history = c.loop-position.invariant.calls ∙ ap (map ended) (ap (λ n. take n calls) all ∙ take-length calls) in
    let certificate = c.loop-position.invariant.places ∙ ap (range_with_len 0) all in
    subst (λ h. IsAccepted h c.loop-position.certificate) (sym history) (subst (λ p. IsAccepted (own_history calls) p) (sym certificate) (accepted c.accepted_in_turn.ensures calls (c.len-position-end.ensures.recorded.lawful refl) (subst IsOfScript (sym c.deref-lane.ensures) c.self.invariant).stamps))

pub returns-clause-as_many : goal.returns-clause-as_many
returns-clause-as_many g c =
    let calls = c.deref-lane.result.now.calls in
    let all : c.loop-position.position ≡ length calls = omega (arith, c.len-position-end.ensures.count) in
    let history = c.loop-position.invariant.calls ∙ ap (map ended) (ap (λ n. take n calls) all ∙ take-length calls) in
    let certificate = c.loop-position.invariant.places ∙ ap (range_with_len 0) all in
    ap length certificate ∙ length-range_with_len 0 (length calls) ∙ sym (ap length history ∙ length-map calls ended)
