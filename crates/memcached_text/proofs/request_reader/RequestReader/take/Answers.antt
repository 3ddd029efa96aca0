use Rattle.std.proofs.Common.{◌+◌, ◌≤◌, ◌∙◌, ap, sym, subst, length, drop, arith}
use Rattle.std.proofs.lemmas.List.{length-drop}
use Rattle.memcached_text.specs.Limits.{GivesFlags}
use Rattle.memcached_text.specs.Steps.{Outcome, Told, outcome, event_shown, decided}
use Rattle.memcached_text.specs.StepsShown.{outcome_shown, passing_shown}
use Rattle.memcached_text.proofs.Lists.{rest_dropped}
use Rattle.memcached_text.proofs.StepBounds.{step_few}
use Rattle.memcached_text.proofs.StepFlags.{step_gives}
use Rattle.memcached_text.proofs.Streams.{steady, step_made, takes}
use Rattle.memcached_text.proofs.request_reader.RequestReader.take.Goals as goal

pub returns-clause-steady : goal.returns-clause-steady
returns-clause-steady c = λ more.
    let most = c.args.self.now.max_data_len in
    let bytes = c.args.bytes.now in
    let passed = c.pass-passed.result in
    let given = c.decide-given.result in
    let rest = rest_dropped bytes passed.count in
    let left = length-drop passed.count bytes in
    let within : given.taken ≤ length (drop passed.count bytes) = rw rest at c.decide-given.ensures.within in
    let front = c.pass-passed.ensures.within in
    steady most c.args.self.now.state bytes more (outcome (passed.count + given.taken) (event_shown given.event) given.state)
    (step_made most c.args.self.now.state bytes (passing_shown passed) (outcome_shown given) c.pass-passed.ensures.exact (c.decide-given.ensures.exact ∙ ap (decided most passed.state) rest))
    (omega (arith, within, left, front))

pub returns-clause-few : goal.returns-clause-few
returns-clause-few c = λ none.
    let most = c.args.self.now.max_data_len in
    let bytes = c.args.bytes.now in
    let passed = c.pass-passed.result in
    let given = c.decide-given.result in
    let rest = rest_dropped bytes passed.count in
    step_few most c.args.self.now.state bytes (outcome (passed.count + given.taken) (event_shown given.event) given.state)
    (step_made most c.args.self.now.state bytes (passing_shown passed) (outcome_shown given) c.pass-passed.ensures.exact (c.decide-given.ensures.exact ∙ ap (decided most passed.state) rest))
    none

pub returns-clause-some : goal.returns-clause-some
returns-clause-some c = λ some.
    let most = c.args.self.now.max_data_len in
    let bytes = c.args.bytes.now in
    let passed = c.pass-passed.result in
    let given = c.decide-given.result in
    let rest = rest_dropped bytes passed.count in
    takes most c.args.self.now.state bytes (outcome (passed.count + given.taken) (event_shown given.event) given.state)
    (step_made most c.args.self.now.state bytes (passing_shown passed) (outcome_shown given) c.pass-passed.ensures.exact (c.decide-given.ensures.exact ∙ ap (decided most passed.state) rest))
    some

pub returns-clause-flags : goal.returns-clause-flags
returns-clause-flags c =
    let most = c.args.self.now.max_data_len in
    let bytes = c.args.bytes.now in
    let passed = c.pass-passed.result in
    let given = c.decide-given.result in
    let rest = rest_dropped bytes passed.count in
    let made = step_made most c.args.self.now.state bytes (passing_shown passed) (outcome_shown given) c.pass-passed.ensures.exact (c.decide-given.ensures.exact ∙ ap (decided most passed.state) rest) in
    subst (λ (told : Told). GivesFlags told) (ap (λ (o : Outcome). o.told) (sym made)) (step_gives most c.args.self.now.state bytes)
