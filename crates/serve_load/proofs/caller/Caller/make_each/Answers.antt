-- One operation more, or the end.
use Rattle.std.proofs.Common.{◌≡◌, ◌∙◌, ◌+◌, ◌≤◌, ap, arith, refl, rules, subst, sym}
use Rattle.load.specs.Served.{served_next_of}
use Rattle.serve_load.specs.Calls.{Does, IsAt, IsEnded, standing}
use Rattle.serve_load.specs.declared.caller_stop.CallerStop.TheVariants.{AllMade, Wrong}
use Rattle.serve_load.specs.declared.words.CallEnd.TheVariants.{WrongHit}
use Rattle.serve_load.specs.Looking.{FindsAll, IsFound}
use Rattle.serve_load.specs.Objects.{key_of, moment_of}
use Rattle.serve_load.proofs.Making.{ended_right, ended_wrong, few_refusals, found_by, one_more, right_is, stops_of_cache, stops_right, stops_timed, wrong_is}
use Rattle.serve_load.proofs.caller.Caller.make_each.Goals as goal

pub returns-in-Some-clause-ended : goal.returns-in-Some-clause-ended
returns-in-Some-clause-ended g c =
    let i = c.loop-number.invariant in
    ended_right c.args.shared.now.load.now c.args.self.number c.args.self.generator c.loop-number.number c.loop-number.refused (standing c.args.self.words.items c.args.self.seat) (standing c.loop-number.self.words.items c.loop-number.self.seat) c.loop-number.self.generator i.2 c.in-Some.stop (stops_right c.args.shared.now.load.now c.loop-number.number c.in-Some.stop c.loop-number.limit c.stop_of.new.limit i.5 c.in-Some.ensures.stopped) (omega (arith, c.loop-number-test.true))

pub returns-in-Some-clause-found : goal.returns-in-Some-clause-found
returns-in-Some-clause-found g c =
    stops_of_cache g.L.KeyLanes.is_honest g.L.KeyLanes.lane_of c.args.shared.now.load.now c.args.self.number c.in-Some.stop c.loop-number.limit c.stop_of.new.limit c.in-Some.ensures.stopped

pub returns-in-Some-clause-timed : goal.returns-in-Some-clause-timed
returns-in-Some-clause-timed g c =
    let i = c.loop-number.invariant in
    stops_timed c.loop-number.number c.in-Some.stop c.loop-number.limit c.stop_of.new.limit i.3 i.4 c.in-Some.ensures.stopped

pub returns-in-Some-wrong-clause-ended : goal.returns-in-Some-wrong-clause-ended
returns-in-Some-wrong-clause-ended g c =
    let i = c.loop-number.invariant in
    let e = c.make_next-step.ensures in
    let step = wrong_is c.make_next-step.result c.in-Some-wrong.known (sym c.wrong.ensures ∙ c.in-Some-wrong.is) in
    subst (λ who. IsEnded c.args.shared.now.load.now c.args.self.number c.args.self.generator (standing c.args.self.words.items c.args.self.seat) (record { operations = c.loop-number.number + 1; refused = c.loop-number.refused; stop = Wrong (record { caller = who; operation = c.loop-number.number; known = c.in-Some-wrong.known; found = c.make_next-step.new.found }) })) (sym (e.number ∙ i.0)) (ended_wrong c.args.shared.now.load.now c.args.self.number c.args.self.generator c.loop-number.number c.loop-number.refused (standing c.args.self.words.items c.args.self.seat) (standing c.loop-number.self.words.items c.loop-number.self.seat) c.loop-number.self.generator i.2 g.L.KeyLanes.is_honest g.L.KeyLanes.lane_of c.in-Some-wrong.known c.make_next-step.new.found c.make_next-step.new.self.seat (standing c.make_next-step.new.self.words.items c.make_next-step.new.self.seat) (subst (λ w. Does c.args.shared.now.load.now w (served_next_of c.args.shared.now.load.now c.loop-number.self.generator) c.loop-number.number (WrongHit c.in-Some-wrong.known) (standing c.loop-number.self.words.items c.loop-number.self.seat) (standing c.make_next-step.new.self.words.items c.make_next-step.new.self.seat)) i.0 (subst (λ s. Does c.args.shared.now.load.now c.loop-number.self.number (served_next_of c.args.shared.now.load.now c.loop-number.self.generator) c.loop-number.number s (standing c.loop-number.self.words.items c.loop-number.self.seat) (standing c.make_next-step.new.self.words.items c.make_next-step.new.self.seat)) step e.does)) (subst (λ w. FindsAll g.L.KeyLanes.is_honest g.L.KeyLanes.lane_of c.args.shared.now.load.now w (served_next_of c.args.shared.now.load.now c.loop-number.self.generator) c.loop-number.self.words.items c.loop-number.number c.make_next-step.new.self.seat c.make_next-step.new.found (WrongHit c.in-Some-wrong.known)) i.0 (subst (λ s. FindsAll g.L.KeyLanes.is_honest g.L.KeyLanes.lane_of c.args.shared.now.load.now c.loop-number.self.number (served_next_of c.args.shared.now.load.now c.loop-number.self.generator) c.loop-number.self.words.items c.loop-number.number c.make_next-step.new.self.seat c.make_next-step.new.found s) step e.finds)) c.loop-number-test.true)

pub returns-in-Some-wrong-clause-found : goal.returns-in-Some-wrong-clause-found
returns-in-Some-wrong-clause-found g c =
    let i = c.loop-number.invariant in
    let e = c.make_next-step.ensures in
    let step = wrong_is c.make_next-step.result c.in-Some-wrong.known (sym c.wrong.ensures ∙ c.in-Some-wrong.is) in (
      c.make_next-step.new.self.seat,
      subst (λ w. IsFound g.L.KeyLanes.is_honest g.L.KeyLanes.lane_of c.make_next-step.new.self.seat (key_of w c.in-Some-wrong.known.key) (moment_of c.args.shared.now.load.now c.loop-number.number) c.make_next-step.new.found) i.0 (found_by g.L.KeyLanes.is_honest g.L.KeyLanes.lane_of c.args.shared.now.load.now c.loop-number.self.number c.loop-number.number (served_next_of c.args.shared.now.load.now c.loop-number.self.generator) c.loop-number.self.words.items c.make_next-step.new.self.seat c.make_next-step.new.found c.in-Some-wrong.known (standing c.loop-number.self.words.items c.loop-number.self.seat) (standing c.make_next-step.new.self.words.items c.make_next-step.new.self.seat) (subst (λ s. Does c.args.shared.now.load.now c.loop-number.self.number (served_next_of c.args.shared.now.load.now c.loop-number.self.generator) c.loop-number.number s (standing c.loop-number.self.words.items c.loop-number.self.seat) (standing c.make_next-step.new.self.words.items c.make_next-step.new.self.seat)) step e.does) (subst (λ s. FindsAll g.L.KeyLanes.is_honest g.L.KeyLanes.lane_of c.args.shared.now.load.now c.loop-number.self.number (served_next_of c.args.shared.now.load.now c.loop-number.self.generator) c.loop-number.self.words.items c.loop-number.number c.make_next-step.new.self.seat c.make_next-step.new.found s) step e.finds)),
    )

pub overflow_add-refused : goal.overflow_add-refused
overflow_add-refused g c =
    let few = c.loop-number.invariant.2.few in
    let one = few_refusals c.make_next-step.result in
    let is = c.refusals-refused.ensures in
    let less = c.loop-number-test.true in
    search (rules, few, one, is, less)

pub loop-number-preserved : goal.loop-number-preserved
loop-number-preserved g c =
    let i = c.loop-number.invariant in
    let e = c.make_next-step.ensures in
    let on = c.in_default.ensures.goes_on refl in
    let right = right_is c.make_next-step.result (sym c.wrong.ensures ∙ c.in_default-wrong.is) in (
      e.number ∙ i.0,
      e.keys,
      subst (λ n. IsAt c.args.shared.now.load.now c.args.self.number c.args.self.generator (c.loop-number.number + 1) (c.loop-number.refused + n) (standing c.args.self.words.items c.args.self.seat) (standing c.make_next-step.new.self.words.items c.make_next-step.new.self.seat) c.make_next-step.new.self.generator) (sym c.refusals-refused.ensures) (one_more c.args.shared.now.load.now c.args.self.number c.args.self.generator c.loop-number.number c.loop-number.refused (standing c.args.self.words.items c.args.self.seat) (standing c.loop-number.self.words.items c.loop-number.self.seat) c.loop-number.self.generator i.2 c.loop-number.self.number c.make_next-step.result (standing c.make_next-step.new.self.words.items c.make_next-step.new.self.seat) c.make_next-step.new.self.generator i.0 right e.does e.generator),
      on.left ∙ ap (λ n. n + 1) i.3,
      on.unended,
      on.seconds ∙ i.5,
    )

pub returns-clause-ended : goal.returns-clause-ended
returns-clause-ended g c =
    let i = c.loop-number.invariant in
    let all : c.loop-number.number ≡ c.args.shared.now.load.now.operations = omega (arith, c.loop-number-test.false, c.loop-number.auto.number-end) in
    subst (λ n. IsEnded c.args.shared.now.load.now c.args.self.number c.args.self.generator (standing c.args.self.words.items c.args.self.seat) (record { operations = n; refused = c.loop-number.refused; stop = AllMade })) all (ended_right c.args.shared.now.load.now c.args.self.number c.args.self.generator c.loop-number.number c.loop-number.refused (standing c.args.self.words.items c.args.self.seat) (standing c.loop-number.self.words.items c.loop-number.self.seat) c.loop-number.self.generator i.2 AllMade all c.loop-number.auto.number-end)
