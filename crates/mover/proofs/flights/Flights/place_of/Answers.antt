use Rattle.std.proofs.Common.{◌≡◌, ◌≢◌, ◌<◌, ◌≤◌, All, List, length, Some, None, slice_get, sym, ap, subst, ◌∙◌, arith}
use Rattle.std.proofs.lemmas.List.{take_all}
use Rattle.std.proofs.lemmas.List.Elements.{All-more}
use Rattle.std.proofs.lemmas.Option.{slice_get-get_or}
use Rattle.mover.specs.Flight.{Flight, flight_of}
use Rattle.mover.proofs.public_laws.FlightLists.{none_found, found_here}
use Rattle.mover.proofs.flights.Flights.place_of.Goals as goal

pub returns-then-index-number-clause-found : goal.returns-then-index-number-clause-found
returns-then-index-number-clause-found c =
    let v = c.self.inside.flights in
    let n = c.args.number in
    let at = c.loop-at.at in
    let f : Flight = c.index.result.now in
    let lt : at < length v.items = omega (arith, c.loop-at-test.true, c.len-at-end.ensures, v.ok.0) in
    let here : slice_get v.items at ≡ Some f = slice_get-get_or v.items at f lt ∙ ap Some (sym c.index.ensures) in
    subst (λ (fs : List Flight). flight_of n fs ≡ slice_get fs at) c.self.view_is (found_here n v.items at f c.loop-at.invariant here c.if-index-number.true ∙ sym here)

pub loop-at-preserved : goal.loop-at-preserved
loop-at-preserved c =
    let v = c.self.inside.flights in
    let n = c.args.number in
    let at = c.loop-at.at in
    let f : Flight = c.index.result.now in
    let lt : at < length v.items = omega (arith, c.loop-at-test.true, c.len-at-end.ensures, v.ok.0) in
    All-more (λ (g : Flight). g.moving.number ≢ n) v.items at f lt c.loop-at.invariant (λ is. c.if-index-number.false (ap (λ (g : Flight). g.moving.number) c.index.ensures ∙ is))

pub returns-clause-missed : goal.returns-clause-missed
returns-clause-missed c =
    let v = c.self.inside.flights in
    let n = c.args.number in
    let le : length v.items ≤ c.loop-at.at = omega (arith, c.loop-at-test.false, c.len-at-end.ensures, v.ok.0) in
    let all : All (λ (g : Flight). g.moving.number ≢ n) v.items = subst (All (λ (g : Flight). g.moving.number ≢ n)) (take_all c.loop-at.at v.items le) c.loop-at.invariant in
    subst (λ (fs : List Flight). flight_of n fs ≡ None) c.self.view_is (none_found n v.items all)
