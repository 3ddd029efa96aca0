-- From the events that were played on lanes that were just opened.
use Rattle.std.proofs.Common.{◌≤◌, ap, sym, ◌∙◌, subst, length, arith}
use Rattle.std.specs.Prelude.{All}
use Rattle.std.specs.List.{flat_map}
use Rattle.certificate_checker.specs.Lanes.{calls_of, PointsRise, IsLaidOut}
use Rattle.history_recorder.specs.Books.{Books, dones}
use Rattle.history_recorder.specs.Game.{unboxed, layout_in, honest_in, state_in}
use Rattle.history_recorder.proofs.Ended.{ends_rise, ends_few}
use Rattle.history_recorder.proofs.WorldsOpened.{opened_game, run_opened, accepted_opened}
use Rattle.history_recorder.proofs.playing.play.Goals as goal

pub lay_out-requires-clause-rise : goal.lay_out-requires-clause-rise
lay_out-requires-clause-rise g c =
    subst (All PointsRise) (sym c.in_ok-dones.ensures) (subst (λ (b : Books). All PointsRise (dones b)) (sym c.into_books.ensures) (ends_rise layout_in (λ l. l.lane) (honest_in g.D.PageDevice.honest) (λ l. l.calls) (state_in g.D.PageDevice.held) c.new-game.result.layout c.run.new.self.ledger (unboxed c.run.new.self.lanes.items) c.in_ok-replies.ensures.played.kept))

pub lay_out-requires-clause-few : goal.lay_out-requires-clause-few
lay_out-requires-clause-few g c =
    subst (λ ds. length (flat_map calls_of ds) ≤ 268435456) (sym (c.in_ok-dones.ensures ∙ ap dones c.into_books.ensures)) (ends_few layout_in (λ l. l.lane) (honest_in g.D.PageDevice.honest) (λ l. l.calls) (state_in g.D.PageDevice.held) c.new-game.result.layout c.run.new.self.ledger (unboxed c.run.new.self.lanes.items) c.in_ok-replies.ensures.played.kept c.new-game.result.layout.lanes_range.1)

pub run-requires : goal.run-requires
run-requires g c =
    let opening = opened_game g.D.PageDevice.honest g.D.PageDevice.held c.world.inside.layout (unboxed c.world.inside.lanes.items) c.world.invariant c.world.inside.callers in
    let books = c.new-game.ensures.ledger ∙ c.in_ok-ledger.ensures in
    let none = ap (λ (b : Books). b.number) books in
    (omega arith, (omega (arith, none), rw (c.new-game.ensures.layout, books, c.new-game.ensures.lanes) opening))

pub returns-clause-run : goal.returns-clause-run
returns-clause-run g c =
    run_opened g.D.PageDevice.honest g.D.PageDevice.held c.args.world c.world.inside.layout c.world.inside.callers c.world.inside.lanes.items c.new-game.result.lanes.items c.world.view_is c.new-game.ensures.lanes g.row.PAGE c.new-game.result.layout c.new-game.result.ledger c.args.events.now c.in_ok-replies.replies _ c.world.invariant c.new-game.ensures.layout (c.new-game.ensures.ledger ∙ c.in_ok-ledger.ensures) c.in_ok-replies.ensures.played.run

-- by the law of runs
pub returns-clause-accepted : goal.returns-clause-accepted
returns-clause-accepted g c = λ honest.
    accepted_opened g.D.PageDevice.honest g.D.PageDevice.held c.args.world c.world.inside.layout c.world.inside.callers c.world.inside.lanes.items c.new-game.result.lanes.items c.world.view_is c.new-game.ensures.lanes g.row.PAGE c.new-game.result.layout c.new-game.result.ledger c.run.new.self.ledger c.args.events.now c.in_ok-replies.replies c.in_ok-history.history c.in_ok-history.certificate c.world.invariant c.new-game.ensures.layout (c.new-game.ensures.ledger ∙ c.in_ok-ledger.ensures) (returns-clause-run g c honest) c.in_ok-replies.ensures.played.booked
    (subst (λ ds. IsLaidOut ds c.in_ok-history.history c.in_ok-history.certificate) (c.in_ok-dones.ensures ∙ ap dones c.into_books.ensures) c.in_ok-history.ensures.laid_out)
