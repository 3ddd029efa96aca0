-- A begin and an end.
use Rattle.std.proofs.Common.{◌≡◌, map, sym, ap, ◌∙◌, subst}
use Rattle.history_recorder.specs.declared.event.Event.{Event}
use Rattle.history_recorder.specs.declared.event.Event.TheVariants as events
use Rattle.history_recorder.specs.Game.{Plays, unboxed}
use Rattle.history_recorder.proofs.Booking.{begin_records, end_records}
use Rattle.history_recorder.proofs.EventsPlayed.{still_plays, begin_steps, end_steps}
use Rattle.history_recorder.proofs.game.Game.step.Goals as goal

pub returns-in_ok-copy-in-Begin : goal.returns-in_ok-copy-in-Begin
returns-in_ok-copy-in-Begin g c =
    let old = c.args.self.now in
    let lanes = unboxed old.lanes.items in
    let copy = c.in_ok-copy-in-Begin.copy in
    let same : events.Begin c.in-Begin.caller copy ≡ c.args.event.now = ap (events.Begin c.in-Begin.caller) c.in_ok-copy-in-Begin.ensures ∙ sym c.in-Begin.is in
    let plays = still_plays g.L.PlayedLane.layout g.L.PlayedLane.lane g.L.PlayedLane.honest g.L.PlayedLane.calls g.L.PlayedLane.state g.row.PAGE old.layout old.ledger lanes c.requires.kept (events.Begin c.in-Begin.caller copy) c.begin.result c.begin.new.self (c.begin.ensures.replied old.layout g.row.PAGE) (c.begin.ensures.after old.layout) (begin_records old.layout old.ledger c.in-Begin.caller copy c.begin.result) (begin_steps g.row.PAGE old.layout old.ledger c.in-Begin.caller copy c.begin.result (map g.L.PlayedLane.state lanes)) in
    record { happens = subst (λ (e : Event). Plays g.L.PlayedLane.layout g.L.PlayedLane.lane g.L.PlayedLane.honest g.L.PlayedLane.calls g.L.PlayedLane.state g.row.PAGE old.layout old.ledger lanes e c.begin.result old.layout c.begin.new.self lanes) same plays }

pub returns-in-End : goal.returns-in-End
returns-in-End g c =
    let old = c.args.self.now in
    let lanes = unboxed old.lanes.items in
    let plays = still_plays g.L.PlayedLane.layout g.L.PlayedLane.lane g.L.PlayedLane.honest g.L.PlayedLane.calls g.L.PlayedLane.state g.row.PAGE old.layout old.ledger lanes c.requires.kept (events.End c.in-End.caller) c.end.result c.end.new.self (c.end.ensures.replied old.layout g.row.PAGE) (c.end.ensures.after old.layout) (end_records old.layout old.ledger c.in-End.caller c.end.result) (end_steps g.row.PAGE old.layout old.ledger c.in-End.caller c.end.result (map g.L.PlayedLane.state lanes)) in
    record { happens = subst (λ (e : Event). Plays g.L.PlayedLane.layout g.L.PlayedLane.lane g.L.PlayedLane.honest g.L.PlayedLane.calls g.L.PlayedLane.state g.row.PAGE old.layout old.ledger lanes e c.end.result old.layout c.end.new.self lanes) (sym c.in-End.is) plays }
