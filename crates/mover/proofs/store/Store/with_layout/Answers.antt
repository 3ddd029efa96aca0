-- A store that was just opened is kept by what its tiers say of themselves.
use Rattle.std.proofs.Common.{rules}
use Rattle.mover.proofs.public_laws.Keeping.{opened}
use Rattle.mover.proofs.store.Store.with_layout.Goals as goal

pub invariant_of-result : goal.invariant_of-result
invariant_of-result g c =
    let d = g.D.PageDevice in
    opened c.args.strikes g.row.PAGE d.page_count d.honest d.held c.args.layout.now c.args.device c.in_ok-memory.memory c.in_ok-log.log c.in_ok-sets.sets c.in_ok-flights.flights
    c.requires.page_size (search rules) c.in_ok-memory.ensures c.in_ok-log.ensures.opening c.in_ok-sets.ensures.opening c.in_ok-flights.ensures
    c.requires.room c.in_ok-log.ensures.spelled c.in_ok-sets.ensures.spelled c.in_ok-sets.ensures.shown
