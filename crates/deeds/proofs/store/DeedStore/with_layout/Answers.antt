-- What is true of a store that was just opened.
use Rattle.std.proofs.Common.{subst, sym}
use Rattle.deeds.specs.Asked.{IsServed}
use Rattle.deeds.proofs.Serves.{served_opened}
use Rattle.deeds.proofs.store.DeedStore.with_layout.Goals as goal

pub invariant_of-result : goal.invariant_of-result
invariant_of-result g c =
    let d = g.D.PageDevice in
    let opened = served_opened d.honest d.held c.in_ok-store.store c.args.strikes c.args.layout.now c.args.device c.opening_shows_nothing.ensures c.in_ok-store.ensures in
    subst (λ t. IsServed d.honest d.held (record { store = c.in_ok-store.store; deeds = t })) (sym c.new.ensures) opened
