use Rattle.mover.proofs.store.Store.get_into.Goals as goal

pub returns-clause-gets : goal.returns-clause-gets
returns-clause-gets g c =
    let d = g.D.PageDevice in
    rw (c.kind.ensures.answer c.locate-at.new.found)
    (rw c.touch.ensures c.locate-at.ensures.gets)

pub returns-clause-stays : goal.returns-clause-stays
returns-clause-stays g c = rw c.kind.ensures.hit c.locate-at.ensures.stays

pub returns-clause-expires : goal.returns-clause-expires
returns-clause-expires g c = rw c.kind.ensures.expires (rw c.kind.ensures.in_memory c.locate-at.ensures.expires)
