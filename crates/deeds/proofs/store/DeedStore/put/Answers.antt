-- The store after a put.
use Rattle.std.proofs.Common.{ap, ◌∙◌, ◌++◌, ◌∷◌, []}
use Rattle.record_pages.specs.Expiry.{timed}
use Rattle.memory_cache.specs.declared.pair.Pair.{Pair}
use Rattle.trace_file.specs.declared.act.Act.TheVariants.{Put}
use Rattle.mover.specs.Lane.{lane_of}
use Rattle.deeds.specs.Asked.{Asked}
use Rattle.deeds.proofs.Remembering.{put_leaves}
use Rattle.deeds.proofs.Serves.{served_put}
use Rattle.deeds.proofs.store.DeedStore.put.Goals as goal

pub invariant_of-self-2 : goal.invariant_of-self-2
invariant_of-self-2 g c =
    let d = g.D.PageDevice in
    let old : Asked g.row.D.Denot = record { store = c.self.inside.store; deeds = c.self.inside.trail.deeds } in
    let a = c.args in
    let new = c.put.new.self in
    let put : Pair = record { key = a.key; value = timed a.value a.expires } in
    let gives = c.in_ok-pushed.ensures.gives in
    served_put d.honest d.held old c.self.invariant new (ap d.honest c.put.ensures.device) a.key a.value a.expires _
    (c.then-trail.ensures ∙ (λ i. old.deeds ++ record { key = c.bytes-2.ensures.value i; act = Put (c.bytes.ensures.value i) a.expires } ∷ []))
    (put_leaves g.row.PAGE old.store.layout.admit a.word put c.in_ok-pushed.pushed (lane_of d.held old.store) (lane_of d.held new) gives)
    (λ is. c.put_shows.ensures g.row.PAGE old.store.layout.admit a.word put (lane_of d.held old.store) (lane_of d.held new) c.in_ok-pushed.pushed (c.self.invariant.order is) gives)
