use Rattle.certificate_finder.specs.declared.put.Put.{Put}
use Rattle.certificate_finder.specs.Putting.{IsPut, Putting, TellsPut}
use Rattle.certificate_finder.proofs.Listing.{apart_grows, grows_weaker, lists_grow}
use Rattle.certificate_finder.proofs.PutLemmas.{dead_of}
use Rattle.certificate_finder.proofs.puts.listed_puts.Goals as goal

pub loop-position-preserved : goal.loop-position-preserved
loop-position-preserved c =
    let p = c.loop-position.position in
    let old = c.loop-position.puts.items in
    let new = c.list_put.new.puts.items in
    let step = c.item_at-step.result in
    let over = c.over_of-over.result in (
      lists_grow c.args.steps.now Putting (TellsPut c.args.steps.now) c.loop-position.position c.loop-position.puts.items c.list_put.new.puts.items c.item_at-step.result c.loop-position.invariant.0 c.item_at-step.ensures
          (grows_weaker Putting (λ q s put. IsPut q s c.over_of-over.result put) (TellsPut c.args.steps.now) c.loop-position.position c.loop-position.position c.item_at-step.result c.loop-position.puts.items c.list_put.new.puts.items (λ put is. dead_of c.args.steps.now c.args.writes.now c.requires.writes c.loop-position.position c.item_at-step.result put c.over_of-over.result c.over_of-over.ensures is) c.in_ok-list_put.ensures),
      apart_grows (λ (put : Put). put.position) Putting (λ q s put. IsPut q s c.over_of-over.result put) c.loop-position.position c.loop-position.puts.items c.list_put.new.puts.items c.item_at-step.result c.loop-position.invariant.1 (λ put is. is.is_at) c.in_ok-list_put.ensures,
    )
