-- An item fits.
use Rattle.std.proofs.Common.{rules, Option, refl, sym, subst, lit<}
use Rattle.std.specs.Prelude.{IfSome}
use Rattle.record_pages.specs.Bounded.{IsValue}
use Rattle.item_lane.specs.declared.cache_item.CacheItem.{CacheItem}
use Rattle.memcached_text.proofs.public_laws.AnswerLengths.{value_few}
use Rattle.memcached_session.specs.Fitting.{IsLaneAnswer}
use Rattle.memcached_session.proofs.replying.to_item.Goals as goal

pub returns-in-Some-clause-fits : goal.returns-in-Some-clause-fits
returns-in-Some-clause-fits c =
    let item = c.in-Some.item in
    let within : IsValue item.bytes.now = subst (λ (o : Option CacheItem). IfSome o (λ i. IsValue i.bytes.now)) c.in-Some.is c.requires.within in
    subst IsLaneAnswer (sym c.loud.ensures)
    (record { few = value_few c.args.key.now item.head.flags c.if_wanted.result item.bytes.now 2048 (lit< tt) c.requires.key.1 (search rules) (search rules) within; kept = refl })
