use Rattle.std.proofs.Common.{rules, length}
use Rattle.shared_cache.proofs.Making.{made_call}
use Rattle.shared_cache.proofs.cache.SharedCache.call.Goals as goal

pub returns-in-Ok-act-clause-made : goal.returns-in-Ok-act-clause-made
returns-in-Ok-act-clause-made g c =
    let a = c.in-Ok-act.ensures.acts in
    made_call _ _ _ c.start.new.self c.act.new.pass c.end.new.self _ _ (length c.deref_mut-book.result.now.calls) c.in-Ok-start.start c.in-Ok-act.acted.point
    c.end.ensures.calls a.listed (search rules) (search rules) (search rules) (search rules) (search rules) (search rules) (search rules) (search rules) (search rules)
