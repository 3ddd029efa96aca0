use Rattle.memcached_text.proofs.Lists.{dropped_at}
use Rattle.memcached_text.proofs.words.from_space.Goals as goal

pub returns : goal.returns
returns c = dropped_at c.args.text.now _ c.before_space.result c.before_space.ensures.count
