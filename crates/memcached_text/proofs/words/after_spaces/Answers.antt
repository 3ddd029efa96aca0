use Rattle.memcached_text.proofs.Lists.{dropped_at}
use Rattle.memcached_text.proofs.words.after_spaces.Goals as goal

pub returns : goal.returns
returns c = dropped_at c.args.text.now _ c.spaces.result c.spaces.ensures.count
