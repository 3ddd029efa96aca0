use Rattle.memcached_text.proofs.Blocks.{no_block_is_read}
use Rattle.memcached_text.proofs.laws.no_block_is_read.Goals as goal

pub returns : goal.returns
returns c = no_block_is_read
