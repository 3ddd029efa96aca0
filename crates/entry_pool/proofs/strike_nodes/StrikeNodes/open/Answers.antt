use Rattle.std.proofs.Common.{refl, rules}
use Rattle.entry_pool.proofs.StrikeFresh.{opened}
use Rattle.entry_pool.proofs.strike_nodes.StrikeNodes.open.Goals as goal

pub returns : goal.returns
returns c =
    opened (record { firsts = c.in_ok-firsts.firsts.items; counts = c.in_ok-counts.counts.items; links = c.in_ok-links.links.items; hashes = c.in_ok-hashes.hashes.items; free = 0; free_count = c.args.places }) c.args.sets c.args.places
    (search rules) (search rules) (search rules) c.in_ok-links.ensures refl refl c.requires.places
