use Rattle.std.proofs.Common.{arith}
use Rattle.history_window.proofs.RankLemmas.{other_word, own_word}
use Rattle.history_window.proofs.ranks.stamp_of.Goals as goal

pub returns : goal.returns
returns c = own_word c.args.word c.args.rank (omega arith)

pub returns-then-rank-word : goal.returns-then-rank-word
returns-then-rank-word c = other_word c.args.word c.args.rank (λ same. omega arith)
