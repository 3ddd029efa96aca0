-- The words are the first 24 of the parts between spaces that have bytes; there is always room for them.
use Rattle.std.proofs.Common.{◌==◌, not, length, rules, tests, arith}
use Rattle.std.proofs.lemmas.Iterator.{YieldsList-from_take}
use Rattle.std.proofs.lemmas.Iterator.Splits.{YieldsList-from_slice_split}
use Rattle.std.proofs.lemmas.Iterator.Consumers.{YieldsList-from_filter, YieldsList-at}
use Rattle.memcached_text.specs.Words.{parts_of}
use Rattle.memcached_text.proofs.Taken.{all_taken, more_left}
use Rattle.memcached_text.proofs.Lists.{few_taken}
use Rattle.memcached_text.proofs.words.words_in.Goals as goal

pub returns-in-Ok : goal.returns-in-Ok
returns-in-Ok c =
    let ran = c.in-Ok.ensures.ran in
    all_taken c.new-words.result.items c.extend.new.self.items ran.1 c.new-words.ensures ran.3 ran.4 ran.2 (YieldsList-from_take 24 (YieldsList-at c.take.ensures.source (YieldsList-from_filter _ (λ word. not (length word == 0)) (YieldsList-at c.filter-parts.ensures.source (YieldsList-from_slice_split _ (λ b. b == 32) c.args.line.now c.split.ensures.rest c.split.ensures.done c.split.ensures.closure (λ x b q k. search (rules, tests)))) c.filter-parts.ensures.closure (λ x b q k. search (rules, tests)))) c.take.ensures.count)

pub returns-in-Err : goal.returns-in-Err
returns-in-Err c =
    let one = c.in-Err.ensures.one_more in
    let full = c.in-Err.ensures.full in
    let fewer = more_left c.new-words.result.items c.extend.new.self.items one.1 c.new-words.ensures one.6 one.2 one.3 one.5 one.4 (YieldsList-from_take 24 (YieldsList-at c.take.ensures.source (YieldsList-from_filter _ (λ word. not (length word == 0)) (YieldsList-at c.filter-parts.ensures.source (YieldsList-from_slice_split _ (λ b. b == 32) c.args.line.now c.split.ensures.rest c.split.ensures.done c.split.ensures.closure (λ x b q k. search (rules, tests)))) c.filter-parts.ensures.closure (λ x b q k. search (rules, tests)))) c.take.ensures.count) in
    let few = few_taken 24 (parts_of c.args.line.now) in
    absurd (omega (arith, full, fewer, few))
