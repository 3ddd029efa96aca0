use Rattle.std.proofs.Common.{List, ℕ, Bor, ◌==◌, sym, ◌∙◌, rules, tests}
use Rattle.std.proofs.lemmas.Iterator.{YieldsList-from_slice}
use Rattle.std.proofs.lemmas.Iterator.Search.{position_from_yields_List}
use Rattle.memcached_text.specs.Meta.{letter_of}
use Rattle.memcached_text.proofs.Lists.{position-map}
use Rattle.memcached_text.proofs.meta.place_of.Goals as goal

pub returns : goal.returns
returns c =
    position_from_yields_List (λ (flag : Bor (List ℕ)). letter_of flag.now == c.args.wanted) _ _ c.position.result c.position.ensures.ran (YieldsList-from_slice c.args.flags.now cc) (λ x b q k. search (rules, tests))
    ∙ sym (position-map (λ flag. letter_of flag == c.args.wanted) (λ (flag : Bor (List ℕ)). flag.now) c.args.flags.now)
