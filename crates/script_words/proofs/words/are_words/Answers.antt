use Rattle.std.proofs.Common.{List, ℕ, Bor, sym, ◌∙◌, rules, tests}
use Rattle.std.proofs.lemmas.Iterator.{YieldsList-from_slice}
use Rattle.std.proofs.lemmas.Iterator.Search.{all_from_yields_List}
use Rattle.std.proofs.lemmas.List.Folds.{list_all-map}
use Rattle.script_words.specs.Words.{is_word}
use Rattle.script_words.proofs.words.are_words.Goals as goal

pub returns : goal.returns
returns c =
    all_from_yields_List (λ (part : Bor (List ℕ)). is_word part.now) _ _ _ c.all.ensures.ran (YieldsList-from_slice c.args.parts.now cc) (λ x b q k. search (rules, tests))
    ∙ sym (list_all-map is_word (λ (part : Bor (List ℕ)). part.now) c.args.parts.now)
