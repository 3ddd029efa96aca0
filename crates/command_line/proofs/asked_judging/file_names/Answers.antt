-- One name more for one file more.
use Rattle.std.proofs.Common.{◌≡◌, ◌∙◌, ◌<◌, ◌+◌, ◌++◌, ◌∷◌, [], ℕ, List, Bor, ap, ap₂, get_or, length, map, sym, take}
use Rattle.std.proofs.lemmas.List.{map_more, take_all}
use Rattle.clap.specs.Words.{Text}
use Rattle.command_line.proofs.asked_judging.file_names.Goals as goal

one_more : (files : List (Bor (List ℕ))) (at : ℕ) (d : Bor (List ℕ)) (names more : List Text) (name : Text) → at < length files → names ≡ map (λ (f : Bor (List ℕ)). f.now) (take at files) → more ≡ names ++ name ∷ [] → name ≡ (get_or files at d).now → more ≡ map (λ (f : Bor (List ℕ)). f.now) (take (at + 1) files)
one_more files at d names more name less before pushed is =
    pushed
    ∙ ap₂ (λ front last. front ++ last ∷ []) before is
    ∙ sym (map_more (λ (f : Bor (List ℕ)). f.now) files at d less)

pub loop-file-preserved : goal.loop-file-preserved
loop-file-preserved c =
    one_more c.args.files.now c.loop-file.file-index _ c.loop-file.names.items _ c.in_ok-name.name c.loop-file-test.true c.loop-file.invariant c.in_ok-push.ensures.items c.in_ok-name.ensures

pub returns : goal.returns
returns c = c.loop-file.invariant ∙ ap (map (λ (f : Bor (List ℕ)). f.now)) (take_all c.loop-file.file-index c.args.files.now c.loop-file-test.false)
