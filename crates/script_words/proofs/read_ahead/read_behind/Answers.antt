-- What was read stands after the bytes that were there.
use Rattle.std.proofs.Common.{◌≡◌, ◌+◌, ℕ, List, take, drop, vec_len, sym, ap, ◌∙◌, subst, rules}
use Rattle.std.specs.Io.KnownBytes.{Consumes}
use Rattle.std.proofs.lemmas.List.{drop-take, with_items_is, places}
use Rattle.script_words.proofs.read_ahead.read_behind.Goals as goal

cut_off : (len count : ℕ) (n : ℕ) (all there read : List ℕ) → len ≡ count → there ≡ read → all ≡ take (count + n) there → take n (drop count read) ≡ drop len all
cut_off len count n all there read at same is = sym (ap (λ k. drop k all) at ∙ ap (drop count) (is ∙ ap (take (count + n)) same) ∙ drop-take count n read)

pub returns-in-Ok-clause-read : goal.returns-in-Ok-clause-read
returns-in-Ok-clause-read g c =
    subst (Consumes (g.R.Read.remaining c.args.reader.now) (g.R.Read.remaining c.read_at.new.reader)) (cut_off (vec_len c.args.bytes.now) c.len-len.result c.in-Ok.count c.truncate.new.self.items _ c.read_at.new.bytes (search rules) (with_items_is c.resize.new.self c.read_at.new.bytes (search (rules, places))) c.truncate.ensures.items) c.in-Ok.ensures.read
