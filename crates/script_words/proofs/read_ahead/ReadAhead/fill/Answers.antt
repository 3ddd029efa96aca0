-- What was read was lost by the reader and gained here.
use Rattle.std.proofs.Common.{◌≡◌, ℕ, List, ◌++◌, take, drop, vec_len, Option, Some, None, sym, ap, ◌∙◌, append_assoc, subst, rules}
use Rattle.std.specs.Io.KnownBytes.{Keeps, Consumes, prepend_known}
use Rattle.std.proofs.lemmas.List.{take-append-drop}
use Rattle.script_words.proofs.read_ahead.ReadAhead.fill.Goals as goal

kept : (a b : Option (List ℕ)) (n : ℕ) (front items : List ℕ) → take n items ≡ front → Consumes a b (drop n items) → Keeps (prepend_known front a) (prepend_known items b)
kept None b n front items h k = tt
kept (Some xs) None n front items h k = absurd k
kept (Some xs) (Some ys) n front items h k =
    ap (λ zs. zs ++ ys) (sym (take-append-drop n items) ∙ ap (λ zs. zs ++ drop n items) h) ∙ append_assoc front (drop n items) ys ∙ ap (λ zs. front ++ zs) (sym k)

pub returns-in-Ok-clause-kept : goal.returns-in-Ok-clause-kept
returns-in-Ok-clause-kept g c =
    let before : c.remove_front.new.bytes.items ≡ c.args.self.now.bytes = search rules in
    subst (λ bytes. Keeps (prepend_known bytes (g.R.Read.remaining c.args.reader.now)) (prepend_known c.read_behind.new.bytes.items (g.R.Read.remaining c.read_behind.new.reader))) before (kept (g.R.Read.remaining c.args.reader.now) (g.R.Read.remaining c.read_behind.new.reader) (vec_len c.remove_front.new.bytes) c.remove_front.new.bytes.items c.read_behind.new.bytes.items c.in-Ok.ensures.front c.in-Ok.ensures.read)
