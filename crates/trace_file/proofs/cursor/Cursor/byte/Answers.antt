use Rattle.std.proofs.Common.{◌<◌, rules}
use Rattle.std.proofs.lemmas.List.Elements.{All-take, All-drop}
use Rattle.trace_file.proofs.cursor.Cursor.byte.Goals as goal

pub invariant_of-behind : goal.invariant_of-behind
invariant_of-behind c = record {
  fits = search rules;
  are_bytes = All-take (λ byte. byte < 256) _ _ (All-drop (λ byte. byte < 256) 1 c.args.self.bytes.now c.args.self.are_bytes);
}
