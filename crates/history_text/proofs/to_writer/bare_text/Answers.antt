-- The pieces of the line, grouped as the definition has them.
use Rattle.std.proofs.Common.{◌≡◌, IfOk, string_bytes, ◌++◌, append_assoc}
use Rattle.std.specs.Prelude.{codes}
use Rattle.history_text.proofs.to_writer.bare_text.Goals as goal

pub returns : goal.returns
returns c =
    let h : IfOk c.format.result (λ text. string_bytes text ≡ c.args.front.now ++ (codes " " ++ (c.args.kind.now ++ (codes " " ++ (c.args.key.now ++ codes "\n"))))) = c.format.ensures.ok in
    simp append_assoc h
