-- The pieces of the line, grouped as the definition has them.
use Rattle.std.proofs.Common.{◌≡◌, IfOk, string_bytes, eqb, true, false, ◌++◌, append_assoc, arith}
use Rattle.std.specs.Fmt.{decimal}
use Rattle.std.specs.Prelude.{codes}
use Rattle.std.proofs.lemmas.Bool.Decides.{nat_tests}
use Rattle.history_text.proofs.to_writer.put_text.Goals as goal

pub returns-then-expires : goal.returns-then-expires
returns-then-expires c =
    let left_out : eqb c.args.expires 18446744073709551615 ≡ true = grind (arith, nat_tests) in
    let h : IfOk c.format.result (λ text. string_bytes text ≡ c.args.front.now ++ (codes " put " ++ (c.args.key.now ++ (codes " " ++ (c.args.value.now ++ (codes "\n")))))) = c.format.ensures.ok in
    rw left_out (simp append_assoc h)

pub returns-else-expires : goal.returns-else-expires
returns-else-expires c =
    let named : eqb c.args.expires 18446744073709551615 ≡ false = grind (arith, nat_tests) in
    let h : IfOk c.format-else-expires.result (λ text. string_bytes text ≡ c.args.front.now ++ (codes " put " ++ (c.args.key.now ++ (codes " " ++ (c.args.value.now ++ (codes " " ++ (decimal c.args.expires ++ (codes "\n")))))))) = c.format-else-expires.ensures.ok in
    rw named (simp append_assoc h)
