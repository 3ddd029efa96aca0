-- The pieces of the line, grouped as the definition has them.
use Rattle.std.proofs.Common.{◌≡◌, IfOk, string_bytes, eqb, true, false, ◌++◌, append_assoc, arith}
use Rattle.std.specs.Fmt.{decimal}
use Rattle.std.specs.Prelude.{codes}
use Rattle.std.proofs.lemmas.Bool.Decides.{nat_tests}
use Rattle.history_text.proofs.to_writer.hit_text.Goals as goal

pub returns-then-moment-eq0 : goal.returns-then-moment-eq0
returns-then-moment-eq0 c =
    let left_out : eqb c.args.moment 0 ≡ true = grind (arith, nat_tests) in
    let h : IfOk c.format.result (λ text. string_bytes text ≡ c.args.front.now ++ (codes " hit " ++ (c.args.key.now ++ (codes " " ++ (c.args.value.now ++ (codes "\n")))))) = c.format.ensures.ok in
    rw left_out (simp append_assoc h)

pub returns-else-moment-eq0 : goal.returns-else-moment-eq0
returns-else-moment-eq0 c =
    let named : eqb c.args.moment 0 ≡ false = grind (arith, nat_tests) in
    let h : IfOk c.format-else-moment-eq0.result (λ text. string_bytes text ≡ c.args.front.now ++ (codes " hit " ++ (c.args.key.now ++ (codes " " ++ (c.args.value.now ++ (codes " " ++ (decimal c.args.moment ++ (codes "\n")))))))) = c.format-else-moment-eq0.ensures.ok in
    rw named (simp append_assoc h)
