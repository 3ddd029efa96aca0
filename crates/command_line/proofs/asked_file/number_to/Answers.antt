-- What the parse of a text gives is the number that the text writes.
use Rattle.std.proofs.Common.{◌^◌, arith}
use Rattle.std.proofs.lemmas.Bool.{le-leb}
use Rattle.std.specs.Prelude.{nat_le}
use Rattle.command_line.proofs.CallNumbers.{read, small_most, unread}
use Rattle.command_line.proofs.asked_file.number_to.Goals as goal

pub returns-in_default : goal.returns-in_default
returns-in_default c = unread (λ n. nat_le n c.args.most) (2 ^ 64) c.args.text.now (small_most c.args.most (omega (arith, c.ranges.most))) c.in_default.ensures.value.0

pub returns-then-number-most : goal.returns-then-number-most
returns-then-number-most c =
    read (λ n. nat_le n c.args.most) (2 ^ 64) c.args.text.now c.in-Ok.number c.in-Ok.ensures.value.0 (le-leb c.in-Ok.number c.args.most (omega (arith, c.if-number-most.true)))
