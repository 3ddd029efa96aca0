-- What the parse of a text gives is the number that the text writes.
use Rattle.std.proofs.Common.{◌^◌, sym, ◌∙◌}
use Rattle.load.specs.Settings.{is_admitted}
use Rattle.load.proofs.Ranges.{read, out, small_number, unread}
use Rattle.load.proofs.setting.Setting.number.Goals as goal

pub returns-in_default : goal.returns-in_default
returns-in_default c = unread (is_admitted c.args.self) (2 ^ 32) c.args.text.now (small_number c.args.self) c.in_default.ensures.value.0

pub returns-then-admits : goal.returns-then-admits
returns-then-admits c = read (is_admitted c.args.self) (2 ^ 32) c.args.text.now c.in-Ok.number c.in-Ok.ensures.value.0 (sym c.admits.ensures ∙ c.if-admits.true)

pub returns-else-admits : goal.returns-else-admits
returns-else-admits c = out (is_admitted c.args.self) (2 ^ 32) c.args.text.now c.in-Ok.number c.in-Ok.ensures.value.0 (sym c.admits.ensures ∙ c.if-admits.false)
