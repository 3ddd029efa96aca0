-- What the parse of a text gives is the number that the text writes, of the units that it names.
use Rattle.load.proofs.Units.{enough, no_number}
use Rattle.load.proofs.size_setting.SizeSetting.bytes.Goals as goal

pub returns-in_default : goal.returns-in_default
returns-in_default c = no_number c.args.text.now c.split_unit-counted.result.digits.now c.split_unit-counted.result.unit c.split_unit-counted.ensures.digits c.split_unit-counted.ensures.unit c.in_default.ensures.value.0

pub returns-then-bytes-le-MOST : goal.returns-then-bytes-le-MOST
returns-then-bytes-le-MOST c = enough c.args.text.now c.split_unit-counted.result.digits.now c.split_unit-counted.result.unit c.split_unit-counted.ensures.digits c.split_unit-counted.ensures.unit c.in-Ok.count c.in-Some.bytes c.in-Ok.ensures.value.0 c.in-Some.ensures.1 c.if-bytes-le-MOST.true
