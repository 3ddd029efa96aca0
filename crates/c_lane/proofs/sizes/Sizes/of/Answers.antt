-- The sizes are those of the parts that the test of the shape gave.
use Rattle.std.proofs.Common.{sym, subst}
use Rattle.std.specs.Prelude.{Option}
use Rattle.c_lane.specs.declared.shape_field.ShapeField.{ShapeField}
use Rattle.c_lane.specs.Shapes.{SizesBy}
use Rattle.c_lane.proofs.sizes.Sizes.of.Goals as goal

pub returns-in-Ok : goal.returns-in-Ok
returns-in-Ok c =
    subst (λ (o : Option ShapeField). SizesBy o c.args.shape.now c.args.object_bytes c.of_parts.result) (sym c.in-Ok.ensures.faultless)
    (record { shape = c.parts.result; parts = c.parts.ensures; are = c.of_parts.ensures })
