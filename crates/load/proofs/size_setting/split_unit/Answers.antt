-- A text that ends in no letter of a unit is left as it is.
use Rattle.std.proofs.Common.{None, arith, sym}
use Rattle.std.proofs.lemmas.Str.Pattern.{strip_suffix_char}
use Rattle.load.proofs.Units.{no_cut, no_unit}
use Rattle.load.proofs.size_setting.split_unit.Goals as goal

pub returns-clause-digits : goal.returns-clause-digits
returns-clause-digits c =
    no_cut c.args.text.now (no_unit c.args.text.now
    (strip_suffix_char 75 c.args.text.now None c.in_default.ensures.cases (omega arith))
    (strip_suffix_char 77 c.args.text.now None c.in_default-strip_suffix.ensures.cases (omega arith))
    (strip_suffix_char 71 c.args.text.now None c.in_default-strip_suffix-2.ensures.cases (omega arith)))

pub returns-clause-unit : goal.returns-clause-unit
returns-clause-unit c =
    sym (no_unit c.args.text.now
    (strip_suffix_char 75 c.args.text.now None c.in_default.ensures.cases (omega arith))
    (strip_suffix_char 77 c.args.text.now None c.in_default-strip_suffix.ensures.cases (omega arith))
    (strip_suffix_char 71 c.args.text.now None c.in_default-strip_suffix-2.ensures.cases (omega arith)))
