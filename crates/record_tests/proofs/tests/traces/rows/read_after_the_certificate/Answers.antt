use Rattle.std.proofs.Common.{◌∙◌}
use Rattle.record_tests.proofs.TracesRowLaws.{trailing_is}
use Rattle.record_tests.proofs.tests.traces.rows.read_after_the_certificate.Goals as goal

pub returns : goal.returns
returns c = λ history certificate is some ample.
    c.read_in_two_pieces-read.ensures ample ∙ trailing_is c.fault_laws.ensures.trailing c.args.whole.now c.args.more.now history certificate is some
