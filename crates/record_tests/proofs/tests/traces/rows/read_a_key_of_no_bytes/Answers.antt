use Rattle.std.proofs.Common.{◌<◌, ◌++◌, All, ◌∙◌, arith}
use Rattle.std.proofs.lemmas.List.Elements.{All-append, All-from_get_or}
use Rattle.trace_file.specs.declared.trace_fault.TraceFault.TheVariants.{BadKey}
use Rattle.trace_file.proofs.public_laws.Readings.{fault_is}
use Rattle.record_tests.proofs.tests.traces.rows.read_a_key_of_no_bytes.Goals as goal

pub returns : goal.returns
returns c = λ at stands ample.
    let front = c.args.front.now in
    let rest = c.args.rest.now in
    let all : All (λ byte. byte < 256) (front ++ rest) =
    All-append (λ byte. byte < 256) front rest (All-from_get_or (λ byte. byte < 256) front 0 (λ i lt. omega (arith, c.type_inv.front i))) (All-from_get_or (λ byte. byte < 256) rest 0 (λ i lt. omega (arith, c.type_inv.rest i))) in
    c.read_in_two_pieces-read.ensures ample ∙ (fault_is (front ++ rest) (BadKey at) ((c.fault_laws.ensures.stands (front ++ rest) (BadKey at) all).1 stands)).0
