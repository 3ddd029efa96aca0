use Rattle.std.proofs.Common.{None, List, [], ℕ, subst, sym}
use Rattle.trace_file.specs.declared.trace_so_far.TraceSoFar.{TraceSoFar}
use Rattle.trace_file.specs.Stream.{IsReader}
use Rattle.trace_file.proofs.ReaderLaws.{reader_of_nothing}
use Rattle.trace_file.proofs.trace_reader.TraceReader.new.Goals as goal

pub invariant_of-result : goal.invariant_of-result
invariant_of-result c =
    subst (λ (pending : List ℕ). IsReader c.new.result 0 pending None) (sym c.new-2.ensures.items)
    (subst (λ (taken : TraceSoFar). IsReader taken 0 [] None) (sym c.new.ensures) reader_of_nothing)
