use Rattle.std.proofs.Common.{◌≡◌, ◌<◌, Option, All, subst, arith}
use Rattle.std.proofs.lemmas.List.Elements.{All-from_get_or}
use Rattle.trace_file.specs.declared.trace_fault.TraceFault.{TraceFault}
use Rattle.trace_file.specs.Stream.{stream_of, fed_of}
use Rattle.trace_file.proofs.ReaderLaws.{starts_from, no_fault_now}
use Rattle.trace_file.proofs.trace_reader.TraceReader.take.Goals as goal

pub advance-requires : goal.advance-requires
advance-requires c =
    let r = c.self.inside in
    let piece = c.args.piece.now in
    let bytes : All (λ byte. byte < 256) piece = All-from_get_or (λ byte. byte < 256) piece 0 (λ i lt. omega (arith, c.type_inv.piece i)) in
    starts_from r.taken r.at r.pending.items piece c.extend_from_slice.new.self.items c.self.invariant.small (c.self.invariant.reading c.in-None.is) bytes c.in-Ok.ensures.items

pub returns-in-Ok-advance-clause-no_fault : goal.returns-in-Ok-advance-clause-no_fault
returns-in-Ok-advance-clause-no_fault c =
    let r = c.self.inside in
    let view = subst (λ (f : Option TraceFault). fed_of f (stream_of r.taken r.pending.items) ≡ c.args.self.now) c.in-None.is c.self.view_is in
    no_fault_now c.args.self.now r.taken r.pending.items c.args.piece.now c.extend_from_slice.new.self.items c.advance.new.taken c.in-Ok-advance.at c.advance.new.pending.items view c.in-Ok.ensures.items c.in-Ok-advance.ensures.ok
