use Rattle.std.proofs.Common.{◌≡◌, ◌∙◌, Option, subst, rules}
use Rattle.trace_file.specs.declared.trace_fault.TraceFault.{TraceFault}
use Rattle.trace_file.specs.Stream.{stream_of, fed_of}
use Rattle.trace_file.proofs.ReaderLaws.{finishes, finishes_trace, finishes_cut}
use Rattle.trace_file.proofs.trace_reader.TraceReader.finish.Goals as goal

pub returns-in-Ok-clause-exact : goal.returns-in-Ok-clause-exact
returns-in-Ok-clause-exact c =
    let r = c.self.inside in
    let view = subst (λ (f : Option TraceFault). fed_of f (stream_of r.taken r.pending.items) ≡ c.args.self) c.in-None.is c.self.view_is in
    let is = c.self.invariant.reading c.in-None.is in
    c.in-Ok.ensures ∙ finishes r.taken r.at c.len.result r.pending.items c.args.self view is (search rules)

pub returns-in-Ok-clause-trace : goal.returns-in-Ok-clause-trace
returns-in-Ok-clause-trace c =
    let r = c.self.inside in
    let view = subst (λ (f : Option TraceFault). fed_of f (stream_of r.taken r.pending.items) ≡ c.args.self) c.in-None.is c.self.view_is in
    let is = c.self.invariant.reading c.in-None.is in
    finishes_trace r.taken r.at c.len.result r.pending.items c.args.self c.in-Ok.trace view is c.in-Ok.ensures

pub returns-clause-exact : goal.returns-clause-exact
returns-clause-exact c =
    let r = c.self.inside in
    let view = subst (λ (f : Option TraceFault). fed_of f (stream_of r.taken r.pending.items) ≡ c.args.self) c.in-None.is c.self.view_is in
    let is = c.self.invariant.reading c.in-None.is in
    c.in-Err.ensures ∙ finishes r.taken r.at c.len.result r.pending.items c.args.self view is (search rules)

pub returns-clause-cut : goal.returns-clause-cut
returns-clause-cut c =
    let r = c.self.inside in
    let view = subst (λ (f : Option TraceFault). fed_of f (stream_of r.taken r.pending.items) ≡ c.args.self) c.in-None.is c.self.view_is in
    let is = c.self.invariant.reading c.in-None.is in
    finishes_cut r.taken r.at c.len.result r.pending.items c.args.self c.in-Err.fault view is (search rules) c.in-Err.ensures
