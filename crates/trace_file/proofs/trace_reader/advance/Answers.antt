use Rattle.std.proofs.Common.{◌≡◌, ◌∙◌, ap, subst}
use Rattle.trace_file.specs.Given.{shown}
use Rattle.trace_file.specs.Reading.{Place, place}
use Rattle.trace_file.specs.Stream.{Advances, FailsAs, read_behind}
use Rattle.trace_file.proofs.ReaderLaws.{advanced, left_is, fault_in}
use Rattle.trace_file.proofs.trace_reader.advance.Goals as goal

pub keep_last-requires : goal.keep_last-requires
keep_last-requires c =
    let here : shown c.new-cursor.result ≡ place c.args.at c.args.pending.now.items = c.new-cursor.ensures ∙ ap (place c.args.at) c.as_slice.ensures.value in
    let step = subst (λ (p : Place). Advances c.args.taken.now c.take.new.self p (shown c.in-Ok.rest)) here c.in-Ok.ensures.ok in
    (left_is c.requires c.take.new.self (shown c.in-Ok.rest) step).0

pub returns-in-Ok-clause-ok : goal.returns-in-Ok-clause-ok
returns-in-Ok-clause-ok c =
    let here : shown c.new-cursor.result ≡ place c.args.at c.args.pending.now.items = c.new-cursor.ensures ∙ ap (place c.args.at) c.as_slice.ensures.value in
    let step = subst (λ (p : Place). Advances c.args.taken.now c.take.new.self p (shown c.in-Ok.rest)) here c.in-Ok.ensures.ok in
    advanced c.requires c.take.new.self (shown c.in-Ok.rest) c.keep_last.new.bytes.items step c.keep_last.ensures

pub returns-in-Err-clause-err : goal.returns-in-Err-clause-err
returns-in-Err-clause-err c =
    let here : shown c.new-cursor.result ≡ place c.args.at c.args.pending.now.items = c.new-cursor.ensures ∙ ap (place c.args.at) c.as_slice.ensures.value in
    let t = c.args.taken.now in
    let fails = subst (λ (p : Place). FailsAs c.in-Err.fault (read_behind t.header t.history t.certificate p)) here c.in-Err.ensures.err in
    fault_in c.requires c.in-Err.fault fails
