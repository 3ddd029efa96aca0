use Rattle.std.proofs.Common.{◌≡◌, length, ◌∙◌, sym, arith}
use Rattle.std.proofs.lemmas.Bool.{eqb-true, eqb-false}
use Rattle.std.proofs.lemmas.List.{nil_from_length}
use Rattle.std.proofs.lemmas.Result.{err_from_is_err_and}
use Rattle.trace_file.specs.Given.{shown}
use Rattle.trace_file.proofs.Countings.{calls_taken, positions_taken, on_and_on, short_of_calls, short_of_positions, whole_at_end, bytes_behind, fault_in_calls, fault_in_positions}
use Rattle.trace_file.proofs.taking.take_counted.Goals as goal

pub returns-in_err-rest-clause-err : goal.returns-in_err-rest-clause-err
returns-in_err-rest-clause-err c =
    let p = err_from_is_err_and c.from_residual.result c.from_residual.ensures.1 in
    rw (p.1, p.2) (fault_in_calls c.args.header c.args.history.now c.args.certificate.now (shown c.args.cursor) _ c.in_err-rest.ensures.err)

pub returns-then-len-header-clause-ok : goal.returns-then-len-header-clause-ok
returns-then-len-header-clause-ok c =
    let takes = c.in_ok-rest.ensures.ok in
    let on = calls_taken c.args.header c.args.history.now c.args.certificate.now (shown c.args.cursor) c.take_calls.new.history (shown c.in_ok-rest.rest) c.requires.counted c.requires.at takes in
    record { on = on; stands = short_of_calls c.args.header c.take_calls.new.history c.args.certificate.now (shown c.in_ok-rest.rest) on.counted (omega arith) (takes.waits (omega arith)) }

pub returns-in_err-rest-2-clause-err : goal.returns-in_err-rest-2-clause-err
returns-in_err-rest-2-clause-err c =
    let n = c.args.header in
    let h = c.take_calls.new.history in
    let ps = c.args.certificate.now in
    let q = shown c.in_ok-rest.rest in
    let takes = c.in_ok-rest.ensures.ok in
    let on = calls_taken n c.args.history.now ps (shown c.args.cursor) h q c.requires.counted c.requires.at takes in
    let full : length h ≡ n.count = omega (arith, takes.within) in
    let p = err_from_is_err_and c.from_residual-in_err-rest-2.result c.from_residual-in_err-rest-2.ensures.1 in
    rw (p.1, p.2) (λ known. on.read ∙ fault_in_positions n h ps q _ full c.in_err-rest-2.ensures.err known)

pub returns-then-len-header-2-clause-ok : goal.returns-then-len-header-2-clause-ok
returns-then-len-header-2-clause-ok c =
    let n = c.args.header in
    let h = c.take_calls.new.history in
    let ps = c.args.certificate.now in
    let q = shown c.in_ok-rest.rest in
    let takes = c.in_ok-rest.ensures.ok in
    let on = calls_taken n c.args.history.now ps (shown c.args.cursor) h q c.requires.counted c.requires.at takes in
    let full : length h ≡ n.count = omega (arith, takes.within) in
    let ps' = c.take_positions.new.certificate in
    let r = shown c.in_ok-rest-2.rest in
    let more = c.in_ok-rest-2.ensures.ok in
    let further = positions_taken n h ps q ps' r on.counted full on.at more in
    let all = on_and_on n c.args.history.now ps (shown c.args.cursor) h ps q h ps' r on further in
    record { on = all; stands = short_of_positions n h ps' r full (omega arith) (more.waits (omega arith)) }

pub returns-then-not-is_empty-clause-err : goal.returns-then-not-is_empty-clause-err
returns-then-not-is_empty-clause-err c =
    let n = c.args.header in
    let h = c.take_calls.new.history in
    let ps = c.args.certificate.now in
    let q = shown c.in_ok-rest.rest in
    let takes = c.in_ok-rest.ensures.ok in
    let on = calls_taken n c.args.history.now ps (shown c.args.cursor) h q c.requires.counted c.requires.at takes in
    let full : length h ≡ n.count = omega (arith, takes.within) in
    let ps' = c.take_positions.new.certificate in
    let r = shown c.in_ok-rest-2.rest in
    let more = c.in_ok-rest-2.ensures.ok in
    let further = positions_taken n h ps q ps' r on.counted full on.at more in
    let all = on_and_on n c.args.history.now ps (shown c.args.cursor) h ps q h ps' r on further in
    let full' : length ps' ≡ n.count = omega (arith, more.within) in
    λ known. all.read ∙ bytes_behind n h ps' r full full' (let some = eqb-false (length r.bytes) 0 (sym c.if-not-is_empty.ensures) in omega (arith, some))

pub returns-clause-ok : goal.returns-clause-ok
returns-clause-ok c =
    let n = c.args.header in
    let h = c.take_calls.new.history in
    let ps = c.args.certificate.now in
    let q = shown c.in_ok-rest.rest in
    let takes = c.in_ok-rest.ensures.ok in
    let on = calls_taken n c.args.history.now ps (shown c.args.cursor) h q c.requires.counted c.requires.at takes in
    let full : length h ≡ n.count = omega (arith, takes.within) in
    let ps' = c.take_positions.new.certificate in
    let r = shown c.in_ok-rest-2.rest in
    let more = c.in_ok-rest-2.ensures.ok in
    let further = positions_taken n h ps q ps' r on.counted full on.at more in
    let all = on_and_on n c.args.history.now ps (shown c.args.cursor) h ps q h ps' r on further in
    let full' : length ps' ≡ n.count = omega (arith, more.within) in
    record { on = all; stands = whole_at_end n h ps' r full full' (nil_from_length r.bytes (eqb-true (length r.bytes) 0 (sym c.if-not-is_empty.ensures))) }
