-- Each end of the pass and each turn, by what the loop keeps.
use Rattle.std.proofs.Common.{false, sym, ◌∙◌, arith, rules}
use Rattle.std.proofs.lemmas.List.{get_or_read}
use Rattle.trace_file.specs.Lent.{call_shown}
use Rattle.certificate_checker.specs.Values.{value_at}
use Rattle.certificate_checker.proofs.Passing.{ends_repeated, ends_out_of_order, ends_wrong_hit, ends_well, goes_on}
use Rattle.certificate_checker.proofs.places.first_fault_of_places.Goals as goal

pub returns-then-index : goal.returns-then-index
returns-then-index g c =
    let passed = c.loop-place.invariant in
    let flag = get_or_read c.loop-place.seen.items c.at-position.result c.index.result.now (omega (arith, passed.seen_len)) c.index.ensures false in
    ends_repeated passed c.at-position.result c.at-position.ensures (omega arith) (sym flag ∙ c.if-index.true)

pub returns-then-call-greatest_start : goal.returns-then-call-greatest_start
returns-then-call-greatest_start g c =
    let passed = c.loop-place.invariant in
    let flag = get_or_read c.loop-place.seen.items c.at-position.result c.index.result.now (omega (arith, passed.seen_len)) c.index.ensures false in
    ends_out_of_order passed c.at-position.result (call_shown c.at-call.result) c.at-position.ensures c.at-call.ensures.call (sym flag ∙ c.if-index.false) c.if-call-greatest_start.true

pub returns-then-not-allows : goal.returns-then-not-allows
returns-then-not-allows g c =
    let passed = c.loop-place.invariant in
    let flag = get_or_read c.loop-place.seen.items c.at-position.result c.index.result.now (omega (arith, passed.seen_len)) c.index.ensures false in
    ends_wrong_hit passed c.at-position.result (call_shown c.at-call.result) c.at-position.ensures c.at-call.ensures.call (sym flag ∙ c.if-index.false) c.if-call-greatest_start.false (search rules)

pub loop-place-preserved : goal.loop-place-preserved
loop-place-preserved g c =
    let passed = c.loop-place.invariant in
    let flag = get_or_read c.loop-place.seen.items c.at-position.result c.index.result.now (omega (arith, passed.seen_len)) c.index.ensures false in
    rw c.max-greatest_start.ensures (goes_on c.args.history.now c.args.certificate.now c.loop-place.place c.at-position.result (call_shown c.at-call.result) c.loop-place.seen.items c.loop-place.greatest_start (value_at c.loop-place.values) (value_at c.note.new.values) passed c.at-position.ensures c.at-call.ensures.call (sym flag ∙ c.if-index.false) c.if-call-greatest_start.false (search rules) c.in_ok-note.ensures)

pub returns : goal.returns
returns g c = ends_well c.loop-place.invariant (omega arith)
