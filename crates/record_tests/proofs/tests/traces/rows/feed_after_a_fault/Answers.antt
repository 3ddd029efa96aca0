use Rattle.record_tests.proofs.TracesRowLaws.{Feeds, refused_again}
use Rattle.record_tests.proofs.tests.traces.rows.feed_after_a_fault.Goals as goal

pub returns : goal.returns
returns c =
    let one : Feeds c.args.parts.now c.args.piece.now c.feed-first.result c.feed-first.new.self = record { ok = c.feed-first.ensures.ok; no_fault = c.feed-first.ensures.no_fault; first = c.feed-first.ensures.first; failed = c.feed-first.ensures.failed; failed_before = c.feed-first.ensures.failed_before } in
    let two : Feeds c.feed-first.new.self c.args.next.now c.feed-again.result c.feed-again.new.self = record { ok = c.feed-again.ensures.ok; no_fault = c.feed-again.ensures.no_fault; first = c.feed-again.ensures.first; failed = c.feed-again.ensures.failed; failed_before = c.feed-again.ensures.failed_before } in
    refused_again c.args.piece.now c.args.next.now c.args.parts.now c.feed-first.new.self c.feed-again.new.self c.feed-first.result c.feed-again.result one two
