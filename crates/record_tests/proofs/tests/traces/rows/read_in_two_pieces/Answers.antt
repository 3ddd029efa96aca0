use Rattle.std.proofs.Common.{◌∙◌}
use Rattle.record_tests.proofs.TracesRowLaws.{Feeds, ends_as_joined}
use Rattle.record_tests.proofs.tests.traces.rows.read_in_two_pieces.Goals as goal

pub returns : goal.returns
returns c = λ ample.
    let one : Feeds c.new-parts.result c.args.front.now c.feed-front.result c.feed-front.new.self = record { ok = c.feed-front.ensures.ok; no_fault = c.feed-front.ensures.no_fault; first = c.feed-front.ensures.first; failed = c.feed-front.ensures.failed; failed_before = c.feed-front.ensures.failed_before } in
    let two : Feeds c.feed-front.new.self c.args.rest.now c.feed-rest.result c.feed-rest.new.self = record { ok = c.feed-rest.ensures.ok; no_fault = c.feed-rest.ensures.no_fault; first = c.feed-rest.ensures.first; failed = c.feed-rest.ensures.failed; failed_before = c.feed-rest.ensures.failed_before } in
    c.finish.ensures.exact
    ∙ ends_as_joined c.args.front.now c.args.rest.now c.new-parts.result c.feed-front.new.self c.feed-rest.new.self c.feed-front.result c.feed-rest.result c.new-parts.ensures one two (λ short. ample (c.finish.ensures.exact ∙ short))
