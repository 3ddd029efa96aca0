-- The counters are those of the answer.
use Rattle.std.proofs.Common.{◌∙◌, ap, arith}
use Rattle.record_pages.specs.declared.tier.Tier.TheVariants.{Log, Set}
use Rattle.service_lane.specs.declared.counter.Counter.TheVariants as counter
use Rattle.service_lane.specs.Counters.{number}
use Rattle.service_lane.proofs.public_laws.Numbers.{more_same, more_other}
use Rattle.service_tests.proofs.LaneRows.{ok_same, counted_hit}
use Rattle.service_tests.proofs.tests.lane.rows.a_hit_is_counted_in_its_tier.Goals as goal

pub returns-in-Ok-clause-log : goal.returns-in-Ok-clause-log
returns-in-Ok-clause-log g c = λ told is.
    counted_hit c.args.lane.now c.get.new.self c.get.new.found c.in-Ok.seen Log told c.in-Ok.ensures.gets.copied counter.LogHits (omega arith) (ok_same c.in-Ok.seen _ is) c.in-Ok.ensures.gets.counts
    ∙ more_same 1 counter.LogHits c.args.lane.now.counts

pub returns-in-Ok-clause-log_alone : goal.returns-in-Ok-clause-log_alone
returns-in-Ok-clause-log_alone g c = λ told is.
    counted_hit c.args.lane.now c.get.new.self c.get.new.found c.in-Ok.seen Log told c.in-Ok.ensures.gets.copied counter.SetHits (omega arith) (ok_same c.in-Ok.seen _ is) c.in-Ok.ensures.gets.counts
    ∙ more_other 1 counter.LogHits counter.SetHits c.args.lane.now.counts (λ same. omega (arith, same))

pub returns-in-Ok-clause-set : goal.returns-in-Ok-clause-set
returns-in-Ok-clause-set g c = λ told is.
    counted_hit c.args.lane.now c.get.new.self c.get.new.found c.in-Ok.seen Set told c.in-Ok.ensures.gets.copied counter.SetHits (omega arith) (ok_same c.in-Ok.seen _ is) c.in-Ok.ensures.gets.counts
    ∙ more_same 1 counter.SetHits c.args.lane.now.counts

pub returns-in-Ok-clause-set_alone : goal.returns-in-Ok-clause-set_alone
returns-in-Ok-clause-set_alone g c = λ told is.
    counted_hit c.args.lane.now c.get.new.self c.get.new.found c.in-Ok.seen Set told c.in-Ok.ensures.gets.copied counter.LogHits (omega arith) (ok_same c.in-Ok.seen _ is) c.in-Ok.ensures.gets.counts
    ∙ more_other 1 counter.SetHits counter.LogHits c.args.lane.now.counts (λ same. omega (arith, same))

pub get-requires : goal.get-requires
get-requires g c = assumption
