use Rattle.std.proofs.Common.{◌≡◌, sym, ◌∙◌}
use Rattle.klog_index.specs.Entries.{of_tag}
use Rattle.klog.specs.Known.{no_pages}
use Rattle.tier_tests.proofs.LogRowLaws.{none_left, none_to_read, absent_where_none}
use Rattle.tier_tests.proofs.tests.log.rows.look_after_strike.Goals as goal

pub returns-in-Ok-clause-absent : goal.returns-in-Ok-clause-absent
returns-in-Ok-clause-absent g c =
    let k = c.strike.new.self in
    let p = c.args.placed.now in
    sym c.in-Ok.is
    ∙ absent_where_none g.row.PAGE k c.look.new.self p.set p.tag c.args.key.now c.args.moment c.look.result (c.look.new.device ≡ c.args.device.now) (none_left c.args.log.now k p.set p.tag c.strike.ensures.struck)
    (c.look.ensures.looks_at no_pages (λ page. tt))

pub returns-in-Ok-clause-idle : goal.returns-in-Ok-clause-idle
returns-in-Ok-clause-idle g c =
    let k = c.strike.new.self in
    let p = c.args.placed.now in
    c.look.ensures.buffered (none_to_read k (of_tag p.set p.tag k.entries) (none_left c.args.log.now k p.set p.tag c.strike.ensures.struck))

pub returns-in-Err-clause-absent : goal.returns-in-Err-clause-absent
returns-in-Err-clause-absent g c =
    let k = c.strike.new.self in
    let p = c.args.placed.now in
    sym c.in-Err.is
    ∙ absent_where_none g.row.PAGE k c.look.new.self p.set p.tag c.args.key.now c.args.moment c.look.result (c.look.new.device ≡ c.args.device.now) (none_left c.args.log.now k p.set p.tag c.strike.ensures.struck)
    (c.look.ensures.looks_at no_pages (λ page. tt))

pub returns-in-Err-clause-idle : goal.returns-in-Err-clause-idle
returns-in-Err-clause-idle g c =
    let k = c.strike.new.self in
    let p = c.args.placed.now in
    c.look.ensures.buffered (none_to_read k (of_tag p.set p.tag k.entries) (none_left c.args.log.now k p.set p.tag c.strike.ensures.struck))
