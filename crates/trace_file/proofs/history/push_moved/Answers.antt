use Rattle.std.proofs.Common.{rules, ap, ◌++◌, ◌∙◌}
use Rattle.trace_file.proofs.Extending.{moved_all, moved_more}
use Rattle.trace_file.proofs.history.push_moved.Goals as goal

pub loop-place-preserved : goal.loop-place-preserved
loop-place-preserved c =
    let v = c.loop-place.invariant in
    record {
      entries = moved_more c.args.entries.now.items c.args.bytes c.args.others.now c.args.ends.now c.loop-place.entries.items c.push_reserved.new.self.items c.loop-place.place c.moved-entry.result _ _ c.requires.many c.loop-place-test.true c.moved-entry.ensures v.entries c.push_reserved.ensures.items;
      room = search rules;
    }

pub returns : goal.returns
returns c = c.loop-place.invariant.entries ∙ ap (λ es. c.args.entries.now.items ++ es) (moved_all c.args.bytes c.args.others.now c.args.ends.now c.loop-place.place c.requires.many (search rules))
