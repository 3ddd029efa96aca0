use Rattle.std.proofs.Common.{rules, refl, ap, ◌∙◌, sym}
use Rattle.std.proofs.lemmas.List.{take_all}
use Rattle.trace_file.specs.Stored.{each_ended}
use Rattle.trace_file.proofs.Extending.{ended_more, ended_none}
use Rattle.trace_file.proofs.history.set_ends.Goals as goal

pub loop-place-init : goal.loop-place-init
loop-place-init c = record { ended = sym (ended_none c.args.entries.now.items); many = refl }

pub loop-place-preserved : goal.loop-place-preserved
loop-place-preserved c = record {
  ended = ended_more c.args.entries.now.items c.loop-place.entries.items c.args.ends.now c.loop-place.place c.index_mut-entry.result.now 0 (search rules) c.requires c.loop-place.invariant.ended c.index_mut-entry.ensures.value;
  many = search rules;
}

pub returns : goal.returns
returns c = c.loop-place.invariant.ended ∙ ap (λ ends. each_ended c.args.entries.now.items ends) (take_all c.loop-place.place c.args.ends.now (search rules))
