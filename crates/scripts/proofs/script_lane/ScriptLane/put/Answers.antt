-- What the script sees after a put.
use Rattle.std.proofs.Common.{◌≡◌, length, sym, ap, ◌∙◌, subst}
use Rattle.trace_file.specs.declared.act.Act.TheVariants.{Put}
use Rattle.record_pages.specs.Expiry.{timed}
use Rattle.mover.specs.Put.{put_step}
use Rattle.recorded_lane.specs.Lane.{Lane}
use Rattle.scripts.specs.Own.{Pages, IsOfScript, seen_of, after_call}
use Rattle.scripts.proofs.Seen.{called, goes_on}
use Rattle.scripts.proofs.script_lane.ScriptLane.put.Goals as goal

pub returns-clause-after : goal.returns-clause-after
returns-clause-after g c =
    let count = c.len-count.ensures.count ∙ ap (λ (l : Lane Pages). length l.calls) (c.deref.ensures ∙ sym c.deref_mut.ensures.value) in
    let said = c.in_ok-pushed.ensures in
    subst (λ (old : Lane Pages). seen_of c.put.new.self ≡ after_call (seen_of old) (put_step g.row.PAGE old.store.layout.admit (record { key = c.args.key; value = timed c.args.value c.args.expires }) c.args.word (seen_of old).lane).lane c.args.key (Put c.args.value c.args.expires)) (c.deref_mut.ensures.value ∙ c.self.view_is)
    (called c.deref_mut.result.now c.put.new.self c.args.key (Put c.args.value c.args.expires) (put_step g.row.PAGE c.deref_mut.result.now.store.layout.admit (record { key = c.args.key; value = timed c.args.value c.args.expires }) c.args.word (seen_of c.deref_mut.result.now).lane).lane
    (rw (← count) said.recorded) said.puts.layout said.puts.gives.1)

pub invariant_of-self-2 : goal.invariant_of-self-2
invariant_of-self-2 g c =
    let count = c.len-count.ensures.count ∙ ap (λ (l : Lane Pages). length l.calls) (c.deref.ensures ∙ sym c.deref_mut.ensures.value) in
    let said = c.in_ok-pushed.ensures in
    goes_on c.deref_mut.result.now c.put.new.self c.args.key (Put c.args.value c.args.expires) (subst IsOfScript (sym c.deref_mut.ensures.value) c.self.invariant) (rw (← count) said.recorded) said.puts.layout
