-- The lane after a fill by a lease that had not ended.
use Rattle.std.proofs.Common.{◌∙◌, refl, ap, sym, subst}
use Rattle.record_pages.specs.Expiry.{timed}
use Rattle.memory_cache.specs.declared.pair.Pair.{Pair}
use Rattle.trace_file.specs.declared.act.Act.TheVariants.{Put}
use Rattle.service_lane.specs.Copies.{CopyAsked}
use Rattle.service_lane.specs.declared.counter.Counter.TheVariants as counter
use Rattle.service_lane.specs.Counters.{with_more, with_one, with_one_if}
use Rattle.service_lane.specs.declared.counter.Counter.{Counter}
use Rattle.service_lane.specs.declared.counts.Counts.{Counts}
use Rattle.service_lane.specs.Counting.{bytes_of, counter_of_pushed, counts_refused_fill}
use Rattle.service_lane.specs.Leases.{LeaseSlots, HoldsLease}
use Rattle.service_lane.specs.Serving.{Serving, FillsStore}
use Rattle.service_lane.proofs.Writing.{counted_write, counted_kept, unwritten}
use denote.Param.{param, number}
use Rattle.service_lane.proofs.Fitting.{asked_fits}
use Rattle.service_lane.proofs.lane.ServiceLane.fill_held.Goals as goal

pub invariant_of-self : goal.invariant_of-self
invariant_of-self g c = counted_write c.self.inside.asked.deeds c.put_counted.new.asked.deeds (record { key = c.args.key; act = Put c.args.value c.args.expires }) c.self.inside.slots c.put_counted.new.slots c.in-Ok.ensures.deeds refl c.in-Ok.ensures.counted c.self.invariant

pub invariant_of-self-in-Err : goal.invariant_of-self-in-Err
invariant_of-self-in-Err g c = counted_kept c.self.inside.asked.deeds c.put_counted.new.asked.deeds c.self.inside.slots c.put_counted.new.slots (ap (λ (s : CopyAsked g.row.D.Denot). s.deeds) c.in-Err.ensures.asked_kept) c.in-Err.ensures.slots_kept c.self.invariant

pub returns-in-Ok-clause-filled : goal.returns-in-Ok-clause-filled
returns-in-Ok-clause-filled g c held =
    let d = g.D.PageDevice in
    let a = c.args in
    let p : Pair = record { key = a.key; value = timed a.value a.expires } in
    let counts = c.self.inside.counts in
    let asked = c.put_counted.new.asked in
    let old : Serving g.row.D.Denot = record { store = c.self.inside.asked.store; deeds = c.self.inside.asked.deeds; copies = c.self.inside.asked.copies; slots = c.self.inside.slots; counts = counts } in
    let new : Serving g.row.D.Denot = record { store = asked.store; deeds = asked.deeds; copies = asked.copies; slots = c.put_counted.new.slots; counts = c.count_if.new.self } in
    let holds = subst (λ (s : Serving g.row.D.Denot). HoldsLease s.slots a.key a.lease) (sym c.self.view_is) held in
    let put : FillsStore g.row.PAGE d.held p a.word a.lease c.in-Ok.pushed old new =
    record {
      leased = holds;
      unwritten = unwritten c.self.inside.asked.deeds c.self.inside.slots a.key a.lease c.count-some.ensures.some c.self.invariant holds;
      puts = c.in-Ok.ensures.puts;
      deeds = c.in-Ok.ensures.deeds;
      copies = c.in-Ok.ensures.copies;
      slots = c.in-Ok.ensures.counted;
      counts =
          c.count_if.ensures ∙ ap (λ k. with_one_if k c.add.new.self) c.of_pushed.ensures
          ∙ ap (with_one_if (counter_of_pushed c.in-Ok.pushed)) (c.add.ensures ∙ ap (λ n. with_more n counter.FillsBytes c.count.new.self) c.bytes_of-bytes.ensures ∙ ap (with_more (bytes_of a.key a.value) counter.FillsBytes) c.count.ensures);
    } in
    subst (λ (s : Serving g.row.D.Denot). FillsStore g.row.PAGE d.held p a.word a.lease c.in-Ok.pushed s new) c.self.view_is put

pub returns-in-Ok-clause-large : goal.returns-in-Ok-clause-large
returns-in-Ok-clause-large g c = c.in-Ok.ensures.puts.too_large

pub returns-in-Err-clause-large : goal.returns-in-Err-clause-large
returns-in-Err-clause-large g c = c.in-Err.ensures.puts.too_large

pub returns-in-Err-clause-refused : goal.returns-in-Err-clause-refused
returns-in-Err-clause-refused g c =
    let i = c.self.inside in
    let fault = c.in-Err.fault in
    let lane : CopyAsked g.row.D.Denot → LeaseSlots → Counts → Serving g.row.D.Denot = λ asked slots counts. record { store = asked.store; deeds = asked.deeds; copies = asked.copies; slots = slots; counts = counts } in
    let counted = c.count-in-Err.ensures ∙ ap (λ (k : Counter). with_one k i.counts) c.of_refused_fill.ensures in
    ap (λ (s : CopyAsked g.row.D.Denot). lane s c.put_counted.new.slots c.count-in-Err.new.self) c.in-Err.ensures.asked_kept ∙ ap (λ (s : LeaseSlots). lane i.asked s c.count-in-Err.new.self) c.in-Err.ensures.slots_kept ∙ ap (λ (n : Counts). lane i.asked i.slots n) counted
    ∙ ap (λ (s : Serving g.row.D.Denot). record s { counts = counts_refused_fill fault s.counts }) c.self.view_is

pub put_counted-requires : goal.put_counted-requires
put_counted-requires g c = asked_fits (param 0 g.row.D) (param 1 (number g.row.PAGE)) g.D.PageDevice assumption
