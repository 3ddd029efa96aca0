-- A put by the next word, with help after it.
use Rattle.std.proofs.Common.{◌∙◌, sym, ap, subst}
use Rattle.record_pages.specs.Expiry.{timed}
use Rattle.service_lane.specs.Serving.{PutsStore}
use Rattle.service_lane.specs.Words.{next_word}
use Rattle.service_cache.specs.Seated.{Seated, put_of, PutLeaves}
use Rattle.service_cache.proofs.Filling.{adds_last, refused_adds}
use Rattle.service_cache.proofs.Helping.{puts_and_helps}
use Rattle.service_cache.proofs.lane.SeatedLane.put_and_help.Goals as goal

pub put-requires : goal.put-requires
put-requires g c = (assumption, c.requires ∙ sym (ap (λ (s : Seated g.row.D.Denot). s.register.number) c.draw-word.ensures.leaves))

pub returns-in-Ok-clause-stored : goal.returns-in-Ok-clause-stored
returns-in-Ok-clause-stored g c =
    let d = g.D.PageDevice in
    let a = c.args in
    let old = a.self.now in
    let between = c.put.new.self.serving in
    let puts : PutsStore g.row.PAGE d.held (record { key = a.key; value = timed a.value a.expires }) c.draw-word.result c.in-Ok.pushed old.serving between =
    subst (λ (s : Seated g.row.D.Denot). PutsStore g.row.PAGE d.held (record { key = a.key; value = timed a.value a.expires }) c.draw-word.result c.in-Ok.pushed s.serving between) c.draw-word.ensures.leaves c.in-Ok.ensures.stored in
    puts_and_helps g.row.PAGE d.honest d.failures d.held (g.P.EvictionPolicy.plan_of a.policy.now) a.key a.value a.expires (next_word old.words) c.draw-word.result c.draw-word.ensures.word c.in-Ok.pushed old.serving between c.help-helped.new.self.serving c.help-helped.result c.help-helped.ensures.helps puts

pub returns-in-Ok-clause-entered : goal.returns-in-Ok-clause-entered
returns-in-Ok-clause-entered g c =
    let a = c.args in
    adds_last g.L.KeyLanes.lane_of (put_of a.key a.value a.expires) c.draw-word.new.self.register a.seat.now c.put.new.self.register c.put.new.seat c.in-Ok.ensures.entered

pub returns-in-Ok-clause-words : goal.returns-in-Ok-clause-words
returns-in-Ok-clause-words g c = c.help-helped.ensures.words ∙ (c.in-Ok.ensures.words ∙ ap (λ (s : Seated g.row.D.Denot). s.words) c.draw-word.ensures.leaves)

pub returns-in-Err-clause-words : goal.returns-in-Err-clause-words
returns-in-Err-clause-words g c = c.in-Err.ensures.words ∙ ap (λ (s : Seated g.row.D.Denot). s.words) c.draw-word.ensures.leaves

pub returns-in-Err-clause-refused : goal.returns-in-Err-clause-refused
returns-in-Err-clause-refused g c =
    let a = c.args in
    refused_adds g.D.PageDevice.held g.L.KeyLanes.lane_of a.key a.value a.expires c.in-Err.fault c.draw-word.new.self a.seat.now c.put.new.self c.put.new.seat c.in-Err.ensures.refused

pub returns-in-Err-clause-leaves : goal.returns-in-Err-clause-leaves
returns-in-Err-clause-leaves g c =
    let a = c.args in
    subst (λ (s : Seated g.row.D.Denot). PutLeaves g.D.PageDevice.held g.L.KeyLanes.lane_of a.key a.value a.expires c.in-Err.fault s a.seat.now c.put.new.self c.put.new.seat) c.draw-word.ensures.leaves c.in-Err.ensures.refused
