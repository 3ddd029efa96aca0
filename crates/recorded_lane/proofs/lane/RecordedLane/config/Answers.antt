-- The numbers of the store's layout.
use Rattle.std.proofs.Common.{refl, ap, ◌∙◌, subst}
use Rattle.record_pages.specs.Asked.{HasNumbersOf}
use Rattle.record_pages.specs.declared.config.Config.{Config}
use Rattle.record_pages.specs.declared.layout.Layout.{Layout}
use Rattle.recorded_lane.specs.Lane.{Lane}
use Rattle.recorded_lane.proofs.lane.RecordedLane.config.Goals as goal

pub returns : goal.returns
returns g c =
    let has = c.layout-layout.result in
    let config : Config = record { lanes = has.lanes; sets = has.sets; memory = has.memory; segments = has.segments; segment_pages = has.segment_pages; entries = has.entries; threshold = has.threshold; admit = has.admit } in
    let own : HasNumbersOf has config = record { lanes = refl; sets = refl; memory = refl; segments = refl; segment_pages = refl; entries = refl; threshold = refl; admit = refl } in
    subst (λ (l : Layout). HasNumbersOf l config) (c.layout-layout.ensures.layout ∙ ap (λ (l : Lane g.row.D.Denot). l.store.layout) c.self.view_is) own
