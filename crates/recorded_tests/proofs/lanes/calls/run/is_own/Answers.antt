use Rattle.std.proofs.Common.{ap, sym, ◌∙◌}
use Rattle.std.proofs.lemmas.Bool.{eqb-true}
use Rattle.record_pages.specs.declared.layout.Layout.{Layout}
use Rattle.set_hash.specs.declared.placed.Placed.{Placed}
use Rattle.set_hash.specs.Fnv.{fnv1a}
use Rattle.set_hash.specs.Place.{placed_of}
use Rattle.recorded_tests.proofs.lanes.calls.run.is_own.Goals as goal

pub returns : goal.returns
returns g c = λ is.
    let of = c.layout-layout.result in
    sym (ap (λ (l : Layout). (placed_of l.lanes l.sets (fnv1a c.args.key.now)).lane) c.layout-layout.ensures.layout)
    ∙ sym (ap (λ b. (placed_of of.lanes of.sets (fnv1a b)).lane) c.bytes.ensures.value)
    ∙ sym (ap (λ (p : Placed). p.lane) c.place.ensures.placed)
    ∙ eqb-true _ _ is ∙ c.lane.ensures.number
