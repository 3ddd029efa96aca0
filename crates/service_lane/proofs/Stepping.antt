-- A lane of which a step left all but its store and its counts.
use Rattle.std.proofs.Common.{◌≡◌, List, Option, ap, ◌∙◌}
use Rattle.certificate_checker.specs.Deeds.{Deed}
use Rattle.service_lane.specs.declared.counts.Counts.{Counts}
use Rattle.service_lane.specs.Copies.{CopyList}
use Rattle.service_lane.specs.Serving.{Serving}

pub stepped : {D : Type 0} (old new : Serving D) (counts : Counts) → new.deeds ≡ old.deeds → new.copies ≡ old.copies → new.slots ≡ old.slots → new.counts ≡ counts → new ≡ record old { store = new.store; counts = counts }
stepped {D} old new counts deeds copies slots counted =
    ap (λ (l : List Deed). record new { deeds = l }) deeds ∙ ap (λ (l : Option CopyList). record new { deeds = old.deeds; copies = l }) copies ∙ ap (λ l. record old { store = new.store; slots = l; counts = new.counts }) slots ∙ ap (λ (n : Counts). record old { store = new.store; counts = n }) counted
