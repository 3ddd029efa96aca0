-- None of the copies is held, so all are right.
use Rattle.service_lane.proofs.Copying.{none_held}
use Rattle.service_lane.proofs.copy_store.CopyStore.with_layout.Goals as goal

pub invariant_of-result : goal.invariant_of-result
invariant_of-result g c = λ honest. none_held c.in_ok-asked.asked.deeds c.args.copies c.requires.copies
