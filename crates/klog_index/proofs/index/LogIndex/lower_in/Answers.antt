-- The row that was found is lowered, and it alone.
use Rattle.klog_index.specs.Entries.{is_in}
use Rattle.klog_index.proofs.public_laws.EntryLaws.{of_place_in}
use Rattle.klog_index.proofs.Dropping.{dropping-held}
use Rattle.klog_index.proofs.Lowering.{lowered-index, lowered-none, lowered-apart}
use Rattle.klog_index.proofs.index.LogIndex.lower_in.Goals as goal

pub lower_one-requires : goal.lower_one-requires
lower_one-requires c = dropping-held (is_in c.args.set c.args.place) c.self.inside.pool c.in-Some.row c.in-Some.ensures.found

pub invariant_of-self : goal.invariant_of-self
invariant_of-self c = lowered-apart c.self.inside.pool c.lower_one.new.pool c.in-Some.row c.self.invariant c.lower_one.ensures

pub returns-in-Some : goal.returns-in-Some
returns-in-Some c =
    lowered-index (is_in c.args.set c.args.place) c.args.place c.self.inside.pool c.lower_one.new.pool c.in-Some.row c.args.self.now c.self.view_is (of_place_in c.args.set c.args.place) c.in-Some.ensures.apart c.self.invariant c.in-Some.ensures.found c.lower_one.ensures

pub returns-in_default : goal.returns-in_default
returns-in_default c = lowered-none (is_in c.args.set c.args.place) c.self.inside.pool c.args.self.now c.self.view_is c.in_default.ensures.found
