-- A row of the kind goes, and what is not of the kind stays.
use Rattle.klog_index.specs.Entries.{is_at}
use Rattle.klog_index.proofs.Dropping.{dropping-none, dropping-step, dropping-held, dropping-fewer, dropping-end}
use Rattle.klog_index.proofs.index.LogIndex.drop_at.Goals as goal

pub loop-row-init : goal.loop-row-init
loop-row-init c = dropping-none (is_at c.args.place) c.args.self.now c.self.inside.pool c.self.view_is c.self.invariant

pub remove-requires : goal.remove-requires
remove-requires c = dropping-held (is_at c.args.place) c.loop-row.self-inside.pool c.in-Some.row c.in-Some.ensures.found

pub loop-row-smaller : goal.loop-row-smaller
loop-row-smaller c =
    dropping-fewer (is_at c.args.place) c.loop-row.self-inside.pool c.remove.new.self c.in-Some.row c.in-Some.ensures.found c.remove.ensures

pub loop-row-preserved : goal.loop-row-preserved
loop-row-preserved c =
    dropping-step (is_at c.args.place) c.args.self.now c.loop-row.self-inside.pool c.remove.new.self c.in-Some.row c.loop-row.invariant c.in-Some.ensures.apart c.in-Some.ensures.found c.remove.ensures

pub returns : goal.returns
returns c = dropping-end (is_at c.args.place) c.args.self.now c.loop-row.self-inside.pool c.loop-row.invariant c.in_default.ensures.found
