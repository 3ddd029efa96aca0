use Rattle.std.proofs.Common.{arith}
use Rattle.std.proofs.lemmas.Grind.{common_steps}
use Rattle.load.proofs.HoldingLaws.{alike, sum-is, holds-merged, written_back}
use Rattle.load.proofs.histogram.Histogram.merge.Goals as goal

pub add_counts-requires-clause-alike : goal.add_counts-requires-clause-alike
add_counts-requires-clause-alike c = rw (c.deref.ensures.value, c.deref_mut.ensures.value) (alike c.self.invariant c.other.invariant)

pub add_counts-requires-clause-few : goal.add_counts-requires-clause-few
add_counts-requires-clause-few c =
    rw (c.deref.ensures.value, c.deref_mut.ensures.value)
    (let room = c.if-self-other-gt-MOST_TIMES.false in omega (arith, sum-is c.self.invariant, sum-is c.other.invariant))

pub invariant_of-self : goal.invariant_of-self
invariant_of-self c =
    let size = rw c.deref_mut.ensures.value at c.add_counts.ensures.len in
    let sums = rw (c.deref_mut.ensures.value, c.deref.ensures.value) at c.add_counts.ensures.sums in
    let back = written_back c.self.inside.counts.items c.add_counts.new.counts c.self.inside.counts.len size (grind (arith, common_steps)) in
    rw (back, c.note_merged.ensures, c.max-self-inside.ensures)
    (holds-merged c.self.invariant c.other.invariant _ c.if-self-other-gt-MOST_TIMES.false size sums)
