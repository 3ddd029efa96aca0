use Rattle.certificate_finder.proofs.AskLemmas.{ReadSoFar}
use Rattle.certificate_finder.proofs.readings.readings_by.Given as goal

-- the hits so far have their readings
abbrev pub invariant-loop-index : goal.invariant-loop-index
invariant-loop-index l = ReadSoFar l.steps l.leaved.puts.now l.leaved.leaves.now l.shape l.asked l.index l.taken l.nodes l.readings.items
