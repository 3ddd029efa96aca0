use Rattle.record_pages.proofs.MakingLaws.{PutSoFar}
use Rattle.record_pages.proofs.bytes_out.put_records.Given as goal

abbrev pub invariant-loop-record : goal.invariant-loop-record
invariant-loop-record l = PutSoFar l.records l.record-index l.at l.end l.initial.into l.into
