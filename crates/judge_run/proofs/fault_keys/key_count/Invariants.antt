use Rattle.std.proofs.Common.{take}
use Rattle.judge_run.specs.Listing.{HasKeys, keys_of}
use Rattle.judge_run.proofs.fault_keys.key_count.Given as goal

abbrev pub invariant-loop-fault : goal.invariant-loop-fault
invariant-loop-fault g l = HasKeys l.keys (keys_of l.history (take l.fault-index l.faults))
