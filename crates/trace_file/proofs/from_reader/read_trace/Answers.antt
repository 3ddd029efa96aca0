use Rattle.std.proofs.Common.{take, arith}
use Rattle.std.proofs.lemmas.List.{length-take}
use Rattle.trace_file.proofs.public_laws.Readings.{read_none, read_more, fault_read, fault_leaves, failed_read}
use Rattle.trace_file.proofs.from_reader.read_trace.Goals as goal

pub loop-parts-init : goal.loop-parts-init
loop-parts-init g c = read_none (g.R.Read.remaining c.args.reader.now) c.new-parts.result c.new-parts.ensures

-- the piece that was read is the piece that is fed
pub loop-parts-preserved : goal.loop-parts-preserved
loop-parts-preserved g c =
    read_more c.loop-parts.invariant (g.R.Read.remaining c.read.new.self) c.feed.new.self (take c.in-Ok.count c.read.new.buf) c.in-Ok.ensures.bytes.0 c.in-Ok-feed.ensures.ok c.in-Ok-feed.ensures.no_fault

pub returns-in-Err-feed-clause-fault : goal.returns-in-Err-feed-clause-fault
returns-in-Err-feed-clause-fault g c =
    fault_read c.loop-parts.invariant (g.R.Read.remaining c.read.new.self) c.in-Err-feed.fault (take c.in-Ok.count c.read.new.buf) c.in-Ok.ensures.bytes.0 c.in-Err-feed.ensures.first

pub returns-in-Err-feed-clause-left : goal.returns-in-Err-feed-clause-left
returns-in-Err-feed-clause-left g c =
    fault_leaves c.loop-parts.invariant (g.R.Read.remaining c.read.new.self) c.in-Err-feed.fault (take c.in-Ok.count c.read.new.buf) c.in-Ok.ensures.bytes.0 (omega (arith, length-take c.in-Ok.count c.read.new.buf)) c.in-Err-feed.ensures.first

pub returns-in-Err-clause-fault : goal.returns-in-Err-clause-fault
returns-in-Err-clause-fault g c = (failed_read c.loop-parts.invariant (g.R.Read.remaining c.read.new.self) c.bytes_fed-at.result c.in-Err.ensures.bytes c.bytes_fed-at.ensures).0

pub returns-in-Err-clause-left : goal.returns-in-Err-clause-left
returns-in-Err-clause-left g c = (failed_read c.loop-parts.invariant (g.R.Read.remaining c.read.new.self) c.bytes_fed-at.result c.in-Err.ensures.bytes c.bytes_fed-at.ensures).1
