use Rattle.memcached_text.proofs.PrintedRequests.{lines_read_back}
use Rattle.memcached_text.proofs.PrintedStreams.{streams_read_back}
use Rattle.memcached_text.proofs.laws.requests_read_back.Goals as goal

pub returns-clause-lines : goal.returns-clause-lines
returns-clause-lines c = lines_read_back

pub returns-clause-streams : goal.returns-clause-streams
returns-clause-streams c = streams_read_back
