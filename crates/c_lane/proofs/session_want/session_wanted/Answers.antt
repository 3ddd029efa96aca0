-- More bytes are wanted only if few are at hand.
use Rattle.std.proofs.Common.{ap}
use Rattle.memcached_session.specs.Wanting.{WantAlone}
use Rattle.c_lane.proofs.session_want.session_wanted.Goals as goal

pub returns-in-Alone-clause-few : goal.returns-in-Alone-clause-few
returns-in-Alone-clause-few c = λ e. c.in-Alone.ensures.few (ap WantAlone (c.number_of-wants.ensures.more e))
