-- A reply fits.
use Rattle.std.proofs.Common.{sym, subst}
use Rattle.memcached_text.specs.Answers.{answer_text}
use Rattle.memcached_session.specs.Fitting.{IsLaneAnswer}
use Rattle.memcached_session.proofs.Fitting.{quiet_fits}
use Rattle.memcached_session.proofs.replying.to_reply.Goals as goal

pub returns-clause-fits : goal.returns-clause-fits
returns-clause-fits c = subst IsLaneAnswer (sym c.unless_quiet.ensures) (quiet_fits c.args.noreply (answer_text c.answer.result) c.outcome.result c.answer.ensures.few c.outcome.ensures.kept)
