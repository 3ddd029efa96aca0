-- The answer to a value that is too large fits.
use Rattle.std.proofs.Common.{refl, sym, subst, lit≤}
use Rattle.memcached_text.specs.declared.fixed_reply.FixedReply.TheVariants as replies
use Rattle.memcached_session.specs.declared.outcome.SessionOutcome.TheVariants as outcomes
use Rattle.memcached_session.specs.Alone.{reply_line}
use Rattle.memcached_session.specs.Fitting.{IsLaneAnswer}
use Rattle.memcached_session.proofs.Fitting.{quiet_fits}
use Rattle.memcached_session.proofs.performing.remove_large.Goals as goal

pub returns-clause-fits : goal.returns-clause-fits
returns-clause-fits g c = subst IsLaneAnswer (sym c.unless_quiet.ensures) (quiet_fits c.args.noreply (reply_line replies.TooLarge) outcomes.TooLarge (lit≤ tt) refl)

pub remove-requires : goal.remove-requires
remove-requires g c = assumption
