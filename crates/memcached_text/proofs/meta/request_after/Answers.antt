use Rattle.std.proofs.Common.{◌∙◌, map}
use Rattle.memcached_text.proofs.MetaLines.{keyed_after, two_first}
use Rattle.memcached_text.proofs.meta.request_after.Goals as goal

pub returns-in_default : goal.returns-in_default
returns-in_default c = c.flagged_request.ensures ∙ keyed_after c.args.command (map (λ w. w.now) c.args.words.now) c.args.rest.now c.in_default.not-Set

pub flagged_request-requires : goal.flagged_request-requires
flagged_request-requires c = two_first c.args.command _ c.requires
