-- A number's digits are few.
use Rattle.std.proofs.Common.{ℕ, ◌≤◌, length, Some, None, arith, ap, sym, subst}
use Rattle.memcached_session.specs.Fitting.{IsWentWithin, IsSaidWithin}
use Rattle.memcached_session.specs.MetaSaying.{MetaSaid, Shown, went_shown}
use Rattle.memcached_session.proofs.Fitting.{went_within, unless_q_within}
use Rattle.memcached_session.proofs.meta_replying.to_delta.Goals as goal

pub returns-in-Ok-Number-clause-within : goal.returns-in-Ok-Number-clause-within
returns-in-Ok-Number-clause-within c =
    let flags = c.args.request.now.flags.now in
    let short = c.format.ensures.short in
    let same = ap (length {A = ℕ}) c.as_bytes.ensures.value in
    let few : length c.as_bytes.result.now ≤ 2048 = omega (arith, short, same) in
    let status : IsWentWithin (went_shown c.status_with-status.result) = subst IsWentWithin (sym c.status_with-status.ensures) (went_within flags c.as_bytes.result.now few) in
    let shown : MetaSaid = Shown (record {
      went = went_shown c.status_with-status.result;
      returned = record { cas = Some c.args.asked.cas; flags = None; size = None; ttl = Some c.ttl.result };
      marks = c.no_marks.result;
    }) in
    subst IsSaidWithin (sym c.unless_q.ensures) (unless_q_within flags shown status)
