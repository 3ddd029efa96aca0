-- The laws of a lane's steps.
use Rattle.std.proofs.Common.{ℕ, List, Option, Some, None, sym, subst}
use Rattle.memory_cache.specs.declared.pair.Pair.{Pair}
use Rattle.mover.specs.Lane.{LaneState}
use Rattle.mover.specs.Put.{put_step}
use Rattle.mover.specs.PutBack.{put_back_step}
use Rattle.mover.specs.Strike.{removed}
use Rattle.mover.specs.Visible.{ShowsFrom}
use Rattle.mover.specs.Laws.{StepsInOrder, GetShows, PutShows, PutBackShows, RemovalShows, FlushShows, BeginShows, CommitShows, AbortShows}
use Rattle.mover.proofs.public_laws.Showing.{no_more, others, it_alone, get_shows, get_tells, flush_shows}
use Rattle.mover.proofs.Marking.{removal_others, put_alone}
use Rattle.mover.proofs.public_laws.PutBackLaws.{put_back_alone, put_back_kept}
use Rattle.mover.proofs.OrderKept.{KeepsOrder, get_kept, removed_kept, put_kept, flushed_kept}
use Rattle.mover.proofs.MovingShows.{begun_shows, commit_shows, abort_shows}
use Rattle.mover.proofs.MoveKept.{begun_kept, commit_kept, abort_kept}

-- what a step shows, and that it keeps a lane in order
pub both : (struck : Option (List ℕ)) (put : Option Pair) (old new : LaneState) → ShowsFrom struck put old new → KeepsOrder old new → StepsInOrder struck put old new
both struck put old new shows keeps = record { shows = shows; order = keeps.1; shape = keeps.0 }

pub get_law : GetShows
get_law key moment old new answer was gives =
    (both None None old new (no_more old new (get_shows key moment old new answer gives)) (get_kept key moment old new answer was gives), get_tells key moment old new answer gives)

pub put_law : PutShows
put_law size admit word p old new pushed was gives =
    subst (StepsInOrder (Some p.key) (Some p) old) (sym gives.1)
    (both (Some p.key) (Some p) old (put_step size admit p word old).lane (it_alone p old (put_step size admit p word old).lane (put_alone size admit word p old was.placed.log was.marked)) (put_kept size admit word p old was))

pub put_back_law : PutBackShows
put_back_law size p old new returned was gives =
    subst (StepsInOrder None (Some p) old) (sym gives.1) (both None (Some p) old (put_back_step size p old).lane (put_back_alone size p old) (put_back_kept size p old was))

pub removal_law : RemovalShows
removal_law key old new was is =
    subst (StepsInOrder (Some key) None old) (sym is)
    (both (Some key) None old (removed key old) (others key old (removed key old) (removal_others key old was.placed.log was.marked)) (removed_kept key old was))

pub flush_law : FlushShows
flush_law old new flushed was gives =
    let keeps = flushed_kept old new flushed was gives in
    both None None old new (no_more old new (flush_shows flushed old new keeps.0 gives)) keeps

pub begin_law : BeginShows
begin_law size least old new b was gives =
    both None None old new (no_more old new (begun_shows size least old b new was.placed.log was.placed.sets gives)) (begun_kept size least old was b new gives)

pub commit_law : CommitShows
commit_law size plan number old new answer was gives =
    both None None old new (no_more old new (commit_shows size plan number old answer new gives)) (commit_kept size plan number old new answer was gives)

pub abort_law : AbortShows
abort_law number old new answer was gives =
    both None None old new (no_more old new (abort_shows number old answer new gives)) (abort_kept number old new answer was gives)
