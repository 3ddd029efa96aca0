-- A put that was refused has removed the key, after which no value is live.
use Rattle.std.proofs.Common.{List, ℕ, subst}
use Rattle.certificate_checker.specs.Latest.{IsLive}
use Rattle.mover.proofs.public_laws.Showing.{some_same}
use Rattle.service_tests.proofs.LaneRows.{removed_is_not_live, in_memory, in_any}
use Rattle.service_tests.proofs.tests.lane.rows.nothing_older_is_hit.Goals as goal

pub returns-in-Ok-clause-memory : goal.returns-in-Ok-clause-memory
returns-in-Ok-clause-memory g c = λ told is.
    let a = c.args in
    let removed = c.put_or_remove.new.self in
    let found = c.get.new.found in
    let live = in_memory g.D.PageDevice.honest removed.store.device removed.deeds a.name.now found a.moment c.in-Ok.seen told (some_same is) c.in-Ok.ensures.gets.live in
    removed_is_not_live c.latest_is_current.ensures a.lane.now.deeds removed.deeds a.key found a.moment c.in-Err.ensures.removed.deeds (subst (λ (k : List ℕ). IsLive removed.deeds k found a.moment) c.requires live)

pub returns-in-Ok-clause-flash : goal.returns-in-Ok-clause-flash
returns-in-Ok-clause-flash g c = λ all tier told is.
    let a = c.args in
    let removed = c.put_or_remove.new.self in
    let found = c.get.new.found in
    let live = in_any g.D.PageDevice.honest removed.store.device removed.deeds a.name.now found a.moment c.in-Ok.seen tier told all (some_same is) c.in-Ok.ensures.gets.live in
    removed_is_not_live c.latest_is_current.ensures a.lane.now.deeds removed.deeds a.key found a.moment c.in-Err.ensures.removed.deeds (subst (λ (k : List ℕ). IsLive removed.deeds k found a.moment) c.requires live)

pub put_or_remove-requires : goal.put_or_remove-requires
put_or_remove-requires g c = assumption

pub get-requires : goal.get-requires
get-requires g c = assumption
