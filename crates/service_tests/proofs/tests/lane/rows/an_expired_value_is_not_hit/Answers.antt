-- The value after a put is the one that was put, which has expired.
use Rattle.std.proofs.Common.{List, ℕ, subst}
use Rattle.certificate_checker.specs.Latest.{IsLive}
use Rattle.service_tests.proofs.LaneRows.{ok_same, put_is_expired, in_memory, in_any}
use Rattle.service_tests.proofs.tests.lane.rows.an_expired_value_is_not_hit.Goals as goal

pub returns-in-Ok-clause-memory : goal.returns-in-Ok-clause-memory
returns-in-Ok-clause-memory g c = λ told is.
    let a = c.args in
    let put = c.put.new.self in
    let found = c.get.new.found in
    let live = in_memory g.D.PageDevice.honest put.store.device put.deeds a.name.now found a.moment c.in-Ok.seen told (ok_same c.in-Ok.seen _ is) c.in-Ok.ensures.gets.live in
    put_is_expired c.latest_is_current.ensures a.lane.now.deeds put.deeds a.key a.value found a.expires a.moment c.in_ok-_pushed.ensures.stored.deeds c.requires.expired (subst (λ (k : List ℕ). IsLive put.deeds k found a.moment) c.requires.name live)

pub returns-in-Ok-clause-flash : goal.returns-in-Ok-clause-flash
returns-in-Ok-clause-flash g c = λ all tier told is.
    let a = c.args in
    let put = c.put.new.self in
    let found = c.get.new.found in
    let live = in_any g.D.PageDevice.honest put.store.device put.deeds a.name.now found a.moment c.in-Ok.seen tier told all (ok_same c.in-Ok.seen _ is) c.in-Ok.ensures.gets.live in
    put_is_expired c.latest_is_current.ensures a.lane.now.deeds put.deeds a.key a.value found a.expires a.moment c.in_ok-_pushed.ensures.stored.deeds c.requires.expired (subst (λ (k : List ℕ). IsLive put.deeds k found a.moment) c.requires.name live)

pub put-requires : goal.put-requires
put-requires g c = assumption

pub get-requires : goal.get-requires
get-requires g c = assumption
