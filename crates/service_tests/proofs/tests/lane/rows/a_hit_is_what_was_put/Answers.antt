-- The value after a put is the one that was put, since it is the key's latest.
use Rattle.std.proofs.Common.{List, ℕ, subst}
use Rattle.certificate_checker.specs.Latest.{IsLive}
use Rattle.service_tests.proofs.LaneRows.{ok_same, put_is_live, in_memory, in_any}
use Rattle.service_tests.proofs.tests.lane.rows.a_hit_is_what_was_put.Goals as goal

pub returns-in-Ok-clause-memory : goal.returns-in-Ok-clause-memory
returns-in-Ok-clause-memory g c = λ told is.
    let a = c.args in
    let was = a.lane.now.deeds in
    let put = c.put.new.self in
    let found = c.get.new.found in
    let live = in_memory g.D.PageDevice.honest put.store.device put.deeds a.name.now found a.moment c.in-Ok.seen told (ok_same c.in-Ok.seen _ is) c.in-Ok.ensures.gets.live in
    put_is_live c.latest_is_current.ensures was put.deeds a.key a.value found a.expires a.moment c.in_ok-_pushed.ensures.stored.deeds (subst (λ (k : List ℕ). IsLive put.deeds k found a.moment) c.requires live)

pub returns-in-Ok-clause-flash : goal.returns-in-Ok-clause-flash
returns-in-Ok-clause-flash g c = λ all tier told is.
    let a = c.args in
    let was = a.lane.now.deeds in
    let put = c.put.new.self in
    let found = c.get.new.found in
    let live = in_any g.D.PageDevice.honest put.store.device put.deeds a.name.now found a.moment c.in-Ok.seen tier told all (ok_same c.in-Ok.seen _ is) c.in-Ok.ensures.gets.live in
    put_is_live c.latest_is_current.ensures was put.deeds a.key a.value found a.expires a.moment c.in_ok-_pushed.ensures.stored.deeds (subst (λ (k : List ℕ). IsLive put.deeds k found a.moment) c.requires live)

pub put-requires : goal.put-requires
put-requires g c = assumption

pub get-requires : goal.get-requires
get-requires g c = assumption
