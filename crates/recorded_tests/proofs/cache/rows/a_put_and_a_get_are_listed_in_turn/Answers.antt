-- Each call is listed, last, with what the pass has seen for its end, and the next one starts above that.
use Rattle.std.proofs.Common.{◌≡◌, ◌∙◌, ◌++◌, ◌∷◌, [], List, ap, append_assoc, refl}
use Rattle.history_recorder.specs.Operations.{lane_of_key}
use Rattle.history_recorder.specs.declared.operation.Operation.TheVariants.{Get, Put}
use Rattle.shared_cache.specs.Acts.{listing}
use Rattle.shared_cache.specs.Listed.{Listed}
use Rattle.shared_cache.specs.declared.response.Response.TheVariants.{Got, Stored}
use Rattle.recorded_tests.proofs.cache.rows.a_put_and_a_get_are_listed_in_turn.Goals as goal

two_more : (old mid new : List Listed) (put got : Listed) → mid ≡ old ++ put ∷ [] → new ≡ mid ++ got ∷ [] → new ≡ old ++ put ∷ got ∷ []
two_more old mid new put got first second = second ∙ ap (λ (ls : List Listed). ls ++ got ∷ []) first ∙ append_assoc old (put ∷ []) (got ∷ [])

pub returns-in-Ok-get : goal.returns-in-Ok-get
returns-in-Ok-get g c =
    let a = c.args in
    let layout = a.cache.now.layout in
    let mid = c.put.new.pass in
    let first = c.in-Ok.ensures.made in
    let second = c.in-Ok-get.ensures.made in
    let put : Listed = listing (lane_of_key layout a.object.key) first.position a.pass.now.caller first.start first.point mid.sight.seen (Put a.object.key a.object.value a.object.word a.object.expires) (Stored c.in-Ok.field-0) in
    let got : Listed = listing (lane_of_key layout a.other.now) second.position mid.caller second.start second.point c.get.new.pass.sight.seen (Get a.other.now a.moment) (Got c.in-Ok-get.told) in
    (put, got, two_more a.pass.now.calls mid.calls c.get.new.pass.calls put got first.listed second.listed, refl, refl, second.started, refl)
