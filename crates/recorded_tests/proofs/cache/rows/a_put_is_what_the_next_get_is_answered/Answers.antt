-- The get asks a store that has the value in memory.
use Rattle.std.proofs.Common.{◌≡◌, ℕ, List, Some, sym, subst}
use Rattle.record_pages.specs.Expiry.{timed}
use Rattle.memory_cache.specs.MemoryList.{value_in}
use Rattle.recorded_tests.proofs.BookRows.{from_memory, put_is_kept}
use Rattle.recorded_tests.proofs.cache.rows.a_put_is_what_the_next_get_is_answered.Goals as goal

pub returns-in-Ok-act : goal.returns-in-Ok-act
returns-in-Ok-act g c = λ roomy.
    let a = c.args in
    let d = g.D.PageDevice in
    let mid = c.act.new.self.store in
    let kept = put_is_kept d.honest d.failures d.held g.row.PAGE a.object.key a.object.value a.object.word a.object.expires a.book.now.store mid c.in-Ok.field-0.outcome c.in-Ok.ensures.acts.gives roomy in
    from_memory d.honest d.failures d.held g.row.PAGE a.again.now a.moment mid c.act-2.new.self.store c.in-Ok-act.acted.outcome (timed a.object.value a.object.expires) c.in-Ok-act.ensures.acts.gives
    (subst (λ (k : List ℕ). value_in k mid.memory.pairs ≡ Some (timed a.object.value a.object.expires)) (sym c.requires.same) kept)
