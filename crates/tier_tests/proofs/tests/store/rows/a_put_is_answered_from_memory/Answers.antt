-- A get after a put, over any device.
use Rattle.std.proofs.Common.{◌≡◌, List, ℕ, Some, refl, sym, subst, ◌∙◌}
use Rattle.record_pages.specs.Expiry.{timed}
use Rattle.memory_cache.specs.MemoryList.{value_in}
use Rattle.mover.specs.Lane.{lane_of}
use Rattle.tier_tests.proofs.PutRow.{put_is_in_memory}
use Rattle.tier_tests.proofs.tests.store.rows.a_put_is_answered_from_memory.Goals as goal

pub returns-clause-answered : goal.returns-clause-answered
returns-clause-answered g c =
    let d = g.D.PageDevice in
    let known : value_in c.args.key c.put.new.self.memory.pairs ≡ Some (timed c.args.value c.args.expires) =
    put_is_in_memory g.row.PAGE c.args.store.now.layout.admit c.args.word (record { key = c.args.key; value = timed c.args.value c.args.expires }) (lane_of d.held c.args.store.now) (lane_of d.held c.put.new.self)
    c.layout-layout.ensures.kept.roomy c.in-Ok.ensures.gives.1 in
    c.in_ok-answer.ensures.in_memory (timed c.args.value c.args.expires) (subst (λ (k : List ℕ). value_in k c.put.new.self.memory.pairs ≡ Some (timed c.args.value c.args.expires)) (sym c.requires.same) known)

pub returns-clause-unread : goal.returns-clause-unread
returns-clause-unread g c =
    let d = g.D.PageDevice in
    let known : value_in c.args.key c.put.new.self.memory.pairs ≡ Some (timed c.args.value c.args.expires) =
    put_is_in_memory g.row.PAGE c.args.store.now.layout.admit c.args.word (record { key = c.args.key; value = timed c.args.value c.args.expires }) (lane_of d.held c.args.store.now) (lane_of d.held c.put.new.self)
    c.layout-layout.ensures.kept.roomy c.in-Ok.ensures.gives.1 in
    let again : value_in c.args.again.now c.put.new.self.memory.pairs ≡ Some (timed c.args.value c.args.expires) = subst (λ (k : List ℕ). value_in k c.put.new.self.memory.pairs ≡ Some (timed c.args.value c.args.expires)) (sym c.requires.same) known in
    c.get.ensures.unread (rw again refl) ∙ c.put.ensures.device

pub returns-in_err-answer-clause-unread : goal.returns-in_err-answer-clause-unread
returns-in_err-answer-clause-unread g c =
    let d = g.D.PageDevice in
    let known : value_in c.args.key c.put.new.self.memory.pairs ≡ Some (timed c.args.value c.args.expires) =
    put_is_in_memory g.row.PAGE c.args.store.now.layout.admit c.args.word (record { key = c.args.key; value = timed c.args.value c.args.expires }) (lane_of d.held c.args.store.now) (lane_of d.held c.put.new.self)
    c.layout-layout.ensures.kept.roomy c.in-Ok.ensures.gives.1 in
    let again : value_in c.args.again.now c.put.new.self.memory.pairs ≡ Some (timed c.args.value c.args.expires) = subst (λ (k : List ℕ). value_in k c.put.new.self.memory.pairs ≡ Some (timed c.args.value c.args.expires)) (sym c.requires.same) known in
    c.get.ensures.unread (rw again refl) ∙ c.put.ensures.device
