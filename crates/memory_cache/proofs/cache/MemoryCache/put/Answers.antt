use Rattle.std.proofs.Common.{List, ℕ, Some, None, ◌∙◌, ap, sym, refl, subst}
use Rattle.std.proofs.lemmas.Bool.{false≢true}
use Rattle.std.specs.Prelude.{if◌then◌else◌, IsSome}
use Rattle.lru.specs.LruCache.{LruCache}
use Rattle.memory_cache.specs.declared.pair.Pair.{Pair}
use Rattle.memory_cache.specs.MemoryList.{MemoryList, value_in, after_put, pushed_out}
use Rattle.memory_cache.specs.Entries.{memory_of, is_first}
use Rattle.memory_cache.proofs.Finding.{value_found}
use Rattle.memory_cache.proofs.Ordering.{put_after, displaced_out, nothing_out}
use Rattle.memory_cache.proofs.cache.MemoryCache.put.Goals as goal
use Rattle.memory_cache.proofs.cache.MemoryCache.put.Goals.{in-Ok-Some, in-Ok-None, in-Err}
use Rattle.record_pages.specs.declared.timed_value.TimedValue.{TimedValue}

pub returns-clause-out : goal.returns-clause-out
returns-clause-out c =
    let objects = c.self.inside.objects in
    let valid = c.know_valid.ensures in
    let pair : Pair = record { key = c.args.key; value = c.args.value } in
    elim c.match-push.branch [
      | in-Ok-Some w ↦
          let left : Pair = record { key = w.in-Ok-Some.key; value = w.in-Ok-Some.value } in
          let ensured = w.in-Ok-Some.ensures in
          rw w.result-is (w.unless_first.ensures
          ∙ ap (λ (l : LruCache (List ℕ) TimedValue). if is_first left.key l.entries then None else Some left) ensured.entries
          ∙ displaced_out objects c.args.key c.args.value valid.0 valid.1 valid.2 (left.key, left.value) (sym w.in-Ok-Some.field-0-is ∙ ensured.old)
          ∙ ap (pushed_out pair) c.self.view_is)
      | in-Ok-None w ↦
          let ensured = w.in-Ok-None.ensures in
          rw w.result-is (nothing_out objects c.args.key c.args.value valid.0 valid.1 valid.2 (sym w.in-Ok-None.field-0-is ∙ ensured.old)
          ∙ ap (pushed_out pair) c.self.view_is)
      | in-Err w ↦ rw w.result-is tt
    ]

pub returns-clause-after : goal.returns-clause-after
returns-clause-after c =
    let objects = c.self.inside.objects in
    let valid = c.know_valid.ensures in
    let pair : Pair = record { key = c.args.key; value = c.args.value } in
    let after = put_after objects c.args.key c.args.value valid.0 valid.1 valid.2 ∙ ap (after_put pair) c.self.view_is in
    elim c.match-push.branch [
      | in-Ok-Some w ↦ rw w.result-is (ap memory_of w.in-Ok-Some.ensures.entries ∙ after)
      | in-Ok-None w ↦ rw w.result-is (ap memory_of w.in-Ok-None.ensures.entries ∙ after)
      | in-Err w ↦ rw w.result-is tt
    ]

pub returns-clause-replaces : goal.returns-clause-replaces
returns-clause-replaces c = λ there.
    let found = value_found c.args.key c.self.inside.objects.entries ∙ ap (λ (m : MemoryList). value_in c.args.key m.pairs) c.self.view_is in
    elim c.match-push.branch [
      | in-Ok-Some w ↦ rw w.result-is refl
      | in-Ok-None w ↦ rw w.result-is refl
      | in-Err w ↦ absurd (false≢true (w.in-Err.ensures.succeeds (subst IsSome (sym found) there)))
    ]
