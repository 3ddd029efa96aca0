-- A change of the number that the live item holds.
use Rattle.std.proofs.Common.{◌≡◌, ◌≤◌, true, length, Option, sym, subst, ◌∙◌, rules}
use Rattle.std.specs.Prelude.{IfSome}
use Rattle.item_lane.specs.declared.cache_item.CacheItem.{CacheItem}
use Rattle.item_lane.proofs.NumberLaws.{number_put}
use Rattle.item_lane.proofs.counting.Delta.verdict.Goals as goal

pub returns : goal.returns
returns c =
    let a = c.args in
    let item = c.in-Some.item in
    let yes : c.agrees.result ≡ true = search rules in
    let short : length item.bytes.now ≤ 2048 = subst (λ (o : Option CacheItem). IfSome o (λ i. length i.bytes.now ≤ 2048)) c.in-Some.is c.requires.short in
    number_put a.self a.live item c.in-Some.is (sym c.agrees.ensures ∙ yes) c.in-Some-number_in.old (sym c.number_in.ensures ∙ c.in-Some-number_in.is) c.counted.result c.of-number.result c.as_bytes-text.result.now a.spaces.now c.saturating_sub.result 2048
    c.counted.ensures c.of-number.ensures (c.as_bytes-text.ensures.value ∙ c.format.ensures.text) c.requires.spaces c.saturating_sub.ensures short
