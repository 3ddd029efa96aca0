-- The data of an item in a buffer.
use Rattle.std.proofs.Common.{◌≡◌, ℕ, ◌≤◌, List, length, Option, Some, None, ap, arith}
use Rattle.std.specs.Prelude.{IfSome}
use Rattle.item_lane.specs.declared.cache_item.CacheItem.{CacheItem}

-- they have no more bytes than the buffer
pub within : (item : Option CacheItem) (bytes found : List ℕ) → IfSome item (λ i. length i.bytes.now ≤ length bytes) → bytes ≡ found → length found ≤ 2048 → IfSome item (λ i. length i.bytes.now ≤ 2048)
within None bytes found few is short = tt
within (Some item) bytes found few is short = let same : length bytes ≡ length found = ap length is in omega (arith, few, same, short)
