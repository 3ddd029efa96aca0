-- Bytes that a lane refuses are no key's.
use Rattle.std.proofs.Common.{◌≡◌, ◌≢◌, ◌<◌, ◌↔◌, ℕ, List, [], length, Result, Err, refl, ap, sym, arith}
use Rattle.record_pages.specs.Bounded.{IsKey}
use Rattle.record_pages.specs.declared.key.KeyFault.{KeyFault}
use Rattle.record_pages.specs.declared.key.KeyFault.TheVariants as keys

module _ {X : Type 0} (key : List ℕ) (fault : KeyFault) (empty : (◌≡◌ {A = Result X KeyFault} (Err fault) (Err keys.KeyEmpty)) ↔ (key ≡ [])) (long : (◌≡◌ {A = Result X KeyFault} (Err fault) (Err keys.KeyTooLong)) ↔ (255 < length key)) (memory : ◌≢◌ {A = Result X KeyFault} (Err fault) (Err keys.OutOfMemory)) where
  no_key_by : (f : KeyFault) → f ≡ fault → ¬ IsKey key
  no_key_by keys.KeyEmpty is = λ has. let none : length key ≡ 0 = ap length (empty.0 (ap Err (sym is))) in omega (arith, none, has.0)
  no_key_by keys.KeyTooLong is = λ has. let more : 255 < length key = long.0 (ap Err (sym is)) in omega (arith, more, has.1)
  no_key_by keys.OutOfMemory is = λ has. memory (ap Err (sym is))

  pub no_key : ¬ IsKey key
  no_key = no_key_by fault refl
