-- Which puts a hit can have read.
use Rattle.std.specs.Prelude.{◌≡◌, ◌≢◌, ℕ, List, All, slice_get, Some, IsTrue}
use Rattle.record_pages.specs.Expiry.{is_live}
use Rattle.trace_file.specs.declared.act.Act.TheVariants.{Put, Hit}
use Rattle.trace_file.specs.declared.call.Call.{Call}
use Rattle.certificate_checker.specs.Deeds.{deed_of}
use Rattle.certificate_checker.specs.Latest.{Writes}
use Rattle.certificate_checker.specs.Orders.{Precedes}

-- a write of the key stands between two calls in time: the first precedes it, and it precedes the second
pub record StandsBetween (key : List ℕ) (first second call : Call) : Type 0 where
  pub writes : Writes (deed_of call) key
  pub behind : Precedes first call
  pub before : Precedes call second

-- the call at a position is a hit, that at another one is a put of its key and value, and the hit does not precede the put
pub record HasBegun (history : List Call) (hit put : ℕ) : Type 0 where
  pub hit_call : Call
  pub put_call : Call
  pub value : List ℕ
  pub moment : ℕ
  pub expires : ℕ
  pub hit_at : slice_get history hit ≡ Some hit_call
  pub put_at : slice_get history put ≡ Some put_call
  pub hit_is : hit_call.act ≡ Hit value moment
  pub put_is : put_call.act ≡ Put value expires
  pub one_key : put_call.key ≡ hit_call.key
  pub begun : ¬ Precedes hit_call put_call

-- such a put, and no write of the key stands between it and the hit
pub record StandsFor (history : List Call) (hit put : ℕ) : Type 0 where
  pub has : HasBegun history hit put
  pub stands : All (λ call. ¬ StandsBetween has.hit_call.key has.put_call has.hit_call call) history

-- such a put, live at the hit's moment
pub record LivesFor (history : List Call) (hit put : ℕ) : Type 0 where
  pub has : HasBegun history hit put
  pub live : IsTrue (is_live has.expires has.moment)

-- the hit at a position may have read the put at another one: it stands, and is live
pub record CouldRead (history : List Call) (hit put : ℕ) : Type 0 where
  pub stands : StandsFor history hit put
  pub lives : LivesFor history hit put

-- a fact holds of two positions
pub record HoldsTwice (P : ℕ → Type 0) : Type 0 where
  pub one : ℕ
  pub other : ℕ
  pub apart : one ≢ other
  pub first : P one
  pub second : P other

-- the hit at a position may have read several puts
abbrev pub HasSeveral : List Call → ℕ → Type 0
HasSeveral history hit = HoldsTwice (CouldRead history hit)

-- the call at a position is a hit that can have read no put
pub record HasNone (history : List Call) (hit : ℕ) : Type 0 where
  pub call : Call
  pub value : List ℕ
  pub moment : ℕ
  pub at : slice_get history hit ≡ Some call
  pub is : call.act ≡ Hit value moment
  pub none : (put : ℕ) → ¬ CouldRead history hit put
