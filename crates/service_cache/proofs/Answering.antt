-- What a call with a seat tells of its result, for a result that is known.
use Rattle.std.proofs.Common.{◌≡◌, ◌≢◌, ◌<◌, ◌↔◌, ℕ, List, [], length, Result, Ok, Err, refl, ap, sym, ◌∙◌, arith}
use Rattle.record_pages.specs.Bounded.{IsKey}
use Rattle.record_pages.specs.declared.key.KeyFault.{KeyFault}
use Rattle.record_pages.specs.declared.key.KeyFault.TheVariants as keys
use Rattle.record_pages.specs.declared.put_fault.PutFault.{PutFault}
use Rattle.record_pages.specs.declared.put_fault.PutFault.TheVariants as puts
use Rattle.service_lane.specs.declared.filled.Filled.{Filled}
use Rattle.service_lane.specs.declared.filled.Filled.TheVariants.{Stale}
use Rattle.deed_book.specs.declared.register.EntryFault.{EntryFault}
use Rattle.deed_book.specs.declared.register.EntryFault.TheVariants as entries
use Rattle.service_cache.specs.Refusals.{RefusesRemoval, RefusesGet}
use Rattle.service_cache.specs.declared.seat_fault.SeatFault.{SeatFault}
use Rattle.service_cache.specs.declared.seat_fault.SeatFault.TheVariants as refusals
use Rattle.service_cache.specs.declared.seat_fault.SeatPutFault.{SeatPutFault}
use Rattle.service_cache.specs.declared.seat_fault.SeatPutFault.TheVariants as put_refusals

-- a put that the store refused was not refused by the book, nor the other way round
pub not_by_book : {X : Type 0} (r : Result X SeatPutFault) (fault : PutFault) (other : EntryFault) (says : Type 0) → r ≡ Err (put_refusals.Put fault) → r ≡ Err (put_refusals.Book other) → says
not_by_book r fault other says is e = absurd (let no = sym is ∙ e in cc)

pub not_by_store : {X : Type 0} (r : Result X SeatPutFault) (fault : EntryFault) (other : PutFault) (says : Type 0) → r ≡ Err (put_refusals.Book fault) → r ≡ Err (put_refusals.Put other) → says
not_by_store r fault other says is e = absurd (let no = sym is ∙ e in cc)

module _ {Y : Type 0} (key : List ℕ) (fault : KeyFault) (empty : (◌≡◌ {A = Result Y KeyFault} (Err fault) (Err keys.KeyEmpty)) ↔ (key ≡ [])) (long : (◌≡◌ {A = Result Y KeyFault} (Err fault) (Err keys.KeyTooLong)) ↔ (255 < length key)) (memory : ◌≢◌ {A = Result Y KeyFault} (Err fault) (Err keys.OutOfMemory)) where
  no_key_by : (f : KeyFault) → f ≡ fault → ¬ IsKey key
  no_key_by keys.KeyEmpty is = λ has. let none : length key ≡ 0 = ap length (empty.0 (ap Err (sym is))) in omega (arith, none, has.0)
  no_key_by keys.KeyTooLong is = λ has. let more : 255 < length key = long.0 (ap Err (sym is)) in omega (arith, more, has.1)
  no_key_by keys.OutOfMemory is = λ has. memory (ap Err (sym is))

  -- bytes that are refused are no key's
  pub no_key : ¬ IsKey key
  no_key = no_key_by fault refl

  -- a removal of them is refused for what they are
  pub removal_by : (f : KeyFault) → f ≡ fault → RefusesRemoval key (refusals.Key f)
  removal_by keys.KeyEmpty is = empty.0 (ap Err (sym is))
  removal_by keys.KeyTooLong is = long.0 (ap Err (sym is))
  removal_by keys.OutOfMemory is = absurd (memory (ap Err (sym is)))

  -- so is a get
  pub get_by : (f : KeyFault) → f ≡ fault → RefusesGet key (refusals.Key f)
  get_by keys.KeyEmpty is = empty.0 (ap Err (sym is))
  get_by keys.KeyTooLong is = long.0 (ap Err (sym is))
  get_by keys.OutOfMemory is = absurd (memory (ap Err (sym is)))

  module _ {X : Type 0} (r : Result X SeatFault) (is : r ≡ Err (refusals.Key fault)) where
    -- and the book is not asked
    pub book_unasked : (none : Type 0) → (r ≡ Err (refusals.Book entries.Full)) ↔ (IsKey key × none)
    book_unasked none = (λ e. absurd (let no = sym is ∙ e in cc), λ both. absurd (no_key both.0))

-- a removal that was entered had room
pub removal_entered : {X Y E : Type 0} (x : X) (y : Y) (full : E) (key : List ℕ) (none : Type 0) → (◌≡◌ {A = Result Y E} (Ok y) (Err full)) ↔ none → (◌≡◌ {A = Result X SeatFault} (Ok x) (Err (refusals.Book entries.Full))) ↔ (IsKey key × none)
removal_entered x y full key none told = (λ e. absurd (cc), λ both. absurd (let is = told.1 both.1 in cc))

-- a put that the store refused was entered
pub object_exactly : {X Y : Type 0} (r : Result X SeatPutFault) (fault : PutFault) (y : Y) (none : Type 0) → r ≡ Err (put_refusals.Put fault) → (◌≡◌ {A = Result Y EntryFault} (Ok y) (Err entries.Full)) ↔ none → (r ≡ Err (put_refusals.Book entries.Full)) ↔ none
object_exactly r fault y none is full = (λ e. not_by_book r fault entries.Full none is e, λ no. absurd (let it = full.1 no in cc))

-- a fill that the store refused was not stale
pub refused_not_stale : {E F : Type 0} (r : Result Filled F) (fault : F) (f : E) (ended : Type 0) → r ≡ Err fault → (◌≡◌ {A = Result Filled E} (Err f) (Ok Stale)) ↔ ended → (r ≡ Ok Stale) ↔ ended
refused_not_stale r fault f ended is told = (λ e. absurd (let no = sym is ∙ e in cc), λ over. absurd (let it = told.1 over in cc))

-- one that was stale is told so
pub is_stale : {E F : Type 0} (ended : Type 0) → (◌≡◌ {A = Result Filled E} (Ok Stale) (Ok Stale)) ↔ ended → (◌≡◌ {A = Result Filled F} (Ok Stale) (Ok Stale)) ↔ ended
is_stale ended told = (λ e. told.0 refl, λ over. refl)

put_same : {X : Type 0} (one other : PutFault) → ◌≡◌ {A = Result X SeatPutFault} (Err (put_refusals.Put one)) (Err (put_refusals.Put other)) → one ≡ other
put_same one other is = cc

-- and one that was refused for its size is too large
pub is_large : {X Y : Type 0} (r : Result X SeatPutFault) (fault : PutFault) (held large : Type 0) → r ≡ Err (put_refusals.Put fault) → (◌≡◌ {A = Result Y PutFault} (Err fault) (Err puts.TooLarge)) ↔ (held × large) → r ≡ Err (put_refusals.Put puts.TooLarge) → large
is_large {X} r fault held large is told e = (told.0 (ap Err (put_same {X = X} fault puts.TooLarge (sym is ∙ e)))).1
