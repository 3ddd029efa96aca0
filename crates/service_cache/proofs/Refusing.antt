-- What is known of a key that was answered, and of a put that was answered or refused.
use Rattle.std.proofs.Common.{◌≡◌, ◌<◌, ◌≤◌, ◌↔◌, ℕ, List, [], ◌∷◌, length, Option, Result, Ok, Err, refl, ap, sym, ◌∙◌, inl, inr, arith}
use Rattle.std.proofs.lemmas.Bool.{cases_lt}
use Rattle.record_pages.specs.Bounded.{IsKey}
use Rattle.record_pages.specs.Sizes.{object_size, room}
use Rattle.record_pages.specs.declared.key.KeyFault.TheVariants as keys
use Rattle.record_pages.specs.declared.put_fault.PutFault.{PutFault}
use Rattle.record_pages.specs.declared.put_fault.PutFault.TheVariants as puts
use Rattle.service_lane.specs.declared.filled.Filled.{Filled}
use Rattle.service_lane.specs.declared.filled.Filled.TheVariants.{Stored, Stale}
use Rattle.record_pages.specs.declared.pushed.Pushed.{Pushed}
use Rattle.deed_book.specs.declared.register.EntryFault.{EntryFault}
use Rattle.deed_book.specs.declared.register.EntryFault.TheVariants as entries
use Rattle.service_cache.specs.declared.seat_fault.SeatFault.{SeatFault}
use Rattle.service_cache.specs.declared.seat_fault.SeatFault.TheVariants as refusals
use Rattle.service_cache.specs.declared.seat_fault.SeatPutFault.{SeatPutFault}
use Rattle.service_cache.specs.Refusals.{RefusesPut}
use Rattle.service_cache.specs.declared.seat_fault.SeatPutFault.TheVariants as put_refusals

-- what is answered is a key's
pub is_key : {X : Type 0} (x : X) (key : List ℕ) → ((Ok x ≡ Err keys.KeyEmpty) ↔ (key ≡ [])) → ((Ok x ≡ Err keys.KeyTooLong) ↔ (255 < length key)) → IsKey key
is_key x [] empty long = absurd (let no = empty.1 refl in cc)
is_key x (b ∷ bytes) empty long = elim (cases_lt 255 (length (b ∷ bytes))) [
  | inl more ↦ absurd (let no = long.1 more in cc)
  | inr few ↦ (omega arith, few)
]

-- a put that is refused for its size is too large, and one that is refused for memory is not
pub refused_put : (size : ℕ) (key value : List ℕ) (r : Result Pushed PutFault) (fault : PutFault) → r ≡ Err fault → ((r ≡ Err puts.TooLarge) ↔ (room size < object_size key value)) → RefusesPut size key value (put_refusals.Put fault)
refused_put size key value r puts.TooLarge is large = large.0 is
refused_put size key value r puts.OutOfMemory is large = elim (cases_lt (room size) (object_size key value)) [
  | inl more ↦ absurd (let no = sym is ∙ large.1 more in cc)
  | inr few ↦ few
]

-- an object that was stored fits
pub stored_fits : (size : ℕ) (key value : List ℕ) (pushed : Pushed) → ((◌≡◌ {A = Result Pushed PutFault} (Ok pushed) (Err puts.TooLarge)) ↔ (room size < object_size key value)) → object_size key value ≤ room size
stored_fits size key value pushed large = elim (cases_lt (room size) (object_size key value)) [
  | inl more ↦ absurd (let no = large.1 more in cc)
  | inr few ↦ few
]

-- a fill that was stored was not stale, whatever is answered then
pub not_stale : {E F : Type 0} (was : Result Filled E) (then : Result Filled F) (pushed : Pushed) (ended : Type 0) → was ≡ Ok (Stored pushed) → ((was ≡ Ok Stale) ↔ ended) → ¬ (then ≡ Ok Stale) → (then ≡ Ok Stale) ↔ ended
not_stale was then pushed ended is told other = (λ stale. absurd (other stale), λ over. absurd (let no = sym is ∙ told.1 over in cc))

-- two faults of the book are the same if what they refuse with is
book_same : {X : Type 0} (one other : EntryFault) → ◌≡◌ {A = Result X SeatFault} (Err (refusals.Book one)) (Err (refusals.Book other)) → one ≡ other
book_same one other is = cc

entry_same : {X : Type 0} (one other : EntryFault) → ◌≡◌ {A = Result X EntryFault} (Err one) (Err other) → one ≡ other
entry_same one other is = cc

-- what the book refused, it refused for want of room exactly if the lane has none
pub full_exactly : {X Y : Type 0} (r : Result X SeatFault) (fault : EntryFault) (key : List ℕ) (none : Type 0) → r ≡ Err (refusals.Book fault) → (◌≡◌ {A = Result Y EntryFault} (Err fault) (Err entries.Full)) ↔ none → IsKey key → (r ≡ Err (refusals.Book entries.Full)) ↔ (IsKey key × none)
full_exactly {X} {Y} r fault key none is full has = (λ e. (has, full.0 (ap Err (book_same {X = X} fault entries.Full (sym is ∙ e)))), λ both. is ∙ ap (λ (f : EntryFault). Err (refusals.Book f)) (entry_same {X = Y} fault entries.Full (full.1 both.1)))

put_book_same : {X : Type 0} (one other : EntryFault) → ◌≡◌ {A = Result X SeatPutFault} (Err (put_refusals.Book one)) (Err (put_refusals.Book other)) → one ≡ other
put_book_same one other is = cc

-- so it is of a put
pub put_full_exactly : {X Y : Type 0} (r : Result X SeatPutFault) (fault : EntryFault) (none : Type 0) → r ≡ Err (put_refusals.Book fault) → (◌≡◌ {A = Result Y EntryFault} (Err fault) (Err entries.Full)) ↔ none → (r ≡ Err (put_refusals.Book entries.Full)) ↔ none
put_full_exactly {X} {Y} r fault none is full = (λ e. full.0 (ap Err (put_book_same {X = X} fault entries.Full (sym is ∙ e))), λ no. is ∙ ap (λ (f : EntryFault). Err (put_refusals.Book f)) (entry_same {X = Y} fault entries.Full (full.1 no)))

-- what was entered had room
pub entered_exactly : {X Y : Type 0} (x : X) (y : Y) (none : Type 0) → (◌≡◌ {A = Result Y EntryFault} (Ok y) (Err entries.Full)) ↔ none → (◌≡◌ {A = Result X SeatPutFault} (Ok x) (Err (put_refusals.Book entries.Full))) ↔ none
entered_exactly x y none full = (λ e. absurd (cc), λ no. absurd (let is = full.1 no in cc))
