-- What a search for a key in its set finds.
use Rattle.std.specs.Prelude.{◌≡◌, ◌<◌, ℕ, List, Option, IsSomeAnd, IsTrue, Bool, true, false, Ok}
use Rattle.std.specs.Bool.{OnTrue, OnFalse}
use Rattle.page_device.specs.Lending.{OnlyReads}
use Rattle.record_pages.specs.Recs.{Rec}
use Rattle.record_pages.specs.Sizes.{max_set_records}
use Rattle.record_pages.specs.declared.looked.Looked.{Looked}
use Rattle.record_pages.specs.declared.looked.Looked.TheVariants as looked
use Rattle.set_hash.specs.declared.placed.Placed.{Placed}
use Rattle.kset.specs.declared.located_in_set.LocatedInSet.{LocatedInSet}
use Rattle.kset.specs.declared.located_in_set.LocatedInSet.TheVariants as located
use Rattle.kset.specs.Notes.{lets_show}
use Rattle.kset.specs.Sets.{SetsState, notes_of, hit_in}
use Rattle.kset.specs.Pages.{AreSpelledOn}
use Rattle.kset.specs.Shown.{first_visible, visible_in}
use Rattle.kset.specs.Look.{is_set_fault, SetLookLeaves, SetLookGives}
use Rattle.kset.specs.After.{IsForeign}
use Rattle.kset.specs.Keeps.{KeepsSets}

-- what a look-up answers by what is located: the value of a hit is what the buffer holds
abbrev pub looked_of : LocatedInSet → List ℕ → Looked
looked_of (located.Hit slot expires) buffer = looked.Hit buffer
looked_of located.Expired buffer = looked.Expired
looked_of located.Absent buffer = looked.Absent
looked_of located.Fault buffer = looked.Fault
looked_of located.Damaged buffer = looked.Damaged

-- a hit is located
abbrev pub is_hit : LocatedInSet → Bool
is_hit (located.Hit slot expires) = true
is_hit _ = false

-- the sets once the slot of a hit in this set is touched; any other answer leaves nothing to touch
abbrev pub sets_after : LocatedInSet → ℕ → SetsState → SetsState
sets_after (located.Hit slot expires) set k = hit_in k set slot
sets_after _ set k = k

-- the slot of a hit is one that a page can have
abbrev pub IsSlot : LocatedInSet → Type 0
IsSlot (located.Hit slot expires) = slot < max_set_records
IsSlot _ = Unit {0}

-- the slot of a hit is that of the first of these visible records with the key, which expires then
abbrev pub NamesFirst : List (ℕ × Rec) → List ℕ → LocatedInSet → Type 0
NamesFirst visible key (located.Hit slot expires) = IsSomeAnd (first_visible visible key) (λ x. (x.0 ≡ slot) × (x.1.value.expires ≡ expires))
NamesFirst visible key _ = Unit {0}

-- A search for a key. It changes nothing but the device, of which it only reads, and the buffer, which holds the value of a
-- hit. A key that the filter denies is absent without a call of the device. The answer is what a look-up gives, once the slot
-- of a hit is touched; and it names that slot, and when the record expires. Off a page that is not the set's, it is damaged.
pub record SetLocates {D : Type 0} (size : ℕ) (pages : D → ℕ) (honest : D → Bool) (failures : D → ℕ) (held : D → ℕ → Option (List ℕ)) (placed : Placed) (key : List ℕ) (moment : ℕ) (k : SetsState) (device : D) (was : List ℕ) (found : LocatedInSet) (device' : D) (buffer : List ℕ) : Type 0 where
  pub reads : OnlyReads pages honest failures held device (is_set_fault (Ok (looked_of found buffer))) device'
  pub keeps : KeepsSets size (honest device) (held device) k (held device') k
  pub leaves : SetLookLeaves k placed.set (Ok (looked_of found buffer)) (sets_after found placed.set k)
  pub slot : IsSlot found
  pub stays : OnFalse (is_hit found) (buffer ≡ was)
  pub denied : OnFalse (lets_show (notes_of k placed.set) placed.hash) ((found ≡ located.Absent) × (device' ≡ device))
  pub names : IsTrue (honest device) → AreSpelledOn size (held device) k → NamesFirst (visible_in (held device) k placed.set) key found
  pub gives : IsTrue (honest device) → AreSpelledOn size (held device) k →
      SetLookGives (visible_in (held device) k placed.set) key moment k placed.set (looked_of found buffer) (sets_after found placed.set k)
  pub foreign : IsTrue (honest device) → IsForeign placed.set (held device placed.set) → OnTrue (lets_show (notes_of k placed.set) placed.hash)
      (OnFalse (is_set_fault (Ok (looked_of found buffer))) (found ≡ located.Damaged))
  pub shown : IsTrue (honest device) → visible_in (held device') (sets_after found placed.set k) ≡ visible_in (held device) k
