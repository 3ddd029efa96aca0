-- What is kept of an item: a cell, byte by byte, and a cell read from left to right.
use Rattle.std.specs.Prelude.{◌<◌, ℕ, ◌+◌, ◌^◌, List, [], ◌∷◌, ◌++◌, Bool, true, false, not, ◌==◌, if◌then◌else◌, Option, Some, None, is_some, unwrap_or, bit_and, IfSome}
use Rattle.std.specs.Int.{w32, w64, to_be_bytes}
use Rattle.record_pages.specs.Expiry.{never}
use Rattle.record_pages.specs.Reading.{◌>>=◌, byte_at, number_at}
use Rattle.item_lane.specs.declared.head.Head.{Head}
use Rattle.item_lane.specs.declared.cache_item.CacheItem.{CacheItem}

-- an item that is kept: its head and its data
pub record Kept : Type 0 where
  pub head : Head
  pub bytes : List ℕ

-- the item that a lent one shows
abbrev pub kept_shown : CacheItem → Kept
kept_shown item = record { head = item.head; bytes = item.bytes.now }

-- a number, if there is one
abbrev pub if_so : Bool → ℕ → ℕ
if_so b n = if b then n else 0

-- the marks of a head: 1 for a stale item, 2 for one whose refresh is under way, 4 if flags follow, 8 if an expiry follows
abbrev pub marks_of : Head → ℕ
marks_of h = if_so h.is_stale 1 + if_so h.is_won 2 + if_so (not (h.flags == 0)) 4 + if_so (is_some h.expires) 8

-- the flags, which are left out if they are 0
abbrev pub flags_text : ℕ → List ℕ
flags_text flags = if flags == 0 then [] else to_be_bytes w32 flags

-- the expiry, which is left out if there is none
abbrev pub expiry_text : Option ℕ → List ℕ
expiry_text None = []
expiry_text (Some moment) = to_be_bytes w32 moment

-- a head: its marks, its cas unique, its flags, its expiry
abbrev pub head_text : Head → List ℕ
head_text h = marks_of h ∷ (to_be_bytes w64 h.cas ++ (flags_text h.flags ++ expiry_text h.expires))

-- a cell: a head, and the data of the item
abbrev pub cell_text : Kept → List ℕ
cell_text kept = head_text kept.head ++ kept.bytes

-- how many bytes a head has: 9, and 4 each for flags and an expiry
abbrev pub head_len : Head → ℕ
head_len h = 9 + if_so (not (h.flags == 0)) 4 + if_so (is_some h.expires) 4

-- the numbers of a head have so many bits
pub record IsHead (h : Head) : Type 0 where
  pub flags : h.flags < 2 ^ 32
  pub cas : h.cas < 2 ^ 64
  pub expires : IfSome h.expires (λ moment. moment < 2 ^ 32)

-- whether marks have this one
abbrev pub has_mark : ℕ → ℕ → Bool
has_mark mark marks = not (bit_and marks mark == 0)

-- a number of 32 bits at the front, if it is marked, and the bytes after it
abbrev pub marked_at : Bool → List ℕ → Option (Option ℕ × List ℕ)
marked_at false bytes = Some (None, bytes)
marked_at true bytes = do
  number ← number_at w32 bytes
  Some (Some number.0, number.1)

-- the head with these marks and numbers
abbrev pub head_with : ℕ → ℕ → Option ℕ → Option ℕ → Head
head_with marks cas flags expires = record {
  flags = unwrap_or flags 0;
  cas = cas;
  expires = expires;
  is_stale = has_mark 1 marks;
  is_won = has_mark 2 marks;
}

-- an item, if its head has these marks
abbrev pub if_marked : ℕ → Kept → Option Kept
if_marked marks kept = if marks_of kept.head == marks then Some kept else None

-- the item that these bytes are the cell of, if they are one: the marks are those of the head that is read, so no other bit of them
-- is set, and no flags of 0 follow
unfoldable pub decoded : List ℕ → Option Kept
decoded bytes = do
  marks ← byte_at bytes
  cas ← number_at w64 marks.1
  flags ← marked_at (has_mark 4 marks.0) cas.1
  expires ← marked_at (has_mark 8 marks.0) flags.1
  if_marked marks.0 (record { head = head_with marks.0 cas.0 flags.0 expires.0; bytes = expires.1 })

-- the moment at which an item expires, for the lane
abbrev pub expires_of : Head → ℕ
expires_of h = unwrap_or h.expires never
