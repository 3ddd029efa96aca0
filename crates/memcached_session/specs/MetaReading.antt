-- What the flags of a meta command ask of the lane of its key, in the words of memcached's doc/protocol.txt.
use Rattle.std.specs.Prelude.{ℕ, ◌%◌, ◌^◌, Bool, false, true, List, ◌==◌, if◌then◌else◌, Option, Some, None, is_some, unwrap_or, slice_index_or}
use Rattle.memcached_text.specs.declared.exptime.Exptime.{Exptime}
use Rattle.memcached_text.specs.declared.exptime.Exptime.TheVariants as exptimes
use Rattle.memcached_text.specs.Meta.{token_at, number_at, exptime_at, is_before}
use Rattle.item_lane.specs.declared.change.Change.{Change}
use Rattle.item_lane.specs.declared.change.Change.TheVariants.{Increment, Decrement}
use Rattle.item_lane.specs.declared.expiry_change.ExpiryChange.{ExpiryChange}
use Rattle.item_lane.specs.declared.expiry_change.ExpiryChange.TheVariants.{Stays, Becomes}
use Rattle.item_lane.specs.declared.meta_counting.MetaDelta.{MetaDelta}
use Rattle.item_lane.specs.declared.meta_counting.InitialNumber.{InitialNumber}
use Rattle.item_lane.specs.declared.meta_deleting.Invalidation.{Invalidation}
use Rattle.item_lane.specs.declared.meta_deleting.MetaDelete.{MetaDelete}
use Rattle.item_lane.specs.declared.meta_getting.MetaGet.{MetaGet}
use Rattle.item_lane.specs.declared.meta_getting.Recache.{Recache}
use Rattle.item_lane.specs.declared.meta_getting.Vivify.{Vivify}
use Rattle.item_lane.specs.declared.meta_storing.MetaMode.{MetaMode}
use Rattle.item_lane.specs.declared.meta_storing.MetaMode.TheVariants as modes
use Rattle.item_lane.specs.declared.meta_storing.MetaSet.{MetaSet}
use Rattle.item_lane.specs.Cells.{Kept}
use Rattle.item_lane.specs.Meta.{expiry_after}
use Rattle.memcached_session.specs.Expiring.{expires_at}

-- the line has a flag with this letter
abbrev pub has_flag : ℕ → List ℕ → Bool
has_flag letter flags = is_some (token_at letter flags)

-- T: what becomes of an item's expiry
abbrev pub change_by : ℕ → Option Exptime → ExpiryChange
change_by moment None = Stays
change_by moment (Some exptime) = Becomes (expires_at moment exptime)

abbrev pub touch_in : ℕ → List ℕ → ExpiryChange
touch_in moment flags = change_by moment (exptime_at 84 flags)

-- N: when an item expires that a miss stores; T says it, if it stands in the line after N
abbrev pub new_expiry : ℕ → List ℕ → Exptime → Option ℕ
new_expiry moment flags exptime =
    if is_before 84 78 flags then expires_at moment exptime
    else expiry_after (touch_in moment flags) (expires_at moment exptime)

abbrev pub vivify_by : ℕ → ℕ → List ℕ → Option Exptime → Option Vivify
vivify_by moment cas flags None = None
vivify_by moment cas flags (Some exptime) = Some (record { expires = new_expiry moment flags exptime; cas = cas })

-- R: an item that expires before these seconds are over is to be refreshed; 0 and a negative number ask for none. The expiry that
-- counts is the one that T gives, if T stands in the line before R.
abbrev pub recache_by : ℕ → List ℕ → Option Exptime → Option Recache
recache_by moment flags None = None
recache_by moment flags (Some exptimes.Never) = None
recache_by moment flags (Some exptimes.Past) = None
recache_by moment flags (Some (exptimes.At seconds)) = Some (record { before = unwrap_or (expires_at moment (exptimes.At seconds)) 0; is_after_touch = is_before 84 82 flags })

-- mg
abbrev pub meta_get_in : ℕ → ℕ → List ℕ → MetaGet
meta_get_in moment cas flags = record {
  touch = touch_in moment flags;
  vivify = vivify_by moment cas flags (exptime_at 78 flags);
  recache = recache_by moment flags (exptime_at 82 flags);
}

-- the first byte of a token, 0 if there is none
abbrev pub first_by : Option (List ℕ) → ℕ
first_by None = 0
first_by (Some token) = slice_index_or token 0 0

-- M of ms
abbrev pub mode_by : ℕ → MetaMode
mode_by letter =
    if letter == 69 then modes.Add
    else (if letter == 65 then modes.Append
    else (if letter == 80 then modes.Prepend
    else (if letter == 82 then modes.Replace else modes.Set)))

-- F: the lower 32 bits of its number, which the client keeps with the value, 0 if it gives none
abbrev pub client_flags : Option ℕ → ℕ
client_flags None = 0
client_flags (Some number) = number % 2 ^ 32

-- ms: how it stores
abbrev pub meta_set_in : List ℕ → MetaSet
meta_set_in flags = record { mode = mode_by (first_by (token_at 77 flags)); compare = number_at 67 flags; invalidates = has_flag 73 flags }

-- ms: the item that its data block is to be; with no T it never expires
abbrev pub meta_kept : ℕ → ℕ → List ℕ → List ℕ → Kept
meta_kept moment cas flags block = record {
  head = record { flags = client_flags (number_at 70 flags); cas = cas; expires = expiry_after (touch_in moment flags) None; is_stale = false; is_won = false };
  bytes = block;
}

-- I of md
abbrev pub invalidation_by : ℕ → ℕ → List ℕ → Bool → Option Invalidation
invalidation_by moment cas flags false = None
invalidation_by moment cas flags true = Some (record { cas = cas; touch = touch_in moment flags })

-- md
abbrev pub meta_delete_in : ℕ → ℕ → List ℕ → MetaDelete
meta_delete_in moment cas flags = record { compare = number_at 67 flags; invalidation = invalidation_by moment cas flags (has_flag 73 flags) }

-- M of ma: D and - count down
abbrev pub change_in : ℕ → ℕ → Change
change_in letter amount =
    if letter == 68 then Decrement amount
    else (if letter == 45 then Decrement amount else Increment amount)

-- N and J of ma
abbrev pub initial_by : ℕ → List ℕ → Option Exptime → Option InitialNumber
initial_by moment flags None = None
initial_by moment flags (Some exptime) = Some (record { number = unwrap_or (number_at 74 flags) 0; expires = new_expiry moment flags exptime })

-- ma
abbrev pub meta_delta_in : ℕ → ℕ → List ℕ → MetaDelta
meta_delta_in moment cas flags = record {
  change = change_in (first_by (token_at 77 flags)) (unwrap_or (number_at 68 flags) 1);
  cas = cas;
  compare = number_at 67 flags;
  touch = touch_in moment flags;
  initial = initial_by moment flags (exptime_at 78 flags);
}
