-- How late a hit is that is wrong.
use Rattle.std.specs.Prelude.{ℕ, ◌-◌, Bool, true, false, List, fold, if◌then◌else◌, Option, Some, None, option_map, max, slice_get}
use Rattle.std.specs.List.{list_any}
use Rattle.trace_file.specs.declared.call.Call.{Call}
use Rattle.certificate_finder.specs.declared.excluded.Excluded.{Excluded}
use Rattle.certificate_finder.specs.declared.excluded.Excuse.{Excuse}
use Rattle.certificate_finder.specs.declared.excluded.Excuse.TheVariants.{Later, Expired, Replaced}

-- whether a value had expired, if that is why its put was not read
abbrev pub is_expiry : Excuse → Bool
is_expiry Later = false
is_expiry Expired = true
is_expiry (Replaced write) = false

abbrev pub has_expired : Excluded → Bool
has_expired excluded = is_expiry excluded.why

-- the end of the write that replaced a put, if that is why it was not read
abbrev pub excuse_end : List Call → Excuse → Option ℕ
excuse_end history Later = None
excuse_end history Expired = None
excuse_end history (Replaced write) = option_map (λ call. call.end) (slice_get history write)

abbrev pub replaced_end : List Call → Excluded → Option ℕ
replaced_end history excluded = excuse_end history excluded.why

-- the greater one of two numbers, or the one that there is
abbrev pub greater : Option ℕ → Option ℕ → Option ℕ
greater None other = other
greater (Some a) None = Some a
greater (Some a) (Some b) = Some (max a b)

-- the greatest of the ends of the writes that replaced these puts, if one did
abbrev pub end_of_last : List Call → List Excluded → Option ℕ
end_of_last history puts = fold (λ last excluded. greater last (replaced_end history excluded)) None puts

-- when the call at a position started, if there is one
abbrev pub start_at : List Call → ℕ → Option ℕ
start_at history position = option_map (λ call. call.start) (slice_get history position)

-- the time from an end to a start, if both are known
abbrev pub between : Option ℕ → Option ℕ → Option ℕ
between None end = None
between (Some start) None = None
between (Some start) (Some end) = Some (start - end)

-- how late a hit is that can't have read these puts: from the end of the last write that replaced one of them to its start; nothing if no write did, or if one of them was not read since it had expired
abbrev pub late_hit : List Call → ℕ → List Excluded → Option ℕ
late_hit history hit puts =
    if list_any has_expired puts then None else between (start_at history hit) (end_of_last history puts)
