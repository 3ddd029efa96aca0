-- The sentences that say what is wrong.
use Rattle.std.specs.Prelude.{ℕ, List, ◌++◌, codes, length, nat_lt, take, slice_get, Option, Some, None, if◌then◌else◌}
use Rattle.std.specs.Fmt.{decimal}
use Rattle.std.specs.List.{flat_map}
use Rattle.trace_file.specs.declared.call.Call.{Call}
use Rattle.certificate_finder.specs.declared.excluded.Excluded.{Excluded}
use Rattle.certificate_finder.specs.declared.excluded.Excuse.{Excuse}
use Rattle.certificate_finder.specs.declared.excluded.Excuse.TheVariants.{Later, Expired, Replaced}
use Rattle.certificate_finder.specs.declared.faults.CrossedWrites.{CrossedWrites}
use Rattle.certificate_finder.specs.declared.witness.Side.{Side}
use Rattle.history_picture.specs.Naming.{name_of, start_of, end_of, moment_of}
use Rattle.history_picture.specs.declared.latest.Latest.{Latest}
use Rattle.history_picture.specs.declared.latest.Latest.TheVariants as latests
use Rattle.history_picture.specs.declared.reason.Reason.{Reason}
use Rattle.history_picture.specs.declared.reason.Reason.TheVariants as reasons

-- one call ended before another started
unfoldable pub order_words : List Call → List ℕ → ℕ → ℕ → List ℕ
order_words history lines first second =
    name_of history lines first ++ (codes " ended at " ++ (decimal (end_of (slice_get history first)) ++ (codes ", before "
    ++ (name_of history lines second ++ (codes " started at " ++ decimal (start_of (slice_get history second)))))))

-- a put was written over before the hit: it ended before a write started, which ended before the hit started
unfoldable pub replaced_words : List Call → List ℕ → ℕ → ℕ → ℕ → List ℕ
replaced_words history lines hit put write =
    order_words history lines put write ++ (codes ", which ended at " ++ (decimal (end_of (slice_get history write))
    ++ (codes ", before the hit started at " ++ decimal (start_of (slice_get history hit)))))

-- a value had expired
unfoldable pub expired_words : List Call → List ℕ → ℕ → ℕ → List ℕ
expired_words history lines hit put =
    name_of history lines put ++ (codes " expired at " ++ (decimal (moment_of (slice_get history put)) ++ (codes ", and the hit was at moment "
    ++ decimal (moment_of (slice_get history hit)))))

-- why a hit can't have read a put
abbrev pub excuse_words : List Call → List ℕ → ℕ → ℕ → Excuse → List ℕ
excuse_words history lines hit put Later = order_words history lines hit put
excuse_words history lines hit put Expired = expired_words history lines hit put
excuse_words history lines hit put (Replaced write) = replaced_words history lines hit put write

-- what a hit is that can't have read its only put
abbrev pub hit_kind : Excuse → List ℕ
hit_kind Later = codes " came before its put: "
hit_kind Expired = codes " is of an expired value: "
hit_kind (Replaced write) = codes " is stale: "

-- one of several puts, and why it was not read
unfoldable pub also_words : List Call → List ℕ → ℕ → Excluded → List ℕ
also_words history lines hit excluded = codes "; " ++ excuse_words history lines hit excluded.put excluded.why

-- a hit whose key and value no call puts, or one put
abbrev pub lone_words : List Call → List ℕ → ℕ → Option Excluded → List ℕ
lone_words history lines hit None = name_of history lines hit ++ codes " is of a value that no call puts at its key"
lone_words history lines hit (Some one) = name_of history lines hit ++ (hit_kind one.why ++ excuse_words history lines hit one.put one.why)

-- a hit that can have read none of these puts: of several, what excludes the first eight
unfoldable pub hit_words : List Call → List ℕ → ℕ → List Excluded → List ℕ
hit_words history lines hit puts =
    if nat_lt 1 (length puts)
    then name_of history lines hit ++ (codes " can have read none of the " ++ (decimal (length puts) ++ (codes " puts of its value"
    ++ flat_map (also_words history lines hit) (take 8 puts))))
    else lone_words history lines hit (slice_get puts 0)

-- two writes, each of which has to stand before the other
unfoldable pub crossed_words : List Call → List ℕ → Side → Side → List ℕ
crossed_words history lines one other =
    name_of history lines one.write ++ (codes " and " ++ (name_of history lines other.write ++ (codes " have no order: "
    ++ (order_words history lines one.early other.late ++ (codes ", so the first has to stand before the second; and "
    ++ (order_words history lines other.early one.late ++ codes ", so the second has to stand before the first"))))))

-- with which write a put would have no order, if a hit read it
unfoldable pub read_words : List Call → List ℕ → CrossedWrites → List ℕ
read_words history lines writes =
    codes "; if it read " ++ (name_of history lines writes.one.write ++ (codes ", " ++ (order_words history lines writes.one.early writes.other.late
    ++ (codes ", so that put has to stand before " ++ (name_of history lines writes.other.write ++ (codes "; and " ++ (order_words history lines writes.other.early writes.one.late
    ++ (codes ", so " ++ (name_of history lines writes.other.write ++ codes " has to stand before that put")))))))))

-- a hit that would cross two writes whichever put it read: of several, what shows it for the first three
unfoldable pub unread_words : List Call → List ℕ → ℕ → List CrossedWrites → List ℕ
unread_words history lines hit reads =
    name_of history lines hit ++ (codes " fits " ++ (decimal (length reads) ++ (codes " puts, and whichever of them it read, two writes would have no order"
    ++ flat_map (read_words history lines) (take 3 reads))))

-- a call that ends before it starts
unfoldable pub interval_words : List Call → List ℕ → ℕ → List ℕ
interval_words history lines position =
    name_of history lines position ++ (codes " ends at " ++ (decimal (end_of (slice_get history position)) ++ (codes ", before it starts at "
    ++ decimal (start_of (slice_get history position)))))

-- a call at a place of a certificate, after one that it precedes
unfoldable pub out_of_order_words : List Call → List ℕ → ℕ → ℕ → ℕ → List ℕ
out_of_order_words history lines place call earlier =
    codes "place " ++ (decimal place ++ (codes " of the certificate is out of order: " ++ (order_words history lines call earlier
    ++ codes ", and stands behind it")))

-- which write is the latest before a hit in a certificate
abbrev pub latest_words : List Call → List ℕ → ℕ → Latest → List ℕ
latest_words history lines hit latests.Nothing = codes "no write of its key stands before it"
latest_words history lines hit (latests.Other write) = codes "the latest write of its key before it is " ++ name_of history lines write
latest_words history lines hit (latests.Expired put) = expired_words history lines hit put

-- a hit at a place of a certificate is not of its key's latest value
unfoldable pub wrong_hit_words : List Call → List ℕ → ℕ → ℕ → Latest → List ℕ
wrong_hit_words history lines place hit latest =
    name_of history lines hit ++ (codes " is wrong at place " ++ (decimal place ++ (codes " of the certificate: "
    ++ latest_words history lines hit latest)))

-- a place of a certificate has a position that an earlier one has
unfoldable pub repeated_words : List Call → List ℕ → ℕ → ℕ → List ℕ
repeated_words history lines place position =
    codes "place " ++ (decimal place ++ (codes " of the certificate repeats " ++ name_of history lines position))

-- the sentence for each reason
abbrev pub sentence_of : List Call → List ℕ → Reason → List ℕ
sentence_of history lines (reasons.Interval position) = interval_words history lines position
sentence_of history lines (reasons.Hit hit puts) = hit_words history lines hit puts.items
sentence_of history lines (reasons.Crossed one other) = crossed_words history lines one other
sentence_of history lines (reasons.Unread unread) = unread_words history lines unread.hit unread.reads.items
sentence_of history lines (reasons.OutOfOrder place call earlier) = out_of_order_words history lines place call earlier
sentence_of history lines (reasons.WrongHit place hit latest) = wrong_hit_words history lines place hit latest
sentence_of history lines (reasons.Repeated place position) = repeated_words history lines place position
sentence_of history lines (reasons.NotAPlace place position) =
    codes "place " ++ (decimal place ++ (codes " of the certificate is " ++ (decimal position ++ codes ", which is no position of the history")))
sentence_of history lines reasons.WrongCount = codes "the certificate has another number of places than the history has calls"
