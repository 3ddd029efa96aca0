-- Why a history is accepted with no certificate.
use Rattle.std.specs.Prelude.{◌≡◌, ◌≢◌, ℕ, ◌<◌, ◌⊎◌, List, All, AllPairs, Contains, map, slice_get, Some, IsSomeAnd, IsTrue}
use Rattle.record_pages.specs.Expiry.{is_live}
use Rattle.trace_file.specs.declared.act.Act.TheVariants.{Put, Hit}
use Rattle.trace_file.specs.declared.call.Call.{Call}
use Rattle.certificate_checker.specs.Deeds.{deed_of}
use Rattle.certificate_checker.specs.Latest.{Writes}
use Rattle.certificate_checker.specs.Orders.{Precedes}
use Rattle.certificate_finder.specs.declared.excluded.Excluded.{Excluded}
use Rattle.certificate_finder.specs.declared.excluded.Excuse.{Excuse}
use Rattle.certificate_finder.specs.declared.excluded.Excuse.TheVariants.{Later, Expired, Replaced}
use Rattle.certificate_finder.specs.declared.faults.CrossedWrites.{CrossedWrites}
use Rattle.certificate_finder.specs.declared.witness.Side.{Side}
use Rattle.certificate_finder.specs.declared.witness.Witness.{Witness}
use Rattle.certificate_finder.specs.declared.witness.Witness.TheVariants as witnesses
use Rattle.certificate_finder.specs.Reads.{CouldRead, StandsBetween}

-- this excludes that a hit at a moment read a put with an expiry
abbrev pub Excludes : List Call → Call → Call → ℕ → ℕ → Excuse → Type 0
Excludes history hit put moment expires Later = Precedes hit put
Excludes history hit put moment expires Expired = ¬ IsTrue (is_live expires moment)
Excludes history hit put moment expires (Replaced write) =
    IsSomeAnd (slice_get history write) (StandsBetween hit.key put hit)

-- a put of the hit's key and value is excluded, for the reason that is named
pub record IsExcluded (history : List Call) (hit : Call) (value : List ℕ) (moment : ℕ) (excluded : Excluded) : Type 0 where
  pub put : Call
  pub expires : ℕ
  pub put_at : slice_get history excluded.put ≡ Some put
  pub put_is : put.act ≡ Put value expires
  pub one_key : put.key ≡ hit.key
  pub why : Excludes history hit put moment expires excluded.why

-- no put is named twice
abbrev pub NamePutsOnce : List Excluded → Type 0
NamePutsOnce puts = AllPairs (λ (one other : Excluded). one.put ≢ other.put) puts

-- the hit at a position can have read none of the puts of its key and value: these are all of them, each once, and each excluded
pub record ReadsNone (history : List Call) (hit : ℕ) (puts : List Excluded) : Type 0 where
  pub call : Call
  pub value : List ℕ
  pub moment : ℕ
  pub at : slice_get history hit ≡ Some call
  pub is : call.act ≡ Hit value moment
  pub excluded : All (IsExcluded history call value moment) puts
  pub all : (position : ℕ) (put : Call) (expires : ℕ) → slice_get history position ≡ Some put → put.act ≡ Put value expires → put.key ≡ call.key → Contains (map (λ one. one.put) puts) position
  pub once : NamePutsOnce puts

-- the call at a position goes with the write at another: it is that write, or a hit that can have read no other put
abbrev pub GoesWith : List Call → ℕ → ℕ → Type 0
GoesWith history write call =
    (call ≡ write)
    ⊎ ((hit : Call) × (value : List ℕ) × (moment : ℕ)
    × (slice_get history call ≡ Some hit) × (hit.act ≡ Hit value moment)
    × ((put : ℕ) → CouldRead history call put → put ≡ write))

-- the early call of one side precedes the late call of the other
pub record IsSide (history : List Call) (key : List ℕ) (side other : Side) : Type 0 where
  pub writes : IsSomeAnd (slice_get history side.write) (λ write. Writes (deed_of write) key)
  pub early_goes : GoesWith history side.write side.early
  pub late_goes : GoesWith history side.write side.late
  pub precedes : IsSomeAnd (slice_get history side.early) (λ early. IsSomeAnd (slice_get history other.late) (λ late. Precedes early late))

-- two writes of one key, each of which has to stand before the other
pub record AreCrossed (history : List Call) (one other : Side) : Type 0 where
  pub key : List ℕ
  pub apart : one.write ≢ other.write
  pub first : IsSide history key one other
  pub second : IsSide history key other one

-- the call at a position precedes that at another one
abbrev pub PrecedesAt : List Call → ℕ → ℕ → Type 0
PrecedesAt history one other = IsSomeAnd (slice_get history one) (λ first. IsSomeAnd (slice_get history other) (λ second. Precedes first second))

-- the call at a position goes with the put at another one, if a hit read that put: it is the hit, or goes with the put anyway
abbrev pub GoesIfRead : (ℕ → ℕ → Type 0) → ℕ → ℕ → ℕ → Type 0
GoesIfRead goes hit put call = (call ≡ hit) ⊎ goes put call

-- if a hit read the first of these writes, each of the two would have to stand before the other, by the calls that go with each
pub record AreCrossedIfRead (goes : ℕ → ℕ → Type 0) (history : List Call) (hit : ℕ) (writes : CrossedWrites) : Type 0 where
  pub key : List ℕ
  pub apart : writes.one.write ≢ writes.other.write
  pub one_writes : IsSomeAnd (slice_get history writes.one.write) (λ write. Writes (deed_of write) key)
  pub other_writes : IsSomeAnd (slice_get history writes.other.write) (λ write. Writes (deed_of write) key)
  pub one_early : GoesIfRead goes hit writes.one.write writes.one.early
  pub one_late : GoesIfRead goes hit writes.one.write writes.one.late
  pub other_early : goes writes.other.write writes.other.early
  pub other_late : goes writes.other.write writes.other.late
  pub forth : PrecedesAt history writes.one.early writes.other.late
  pub back : PrecedesAt history writes.other.early writes.one.late

-- no put is read twice
abbrev pub ReadPutsOnce : List CrossedWrites → Type 0
ReadPutsOnce reads = AllPairs (λ (one other : CrossedWrites). one.one.write ≢ other.one.write) reads

-- the hit at a position read none of its puts: these are all that it can have read, each once, and each with a write with which it is crossed if the hit read it, by the calls that go with each
pub record IsUnreadBy (goes : ℕ → ℕ → Type 0) (history : List Call) (hit : ℕ) (reads : List CrossedWrites) : Type 0 where
  pub call : Call
  pub value : List ℕ
  pub moment : ℕ
  pub at : slice_get history hit ≡ Some call
  pub is : call.act ≡ Hit value moment
  pub each : All (AreCrossedIfRead goes history hit) reads
  pub only : All (λ (writes : CrossedWrites). CouldRead history hit writes.one.write) reads
  pub all : (put : ℕ) → CouldRead history hit put → Contains (map (λ (writes : CrossedWrites). writes.one.write) reads) put
  pub once : ReadPutsOnce reads

-- the same by the write itself and the hits that can have read no other put
abbrev pub IsUnread : List Call → ℕ → List CrossedWrites → Type 0
IsUnread history hit reads = IsUnreadBy (GoesWith history) history hit reads

-- this is a reason why a history is accepted with no certificate
abbrev pub IsWitness : List Call → Witness → Type 0
IsWitness history (witnesses.Interval position) = IsSomeAnd (slice_get history position) (λ call. call.end < call.start)
IsWitness history (witnesses.Hit hit puts) = ReadsNone history hit puts.items
IsWitness history (witnesses.Crossed one other) = AreCrossed history one other
IsWitness history (witnesses.Unread unread) = IsUnread history unread.hit unread.reads.items
