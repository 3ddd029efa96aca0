-- All faults of a history that is rejected, as they are told.
use Rattle.std.specs.Prelude.{◌≡◌, ℕ, List, ◌++◌, map, None}
use Rattle.std.specs.HashSet.{HashSet, contains_by}
use Rattle.std.specs.Set.{distinct_count, is_member}
use Rattle.std.specs.Str.{bytes_eq}
use Rattle.trace_file.specs.declared.call.Call.{Call}
use Rattle.certificate_finder.specs.declared.faults.CrossedWrites.{CrossedWrites}
use Rattle.certificate_finder.specs.declared.faults.Faults.{Faults}
use Rattle.certificate_finder.specs.declared.faults.WrongHit.{WrongHit}
use Rattle.certificate_finder.specs.declared.unread_hit.UnreadHit.{UnreadHit}
use Rattle.certificate_finder.specs.declared.witness.Witness.{Witness}
use Rattle.certificate_finder.specs.declared.witness.Witness.TheVariants.{Interval, Hit, Crossed, Unread}
use Rattle.certificate_finder.specs.Faults.{AreFaults}
use Rattle.trace_file.specs.declared.lent_word.LentWord.{LentWord}
use Rattle.judge_run.specs.declared.fault_list.FaultList.{FaultList}
use Rattle.judge_run.specs.declared.told_fault.ToldFault.{ToldFault}
use Rattle.judge_run.specs.Telling.{first_position, key_at}

-- a fault with no time
abbrev pub timeless : Witness → ToldFault
timeless reason = record { reason = reason; late = None }

-- a call that ends before it starts, as it is told
abbrev pub reversed_fault : ℕ → ToldFault
reversed_fault call = timeless (Interval call)

-- a hit that can have read no put, as it is told
abbrev pub hit_fault : WrongHit → ToldFault
hit_fault wrong = record { reason = Hit wrong.hit wrong.puts; late = wrong.late }

-- crossed writes, as they are told
abbrev pub crossed_fault : CrossedWrites → ToldFault
crossed_fault writes = timeless (Crossed writes.one writes.other)

-- a hit that would cross two writes whichever of several puts it read, as it is told
abbrev pub unread_fault : UnreadHit → ToldFault
unread_fault unread = timeless (Unread unread)

-- faults as they are told: the calls that end before they start, the wrong hits, the crossed writes of each key, and the hits that would cross two writes whichever of several puts they read
abbrev pub told_of : Faults → List ToldFault
told_of found = map reversed_fault found.reversed.items ++ (map hit_fault found.hits.items ++ (map crossed_fault found.crossed.items ++ map unread_fault found.unread.items))

-- these are all faults of a history. Of the puts of a hit the first eight are shown, and how late it is is by all of them
pub record AreListed (history : List Call) (faults : List ToldFault) : Type 0 where
  pub found : Faults
  pub are : AreFaults history 8 found
  pub faults_are : faults ≡ told_of found

-- the keys that faults are about
abbrev pub keys_of : List Call → List ToldFault → List (List ℕ)
keys_of history faults = map (λ (fault : ToldFault). key_at history (first_position fault.reason)) faults

-- how many keys faults are about
abbrev pub key_count : List Call → List ToldFault → ℕ
key_count history faults = distinct_count bytes_eq (keys_of history faults)

-- a set has these keys, and no other one
abbrev pub HasKeys : {S : Type 0} → HashSet LentWord S → List (List ℕ) → Type 0
HasKeys set keys = (key : List ℕ) → contains_by (λ word. bytes_eq key word.bytes.now) set ≡ is_member bytes_eq keys key

-- these are all faults of a history, and how many keys they are about
pub record IsListed (history : List Call) (list : FaultList) : Type 0 where
  pub faults : AreListed history list.faults.items
  pub keys : list.keys ≡ key_count history list.faults.items
