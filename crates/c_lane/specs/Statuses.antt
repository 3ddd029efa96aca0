-- The numbers of statuses, and which status stands for what a lane answers.
use Rattle.std.specs.Prelude.{ℤ, pos, negsuc, Bool, true, false}
use Rattle.record_pages.specs.declared.miss_cause.MissCause.{MissCause}
use Rattle.record_pages.specs.declared.miss_cause.MissCause.TheVariants as causes
use Rattle.record_pages.specs.declared.put_fault.PutFault.{PutFault}
use Rattle.record_pages.specs.declared.put_fault.PutFault.TheVariants as faults
use Rattle.c_lane.specs.declared.status.Status.{Status}
use Rattle.c_lane.specs.declared.status.Status.TheVariants as statuses

-- the number by which C knows a status: -2 is `negsuc 1`
abbrev pub number_of : Status → ℤ
number_of statuses.Done = pos 0
number_of statuses.Absent = pos 1
number_of statuses.Expired = pos 2
number_of statuses.Unreadable = pos 3
number_of statuses.Damaged = pos 4
number_of statuses.ShortBuffer = pos 5
number_of statuses.Stale = pos 6
number_of statuses.Rejected = pos 7
number_of statuses.BadTrace = pos 8
number_of statuses.WrongKey = negsuc 1
number_of statuses.TooLarge = negsuc 2
number_of statuses.NoMemory = negsuc 3
number_of statuses.WrongOptions = negsuc 4

-- the status of a miss
abbrev pub status_of_miss : MissCause → Status
status_of_miss causes.Absent = statuses.Absent
status_of_miss causes.Expired = statuses.Expired
status_of_miss causes.Fault = statuses.Unreadable
status_of_miss causes.Damaged = statuses.Damaged

-- whether a status is that of a miss
abbrev pub is_miss_status : Status → Bool
is_miss_status statuses.Done = false
is_miss_status statuses.Absent = true
is_miss_status statuses.Expired = true
is_miss_status statuses.Unreadable = true
is_miss_status statuses.Damaged = true
is_miss_status statuses.ShortBuffer = false
is_miss_status statuses.Stale = false
is_miss_status statuses.Rejected = false
is_miss_status statuses.BadTrace = false
is_miss_status statuses.WrongKey = false
is_miss_status statuses.TooLarge = false
is_miss_status statuses.NoMemory = false
is_miss_status statuses.WrongOptions = false

-- the status of a put that a lane refused
abbrev pub status_of_put : PutFault → Status
status_of_put faults.TooLarge = statuses.TooLarge
status_of_put faults.OutOfMemory = statuses.NoMemory
