-- The job of a move.
use Rattle.std.specs.Prelude.{ℕ, List, ◌++◌, map, true, false}
use Rattle.record_pages.specs.Recs.{size}
use Rattle.record_pages.specs.Sizes.{room}
use Rattle.policy_laws.specs.declared.item.Item.{Item}
use Rattle.policy_laws.specs.declared.job.Job.{Job}
use Rattle.klog.specs.declared.taken_record.TakenRecord.{TakenRecord}
use Rattle.kset.specs.declared.set_record.SetRecord.{SetRecord}
use Rattle.mover.specs.declared.moving.Moving.{Moving}

-- what a policy knows of a visible record of the set
abbrev pub old_item : SetRecord → Item
old_item x = record { size = size x.stored; prediction = x.stored.pred; hit = x.hit; fresh = false }

-- what a policy knows of a record of the log
abbrev pub fresh_item : TakenRecord → Item
fresh_item t = record { size = size t.stored; prediction = t.stored.pred; hit = false; fresh = true }

-- the items of a move: the visible records of the set in page order, then those of the log, newest first
abbrev pub items_of : Moving → List Item
items_of moving = map old_item moving.visible ++ map fresh_item moving.taken

-- the job of a move
abbrev pub job_of : ℕ → Moving → Job
job_of page moving = record { number = moving.number; set = moving.set; room = room page; items = items_of moving }
