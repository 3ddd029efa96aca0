-- What a script's commands reply, and its lane after them.
use Rattle.std.specs.Prelude.{ℕ, List, ◌++◌, length, nat_lt, ◌==◌, if◌then◌else◌, codes}
use Rattle.record_pages.specs.Expiry.{timed}
use Rattle.record_pages.specs.declared.answer.Answer.{Answer}
use Rattle.record_pages.specs.declared.answer.Answer.TheVariants.{Hit, Miss}
use Rattle.record_pages.specs.declared.miss_cause.MissCause.{MissCause}
use Rattle.record_pages.specs.declared.miss_cause.MissCause.TheVariants.{Absent, Expired, Fault, Damaged}
use Rattle.record_pages.specs.declared.tier.Tier.{Tier}
use Rattle.record_pages.specs.declared.tier.Tier.TheVariants.{Memory, Log, Set}
use Rattle.record_pages.specs.Sizes.{object_size, room}
use Rattle.trace_file.specs.declared.act.Act.TheVariants as acts
use Rattle.hex.specs.Hex.{encode_lower}
use Rattle.trace_file.specs.Text.{text_of}
use Rattle.trace_file.specs.declared.version.Version.TheVariants.{Timed}
use Rattle.certificate_checker.specs.declared.verdict.Verdict.TheVariants.{Accepted}
use Rattle.certificate_checker.specs.VerdictLine.{verdict_line}
use Rattle.klog.specs.declared.flushed.Flushed.{Flushed}
use Rattle.klog.specs.declared.flushed.Flushed.TheVariants as flushed
use Rattle.rriparoo.specs.Rriparoo.{rriparoo_plan}
use Rattle.mover.specs.declared.moved_whole.MovedWhole.{MovedWhole}
use Rattle.mover.specs.declared.moved_whole.MovedWhole.TheVariants as moved
use Rattle.mover.specs.Get.{Step, get_step}
use Rattle.mover.specs.Put.{put_step}
use Rattle.mover.specs.Strike.{removed}
use Rattle.mover.specs.Flush.{flush_step}
use Rattle.mover.specs.Whole.{move_step}
use Rattle.recorded_lane.specs.Lane.{act_of, max_calls}
use Rattle.script_words.specs.declared.command.Command.{Command}
use Rattle.script_words.specs.declared.command.Command.TheVariants.{Put, Get, Remove, Forget, Flush, Move, Verdict, Trace}
use Rattle.scripts.specs.Own.{Opened, after_call, with_lane, own_history, own_certificate}

-- an empty value is printed as -
abbrev pub shown : List ℕ → List ℕ
shown value = if length value == 0 then codes "-" else value

-- how a reply names a tier
abbrev pub tier_text : Tier → List ℕ
tier_text Memory = codes "memory"
tier_text Log = codes "log"
tier_text Set = codes "set"

-- how a reply names the cause of a miss
abbrev pub cause_text : MissCause → List ℕ
cause_text Absent = codes "absent"
cause_text Expired = codes "expired"
cause_text Fault = codes "fault"
cause_text Damaged = codes "damaged"

-- the reply to a get
abbrev pub answer_text : Answer → List ℕ
answer_text (Hit value tier) = codes "hit " ++ shown value ++ codes " " ++ tier_text tier
answer_text (Miss cause) = codes "miss " ++ cause_text cause

-- how a reply names what a flush step did
abbrev pub flush_text : Flushed → List ℕ
flush_text flushed.Nothing = codes "nothing"
flush_text flushed.Wrote = codes "wrote"
flush_text flushed.PageLost = codes "page lost"
flush_text flushed.Sealed = codes "sealed"
flush_text flushed.LogFull = codes "log full"

-- how a reply names what a move did
abbrev pub move_text : MovedWhole → List ℕ
move_text moved.Nothing = codes "nothing"
move_text moved.Busy = codes "busy"
move_text moved.Readmitted = codes "readmitted"
move_text moved.Dropped = codes "dropped"
move_text moved.PageLost = codes "page lost"
move_text moved.Freed = codes "freed"
move_text moved.Written = codes "written"
move_text moved.Forgotten = codes "forgotten"

-- a reply with its line feed, and the script's lane after it
pub record Reply : Type 0 where
  pub text : List ℕ
  pub opened : Opened

-- a reply with its line feed
abbrev pub reply : List ℕ → Opened → Reply
reply text opened = record { text = text ++ codes "\n"; opened = opened }

-- the reply to a call, unless the history is full
abbrev pub unless_full : Opened → Reply → Reply
unless_full o r = if nat_lt (length o.calls) max_calls then r else reply (codes "history full") o

-- the reply to a get of a moment, by its step
abbrev pub reply_to_get : Opened → List ℕ → ℕ → Step Answer → Reply
reply_to_get o key moment step = reply (answer_text step.reply) (after_call o step.lane key (act_of moment step.reply))

-- the reply to a flush, by its step
abbrev pub reply_to_flush : Opened → Step Flushed → Reply
reply_to_flush o step = reply (flush_text step.reply) (with_lane o step.lane)

-- the reply to a move, by its step
abbrev pub reply_to_move : Opened → Step MovedWhole → Reply
reply_to_move o step = reply (move_text step.reply) (with_lane o step.lane)

-- The reply to a command over pages of this many bytes, and the script's lane after it. Each call of a device succeeds, and
-- moves go by the plans of Rriparoo.
abbrev pub reply_to : ℕ → Opened → Command → Reply
reply_to page o (Put key value word expires) =
    if nat_lt (room page) (object_size key value) then reply (codes "too large") o
    else unless_full o (reply (codes "stored") (after_call o
    (put_step page o.admit (record { key = key; value = timed value expires }) word o.lane).lane key (acts.Put value expires)))
reply_to page o (Get key moment) = unless_full o (reply_to_get o key moment (get_step key moment o.lane))
reply_to page o (Remove key) = unless_full o (reply (codes "removed") (after_call o (removed key o.lane) key acts.Remove))
reply_to page o (Forget key) = reply (codes "forgotten") (with_lane o (removed key o.lane))
reply_to page o Flush = reply_to_flush o (flush_step o.lane)
reply_to page o Move = reply_to_move o (move_step page o.threshold rriparoo_plan o.lane)
-- every verdict of a script is an accepted line
reply_to page o Verdict = reply (verdict_line Accepted (length o.calls)) o
-- every trace of a script is the timed one of its calls so far, in lower case hexadecimal
reply_to page o Trace = reply (encode_lower (text_of Timed (own_history o.calls) (own_certificate o.calls))) o
