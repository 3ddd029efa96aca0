-- What is answered to a meta command.
use Rattle.std.specs.Prelude.{◌≡◌, ℕ, ◌-◌, false, List, [], length, if◌then◌else◌, Option, Some, None, option_and_then, Result, Ok, Err}
use Rattle.std.specs.Option.{option_map}
use Rattle.std.specs.Fmt.{decimal}
use Rattle.record_pages.specs.declared.put_fault.PutFault.{PutFault}
use Rattle.record_pages.specs.declared.put_fault.PutFault.TheVariants as faults
use Rattle.memcached_text.specs.declared.fixed_reply.FixedReply.{FixedReply}
use Rattle.memcached_text.specs.declared.fixed_reply.FixedReply.TheVariants as replies
use Rattle.memcached_text.specs.declared.meta_answer.MetaAnswer.{MetaAnswer}
use Rattle.memcached_text.specs.declared.meta_answer.MetaMarks.{MetaMarks}
use Rattle.memcached_text.specs.declared.meta_answer.MetaStatus.{MetaStatus}
use Rattle.memcached_text.specs.declared.meta_answer.MetaStatus.TheVariants as statuses
use Rattle.memcached_text.specs.declared.meta_answer.Ttl.{Ttl}
use Rattle.memcached_text.specs.declared.meta_answer.Ttl.TheVariants.{Unlimited, Seconds}
use Rattle.memcached_text.specs.Answers.{meta_text}
use Rattle.memcached_text.specs.Meta.{is_before}
use Rattle.memcached_text.specs.Asked.{MetaAsking}
use Rattle.item_lane.specs.declared.command_reply.CommandReply.{CommandReply}
use Rattle.item_lane.specs.declared.command_reply.CommandReply.TheVariants as reply
use Rattle.item_lane.specs.declared.expiry_change.ExpiryChange.{ExpiryChange}
use Rattle.item_lane.specs.declared.expiry_change.ExpiryChange.TheVariants.{Stays}
use Rattle.item_lane.specs.declared.item_marks.ItemMarks.{ItemMarks}
use Rattle.item_lane.specs.Cells.{Kept}
use Rattle.item_lane.specs.declared.meta_counting.MetaDelta.{MetaDelta}
use Rattle.item_lane.specs.declared.meta_getting.MetaGet.{MetaGet}
use Rattle.item_lane.specs.Meta.{with_expiry, expiry_after, vivified}
use Rattle.memcached_session.specs.declared.meta_reply.MetaReply.{MetaReply}
use Rattle.memcached_session.specs.declared.meta_reply.MetaReply.TheVariants as metas
use Rattle.memcached_session.specs.declared.meta_reply.MetaShown.{MetaShown}
use Rattle.memcached_session.specs.declared.meta_reply.Returned.{Returned}
use Rattle.memcached_session.specs.Alone.{reply_line}
use Rattle.memcached_session.specs.Expiring.{clamped}
use Rattle.memcached_session.specs.MetaReading.{has_flag}

-- how a meta command went, without the borrow of its value
pub data Went : Type 0 where
  WentDone : Went
  WentValue : List ℕ → Went
  WentMiss : Went
  WentNotFound : Went
  WentNotStored : Went
  WentExists : Went

abbrev pub went_shown : MetaStatus → Went
went_shown statuses.Header = WentDone
went_shown (statuses.Value block) = WentValue block.now
went_shown statuses.Miss = WentMiss
went_shown statuses.NotFound = WentNotFound
went_shown statuses.NotStored = WentNotStored
went_shown statuses.Exists = WentExists

-- an answer to a meta command: how it went, what of the item can be returned, and what is said unasked
pub record Telling : Type 0 where
  pub went : Went
  pub returned : Returned
  pub marks : MetaMarks

abbrev pub shown_of : MetaShown → Telling
shown_of shown = record { went = went_shown shown.status; returned = shown.returned; marks = shown.marks }

-- The answer's text is that of this answer, to this request: its key and its flags as they stand in the line.
pub record IsMetaText (meta : MetaAsking) (shown : Telling) (text : List ℕ) : Type 0 where
  pub answer : MetaAnswer
  pub text_is : text ≡ meta_text answer
  pub went_is : went_shown answer.status ≡ shown.went
  pub key_is : answer.fields.key.now ≡ meta.key
  pub flags_are : answer.flags.now ≡ meta.flags
  pub plain_key : answer.fields.is_base64 ≡ false
  pub cas_is : answer.fields.cas ≡ shown.returned.cas
  pub item_flags_are : answer.fields.flags ≡ shown.returned.flags
  pub size_is : answer.fields.size ≡ shown.returned.size
  pub ttl_is : answer.fields.ttl ≡ shown.returned.ttl
  pub no_hit : answer.fields.was_hit ≡ None
  pub no_use : answer.fields.last_used ≡ None
  pub marks_are : answer.marks ≡ shown.marks

-- what is answered to a meta command: nothing, a fixed line, or an answer
pub data MetaSaid : Type 0 where
  Quiet : MetaSaid
  Line : FixedReply → MetaSaid
  Shown : Telling → MetaSaid

abbrev pub meta_reply_shown : MetaReply → MetaSaid
meta_reply_shown metas.Quiet = Quiet
meta_reply_shown (metas.Line reply) = Line reply
meta_reply_shown (metas.Shown shown) = Shown (shown_of shown)

abbrev pub IsTextOf : MetaAsking → MetaSaid → List ℕ → Type 0
IsTextOf meta Quiet text = text ≡ []
IsTextOf meta (Line reply) text = text ≡ reply_line reply
IsTextOf meta (Shown shown) text = IsMetaText meta shown text

-- nothing of an item is returned
abbrev pub returns_nothing : Returned
returns_nothing = record { cas = None; flags = None; size = None; ttl = None }

-- its cas unique is
abbrev pub returns_cas : ℕ → Returned
returns_cas cas = record { cas = Some cas; flags = None; size = None; ttl = None }

-- nothing is said unasked
abbrev pub no_marks : MetaMarks
no_marks = record { is_awaited = false; is_stale = false; has_won = false }

-- an answer without an item
abbrev pub bare : Went → MetaSaid
bare went = Shown (record { went = went; returned = returns_nothing; marks = no_marks })

-- an answer that q keeps back
abbrev pub unless_q : List ℕ → MetaSaid → MetaSaid
unless_q flags said = if has_flag 113 flags then Quiet else said

-- the fixed line of a refusal
abbrev pub fault_reply : PutFault → FixedReply
fault_reply faults.TooLarge = replies.TooLarge
fault_reply faults.OutOfMemory = replies.OutOfMemory

-- how long an item lives after a moment
abbrev pub ttl_of : ℕ → Option ℕ → Ttl
ttl_of moment None = Unlimited
ttl_of moment (Some expires) = Seconds (expires - moment)

-- v: the value is wanted
abbrev pub went_with : List ℕ → List ℕ → Went
went_with flags block = if has_flag 118 flags then WentValue block else WentDone

-- what a meta get tells of an item: all that it asks for
abbrev pub told_of : ℕ → List ℕ → ItemMarks → Kept → MetaSaid
told_of moment flags marks item = Shown (record {
  went = went_with flags item.bytes;
  returned = record {
    cas = Some item.head.cas;
    flags = Some item.head.flags;
    size = Some (clamped (length item.bytes));
    ttl = Some (ttl_of moment item.head.expires);
  };
  marks = record { is_awaited = marks.is_awaited; is_stale = marks.is_stale; has_won = marks.has_won };
})

-- t: what is told is the expiry that T gives; if t stands in the line before T, the one that the item had
abbrev pub told_change : List ℕ → ExpiryChange → ExpiryChange
told_change flags touch = if is_before 116 84 flags then Stays else touch

-- the item that a meta get tells of: the live one with the expiry that is told, or the empty one that a miss stored
abbrev pub seen_by : List ℕ → MetaGet → Option Kept → Option Kept
seen_by flags request None = option_map vivified request.vivify
seen_by flags request (Some item) = Some (with_expiry (told_change flags request.touch) item)

abbrev pub told_seen : ℕ → List ℕ → ItemMarks → Option Kept → MetaSaid
told_seen moment flags marks None = bare WentMiss
told_seen moment flags marks (Some item) = told_of moment flags marks item

-- mg: q keeps back a miss
abbrev pub get_said : ℕ → List ℕ → MetaGet → Option Kept → Result CommandReply PutFault → MetaSaid
get_said moment flags request item (Ok (reply.Found marks)) = told_seen moment flags marks (seen_by flags request item)
get_said moment flags request item (Ok _) = unless_q flags (bare WentMiss)
get_said moment flags request item (Err fault) = Line (fault_reply fault)

-- ms: the cas unique is that of the item, or 0 if none was stored; q keeps back that it was
abbrev pub set_said : ℕ → List ℕ → Result CommandReply PutFault → MetaSaid
set_said cas flags (Ok reply.Stored) = unless_q flags (Shown (record { went = WentDone; returned = returns_cas cas; marks = no_marks }))
set_said cas flags (Ok reply.Exists) = Shown (record { went = WentExists; returned = returns_cas 0; marks = no_marks })
set_said cas flags (Ok reply.NotFound) = Shown (record { went = WentNotFound; returned = returns_cas 0; marks = no_marks })
set_said cas flags (Ok _) = Shown (record { went = WentNotStored; returned = returns_cas 0; marks = no_marks })
set_said cas flags (Err fault) = Line (fault_reply fault)

-- md: q keeps back that it was done
abbrev pub delete_said : List ℕ → Result CommandReply PutFault → MetaSaid
delete_said flags (Ok reply.Deleted) = unless_q flags (bare WentDone)
delete_said flags (Ok reply.Invalidated) = unless_q flags (bare WentDone)
delete_said flags (Ok reply.Exists) = bare WentExists
delete_said flags (Ok _) = bare WentNotFound
delete_said flags (Err fault) = Line (fault_reply fault)

-- the expiry that is told of the item that holds the number
abbrev pub counted_expiry : List ℕ → MetaDelta → Option Kept → Option ℕ
counted_expiry flags request None = option_and_then (λ initial. initial.expires) request.initial
counted_expiry flags request (Some item) = expiry_after (told_change flags request.touch) item.head.expires

-- ma: q keeps back the number
abbrev pub delta_said : ℕ → List ℕ → MetaDelta → Option Kept → Result CommandReply PutFault → MetaSaid
delta_said moment flags request item (Ok (reply.Number number)) = unless_q flags (Shown (record {
  went = went_with flags (decimal number);
  returned = record { cas = Some request.cas; flags = None; size = None; ttl = Some (ttl_of moment (counted_expiry flags request item)) };
  marks = no_marks;
}))
delta_said moment flags request item (Ok reply.NotNumber) = Line replies.NotNumber
delta_said moment flags request item (Ok reply.Exists) = bare WentExists
delta_said moment flags request item (Ok _) = bare WentNotFound
delta_said moment flags request item (Err fault) = Line (fault_reply fault)
