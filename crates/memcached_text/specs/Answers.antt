-- The bytes of answers.
use Rattle.std.specs.Prelude.{ℕ, Bool, true, false, List, [], ◌∷◌, length, map, ◌==◌, if◌then◌else◌, Option, Some, None, codes, decimal}
use Rattle.std.specs.List.{concat}
use Rattle.memcached_text.specs.declared.text_answer.TextAnswer.{TextAnswer}
use Rattle.memcached_text.specs.declared.text_answer.TextAnswer.TheVariants as answers
use Rattle.memcached_text.specs.declared.meta_answer.MetaAnswer.{MetaAnswer}
use Rattle.memcached_text.specs.declared.meta_answer.MetaFields.{MetaFields}
use Rattle.memcached_text.specs.declared.meta_answer.MetaMarks.{MetaMarks}
use Rattle.memcached_text.specs.declared.meta_answer.MetaStatus.{MetaStatus}
use Rattle.memcached_text.specs.declared.meta_answer.MetaStatus.TheVariants as statuses
use Rattle.memcached_text.specs.declared.meta_answer.Ttl.{Ttl}
use Rattle.memcached_text.specs.declared.meta_answer.Ttl.TheVariants.{Unlimited, Seconds}
use Rattle.memcached_text.specs.Meta.{letter_of}
use Rattle.memcached_text.specs.Texts.{fault_text, reply_text}
use Rattle.memcached_text.specs.Words.{words_of}

-- VALUE KEY FLAGS LENGTH [CAS], and the data block
abbrev pub value_text : List ℕ → ℕ → Option ℕ → List ℕ → List ℕ
value_text key flags None block =
    concat (codes "VALUE " ∷ key ∷ codes " " ∷ decimal flags ∷ codes " " ∷ decimal (length block) ∷ codes "\r\n" ∷ block ∷ codes "\r\n" ∷ [])
value_text key flags (Some cas) block =
    concat (codes "VALUE " ∷ key ∷ codes " " ∷ decimal flags ∷ codes " " ∷ decimal (length block) ∷ codes " " ∷ decimal cas ∷ codes "\r\n" ∷ block ∷ codes "\r\n" ∷ [])

-- a letter with a number, if there is one
abbrev pub number_text : List ℕ → Option ℕ → List ℕ
number_text letter None = []
number_text letter (Some number) = concat (letter ∷ decimal number ∷ [])

-- t with the seconds that an item lives, -1 if it does not expire
abbrev pub ttl_text : Option Ttl → List ℕ
ttl_text None = []
ttl_text (Some Unlimited) = codes " t-1"
ttl_text (Some (Seconds seconds)) = concat (codes " t" ∷ decimal seconds ∷ [])

-- h with 1 if an item was hit before
abbrev pub hit_text : Option Bool → List ℕ
hit_text None = []
hit_text (Some false) = codes " h0"
hit_text (Some true) = codes " h1"

-- a text, if it is to be said
abbrev pub said : Bool → List ℕ → List ℕ
said true text = text
said false text = []

-- what a flag of the request asks to be returned; O returns itself
unfoldable pub flag_text : MetaFields → List ℕ → List ℕ
flag_text fields flag =
    if letter_of flag == 107 then concat (codes " k" ∷ fields.key.now ∷ said fields.is_base64 (codes " b") ∷ [])
    else (if letter_of flag == 79 then concat (codes " " ∷ flag ∷ [])
    else (if letter_of flag == 99 then number_text (codes " c") fields.cas
    else (if letter_of flag == 102 then number_text (codes " f") fields.flags
    else (if letter_of flag == 115 then number_text (codes " s") fields.size
    else (if letter_of flag == 108 then number_text (codes " l") fields.last_used
    else (if letter_of flag == 116 then ttl_text fields.ttl
    else (if letter_of flag == 104 then hit_text fields.was_hit else [])))))))

-- what the flags of the request ask to be returned, in their order
abbrev pub flags_text : MetaFields → List ℕ → List ℕ
flags_text fields flags = concat (map (flag_text fields) (words_of flags))

-- what is said unasked
abbrev pub marks_text : MetaMarks → List ℕ
marks_text marks = concat (said marks.is_awaited (codes " Z") ∷ said marks.is_stale (codes " X") ∷ said marks.has_won (codes " W") ∷ [])

-- how a command went, at the front of the answer's line
abbrev pub status_text : MetaStatus → List ℕ
status_text statuses.Header = codes "HD"
status_text (statuses.Value block) = concat (codes "VA " ∷ decimal (length block.now) ∷ [])
status_text statuses.Miss = codes "EN"
status_text statuses.NotFound = codes "NF"
status_text statuses.NotStored = codes "NS"
status_text statuses.Exists = codes "EX"

-- the data block after the answer's line
abbrev pub block_text : MetaStatus → List ℕ
block_text statuses.Header = []
block_text (statuses.Value block) = concat (block.now ∷ codes "\r\n" ∷ [])
block_text statuses.Miss = []
block_text statuses.NotFound = []
block_text statuses.NotStored = []
block_text statuses.Exists = []

-- STATUS [SIZE] FLAG.., and the data block
abbrev pub meta_text : MetaAnswer → List ℕ
meta_text a = concat (status_text a.status ∷ flags_text a.fields a.flags.now ∷ marks_text a.marks ∷ codes "\r\n" ∷ block_text a.status ∷ [])

-- a line of fixed words
abbrev pub line_text : List ℕ → List ℕ
line_text words = concat (words ∷ codes "\r\n" ∷ [])

-- the bytes of an answer
abbrev pub answer_text : TextAnswer → List ℕ
answer_text (answers.Value found) = value_text found.key.now found.flags found.cas found.data.now
answer_text (answers.Reply reply) = line_text (reply_text reply)
answer_text (answers.Refused fault) = line_text (fault_text fault)
answer_text (answers.Number number) = line_text (decimal number)
answer_text (answers.Version version) = concat (codes "VERSION " ∷ version.now ∷ codes "\r\n" ∷ [])
answer_text (answers.Stat name value) = concat (codes "STAT " ∷ name.now ∷ codes " " ∷ value.now ∷ codes "\r\n" ∷ [])
answer_text (answers.Meta answer) = meta_text answer
