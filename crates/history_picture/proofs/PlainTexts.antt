-- What is written is plain.
use Rattle.std.proofs.Common.{◌≡◌, ℕ, ◌-◌, ◌/◌, ◌%◌, ◌<◌, ◌≤◌, List, [], ◌∷◌, ◌++◌, Bool, true, false, ◌&&◌, refl, sym, subst, arith, length, take, get_or, replicate, Option, Some, None}
use Rattle.std.specs.Prelude.{codes, ◌==◌, nat_lt, nat_le, slice_get, if◌then◌else◌}
use Rattle.std.specs.List.{flat_map, list_any}
use Rattle.std.specs.Str.{bytes_eq, IsAscii, IsCharBoundary}
use Rattle.std.proofs.lemmas.List.Sums.{AllPass-from_list_all}
use Rattle.std.proofs.lemmas.Str.Ascii.{IsAscii-from_all}
use Rattle.std.specs.Fmt.{decimal}
use Rattle.std.proofs.lemmas.Bool.Decides.{nat_tests}
use Rattle.trace_file.specs.declared.act.Act.{Act}
use Rattle.trace_file.specs.declared.act.Act.TheVariants.{Put, Remove, Hit, Miss}
use Rattle.trace_file.specs.declared.call.Call.{Call}
use Rattle.certificate_finder.specs.declared.excluded.Excluded.{Excluded}
use Rattle.certificate_finder.specs.declared.excluded.Excuse.{Excuse}
use Rattle.certificate_finder.specs.declared.excluded.Excuse.TheVariants.{Later, Expired, Replaced}
use Rattle.certificate_finder.specs.declared.faults.CrossedWrites.{CrossedWrites}
use Rattle.certificate_finder.specs.declared.witness.Side.{Side}
use Rattle.history_picture.specs.declared.latest.Latest.{Latest}
use Rattle.history_picture.specs.declared.latest.Latest.TheVariants as latests
use Rattle.history_picture.specs.declared.reason.Reason.{Reason}
use Rattle.history_picture.specs.declared.reason.Reason.TheVariants as reasons
use Rattle.history_picture.specs.declared.sheet.Sheet.{Sheet}
use Rattle.history_picture.specs.Coding.{is_bare, percent, code_of, word_of, cut_word, shown_word}
use Rattle.history_picture.specs.Escaping.{escape_of}
use Rattle.history_picture.specs.Naming.{label_words, label_of, act_words, call_words, name_of, start_of, end_of, moment_of}
use Rattle.history_picture.specs.Plain.{IsPlain, is_plain}
use Rattle.history_picture.specs.Rows.{label_number, left, right, never_ended, column, bar_between, bar_text, end_words, caller_words, act_name, value_words, mark_words, times_text, front_text, back_text, line_of, row_text}
use Rattle.history_picture.specs.Sentences.{order_words, replaced_words, expired_words, excuse_words, hit_kind, also_words, lone_words, hit_words, crossed_words, interval_words, out_of_order_words, latest_words, wrong_hit_words, repeated_words, read_words, unread_words, sentence_of}
use Rattle.history_picture.proofs.PlainLaws.{plain_lit, plain_nil, plain_append, plain_cons, plain_take, plain_replicate, plain_flat_map, glyph_plain, plain_decimal}

-- the same text is plain
pub plain_of : (a b : List ℕ) → a ≡ b → IsPlain b → IsPlain a
plain_of a b e p = subst IsPlain (sym e) p

-- either of two plain texts
pub plain_if : (b : Bool) (x y : List ℕ) → IsPlain x → IsPlain y → IsPlain (if b then x else y)
plain_if true x y p q = p
plain_if false x y p q = q

bare_plain : (byte : ℕ) → is_bare byte ≡ true → is_plain byte ≡ true
bare_plain byte h = grind (arith, nat_tests)

code_by : (b : Bool) (byte : ℕ) → is_bare byte ≡ b → IsPlain (if b then byte ∷ [] else percent byte)
code_by true byte e = plain_cons byte [] (bare_plain byte e) plain_nil
code_by false byte e =
    plain_cons 37 _ refl (plain_cons _ _ (glyph_plain true (byte / 16 % 16) (omega arith)) (plain_cons _ _ (glyph_plain true (byte % 16) (omega arith)) plain_nil))

pub plain_code : (byte : ℕ) → IsPlain (code_of byte)
plain_code byte = code_by (is_bare byte) byte refl

pub plain_word : (bytes : List ℕ) → IsPlain (word_of bytes)
unfolding word_of
plain_word bytes =
    plain_if (length bytes == 0) _ _ (plain_lit _ refl) (plain_if (bytes_eq bytes (codes "-")) _ _ (plain_lit _ refl) (plain_flat_map code_of bytes plain_code))

pub plain_cut : (word : List ℕ) → IsPlain word → IsPlain (cut_word word)
unfolding cut_word
plain_cut word p = plain_if (nat_le (length word) 24) _ _ p (plain_append _ _ (plain_take 22 word p) (plain_lit _ refl))

pub plain_shown : (bytes : List ℕ) → IsPlain (shown_word bytes)
plain_shown bytes = plain_cut (word_of bytes) (plain_word bytes)

plain_small : (byte : ℕ) → is_plain byte ≡ true → byte < 128
plain_small byte h = grind (arith, nat_tests)

-- a plain text is ASCII
pub ascii_plain : (text : List ℕ) → IsPlain text → IsAscii text
ascii_plain text p = IsAscii-from_all text (λ k d less. plain_small (get_or text k d) (AllPass-from_list_all is_plain text p.each k d less))

-- a plain text may be cut anywhere
pub boundary_plain : (text : List ℕ) (at : ℕ) → IsPlain text → at ≤ length text → IsCharBoundary text at
boundary_plain text at p within = (within, λ inside high. absurd (omega (arith, high, ascii_plain text p at)))

kept_plain : (byte : ℕ) → (nat_lt 31 byte && nat_lt byte 127) ≡ true → is_plain byte ≡ true
kept_plain byte h = rw h refl

escape_by : (b : Bool) (byte : ℕ) → (nat_lt 31 byte && nat_lt byte 127) ≡ b → IsPlain (if b then byte ∷ [] else codes "?")
escape_by true byte e = plain_cons byte [] (kept_plain byte e) plain_nil
escape_by false byte e = plain_lit _ refl

pub plain_escape : (byte : ℕ) → IsPlain (escape_of byte)
plain_escape byte =
    plain_if (byte == 38) _ _ (plain_lit _ refl) (plain_if (byte == 60) _ _ (plain_lit _ refl) (plain_if (byte == 62) _ _ (plain_lit _ refl)
    (plain_if (byte == 34) _ _ (plain_lit _ refl) (plain_if (byte == 39) _ _ (plain_lit _ refl)
    (escape_by (nat_lt 31 byte && nat_lt byte 127) byte refl)))))

-- any text, escaped
pub plain_escaped : (text : List ℕ) → IsPlain (flat_map escape_of text)
plain_escaped text = plain_flat_map escape_of text plain_escape

pub plain_label_words : (line : Option ℕ) (position : ℕ) → IsPlain (label_words line position)
plain_label_words (Some line) position = plain_append (codes "line ") _ (plain_lit (codes "line ") refl) (plain_decimal line)
plain_label_words None position = plain_append (codes "position ") _ (plain_lit (codes "position ") refl) (plain_decimal position)

pub plain_label : (lines : List ℕ) (position : ℕ) → IsPlain (label_of lines position)
plain_label lines position = plain_label_words (slice_get lines position) position

pub plain_act : (act : Act) → IsPlain (act_words act)
plain_act (Put value expires) = plain_append (codes "put ") _ (plain_lit (codes "put ") refl) (plain_shown value)
plain_act Remove = plain_lit (codes "the removal") refl
plain_act (Hit value moment) = plain_append (codes "the hit of ") _ (plain_lit (codes "the hit of ") refl) (plain_shown value)
plain_act Miss = plain_lit (codes "the miss") refl

pub plain_call : (call : Option Call) (label : List ℕ) → IsPlain label → IsPlain (call_words call label)
plain_call (Some call) label p =
    plain_append (act_words call.act) _ (plain_act call.act) (plain_append (codes " (") _ (plain_lit (codes " (") refl) (plain_append label _ (p) (plain_lit (codes ")") refl)))
plain_call None label p =
    plain_append (codes "a call that is not there (") _ (plain_lit (codes "a call that is not there (") refl) (plain_append label _ (p) (plain_lit (codes ")") refl))

pub plain_name : (history : List Call) (lines : List ℕ) (position : ℕ) → IsPlain (name_of history lines position)
unfolding name_of
plain_name history lines position = plain_call (slice_get history position) (label_of lines position) (plain_label lines position)

pub plain_order : (history : List Call) (lines : List ℕ) (first : ℕ) (second : ℕ) → IsPlain (order_words history lines first second)
unfolding order_words
plain_order history lines first second =
    plain_append (name_of history lines first) _ (plain_name history lines first) (plain_append (codes " ended at ") _ (plain_lit (codes " ended at ") refl) (plain_append (decimal (end_of (slice_get history first))) _ (plain_decimal (end_of (slice_get history first))) (plain_append (codes ", before ") _ (plain_lit (codes ", before ") refl) (plain_append (name_of history lines second) _ (plain_name history lines second) (plain_append (codes " started at ") _ (plain_lit (codes " started at ") refl) (plain_decimal (start_of (slice_get history second))))))))

pub plain_replaced : (history : List Call) (lines : List ℕ) (hit : ℕ) (put : ℕ) (write : ℕ) → IsPlain (replaced_words history lines hit put write)
unfolding replaced_words
plain_replaced history lines hit put write =
    plain_append (order_words history lines put write) _ (plain_order history lines put write) (plain_append (codes ", which ended at ") _ (plain_lit (codes ", which ended at ") refl) (plain_append (decimal (end_of (slice_get history write))) _ (plain_decimal (end_of (slice_get history write))) (plain_append (codes ", before the hit started at ") _ (plain_lit (codes ", before the hit started at ") refl) (plain_decimal (start_of (slice_get history hit))))))

pub plain_expired : (history : List Call) (lines : List ℕ) (hit : ℕ) (put : ℕ) → IsPlain (expired_words history lines hit put)
unfolding expired_words
plain_expired history lines hit put =
    plain_append (name_of history lines put) _ (plain_name history lines put) (plain_append (codes " expired at ") _ (plain_lit (codes " expired at ") refl) (plain_append (decimal (moment_of (slice_get history put))) _ (plain_decimal (moment_of (slice_get history put))) (plain_append (codes ", and the hit was at moment ") _ (plain_lit (codes ", and the hit was at moment ") refl) (plain_decimal (moment_of (slice_get history hit))))))

pub plain_excuse : (history : List Call) (lines : List ℕ) (hit : ℕ) (put : ℕ) (why : Excuse) → IsPlain (excuse_words history lines hit put why)
plain_excuse history lines hit put Later = plain_order history lines hit put
plain_excuse history lines hit put Expired = plain_expired history lines hit put
plain_excuse history lines hit put (Replaced write) = plain_replaced history lines hit put write

pub plain_kind : (why : Excuse) → IsPlain (hit_kind why)
plain_kind Later = plain_lit (codes " came before its put: ") refl
plain_kind Expired = plain_lit (codes " is of an expired value: ") refl
plain_kind (Replaced write) = plain_lit (codes " is stale: ") refl

pub plain_also : (history : List Call) (lines : List ℕ) (hit : ℕ) (excluded : Excluded) → IsPlain (also_words history lines hit excluded)
unfolding also_words
plain_also history lines hit excluded =
    plain_append (codes "; ") _ (plain_lit (codes "; ") refl) (plain_excuse history lines hit excluded.put excluded.why)

pub plain_lone : (history : List Call) (lines : List ℕ) (hit : ℕ) (put : Option Excluded) → IsPlain (lone_words history lines hit put)
plain_lone history lines hit None =
    plain_append (name_of history lines hit) _ (plain_name history lines hit) (plain_lit (codes " is of a value that no call puts at its key") refl)
plain_lone history lines hit (Some one) =
    plain_append (name_of history lines hit) _ (plain_name history lines hit) (plain_append (hit_kind one.why) _ (plain_kind one.why) (plain_excuse history lines hit one.put one.why))

pub plain_hit : (history : List Call) (lines : List ℕ) (hit : ℕ) (puts : List Excluded) → IsPlain (hit_words history lines hit puts)
unfolding hit_words
plain_hit history lines hit puts =
    plain_if (nat_lt 1 (length puts)) (name_of history lines hit ++ (codes " can have read none of the " ++ (decimal (length puts) ++ (codes " puts of its value" ++ flat_map (also_words history lines hit) (take 8 puts))))) (lone_words history lines hit (slice_get puts 0)) (plain_append (name_of history lines hit) _ (plain_name history lines hit) (plain_append (codes " can have read none of the ") _ (plain_lit (codes " can have read none of the ") refl) (plain_append (decimal (length puts)) _ (plain_decimal (length puts)) (plain_append (codes " puts of its value") _ (plain_lit (codes " puts of its value") refl) (plain_flat_map (also_words history lines hit) (take 8 puts) (plain_also history lines hit)))))) (plain_lone history lines hit (slice_get puts 0))

pub plain_crossed : (history : List Call) (lines : List ℕ) (one : Side) (other : Side) → IsPlain (crossed_words history lines one other)
unfolding crossed_words
plain_crossed history lines one other =
    plain_append (name_of history lines one.write) _ (plain_name history lines one.write) (plain_append (codes " and ") _ (plain_lit (codes " and ") refl) (plain_append (name_of history lines other.write) _ (plain_name history lines other.write) (plain_append (codes " have no order: ") _ (plain_lit (codes " have no order: ") refl) (plain_append (order_words history lines one.early other.late) _ (plain_order history lines one.early other.late) (plain_append (codes ", so the first has to stand before the second; and ") _ (plain_lit (codes ", so the first has to stand before the second; and ") refl) (plain_append (order_words history lines other.early one.late) _ (plain_order history lines other.early one.late) (plain_lit (codes ", so the second has to stand before the first") refl)))))))

pub plain_read : (history : List Call) (lines : List ℕ) (writes : CrossedWrites) → IsPlain (read_words history lines writes)
unfolding read_words
plain_read history lines writes =
    plain_append (codes "; if it read ") _ (plain_lit (codes "; if it read ") refl) (plain_append (name_of history lines writes.one.write) _ (plain_name history lines writes.one.write) (plain_append (codes ", ") _ (plain_lit (codes ", ") refl) (plain_append (order_words history lines writes.one.early writes.other.late) _ (plain_order history lines writes.one.early writes.other.late) (plain_append (codes ", so that put has to stand before ") _ (plain_lit (codes ", so that put has to stand before ") refl) (plain_append (name_of history lines writes.other.write) _ (plain_name history lines writes.other.write) (plain_append (codes "; and ") _ (plain_lit (codes "; and ") refl) (plain_append (order_words history lines writes.other.early writes.one.late) _ (plain_order history lines writes.other.early writes.one.late) (plain_append (codes ", so ") _ (plain_lit (codes ", so ") refl) (plain_append (name_of history lines writes.other.write) _ (plain_name history lines writes.other.write) (plain_lit (codes " has to stand before that put") refl))))))))))

pub plain_unread : (history : List Call) (lines : List ℕ) (hit : ℕ) (reads : List CrossedWrites) → IsPlain (unread_words history lines hit reads)
unfolding unread_words
plain_unread history lines hit reads =
    plain_append (name_of history lines hit) _ (plain_name history lines hit) (plain_append (codes " fits ") _ (plain_lit (codes " fits ") refl) (plain_append (decimal (length reads)) _ (plain_decimal (length reads)) (plain_append (codes " puts, and whichever of them it read, two writes would have no order") _ (plain_lit (codes " puts, and whichever of them it read, two writes would have no order") refl) (plain_flat_map (read_words history lines) (take 3 reads) (plain_read history lines)))))

pub plain_interval : (history : List Call) (lines : List ℕ) (position : ℕ) → IsPlain (interval_words history lines position)
unfolding interval_words
plain_interval history lines position =
    plain_append (name_of history lines position) _ (plain_name history lines position) (plain_append (codes " ends at ") _ (plain_lit (codes " ends at ") refl) (plain_append (decimal (end_of (slice_get history position))) _ (plain_decimal (end_of (slice_get history position))) (plain_append (codes ", before it starts at ") _ (plain_lit (codes ", before it starts at ") refl) (plain_decimal (start_of (slice_get history position))))))

pub plain_out_of_order : (history : List Call) (lines : List ℕ) (place : ℕ) (call : ℕ) (earlier : ℕ) → IsPlain (out_of_order_words history lines place call earlier)
unfolding out_of_order_words
plain_out_of_order history lines place call earlier =
    plain_append (codes "place ") _ (plain_lit (codes "place ") refl) (plain_append (decimal place) _ (plain_decimal place) (plain_append (codes " of the certificate is out of order: ") _ (plain_lit (codes " of the certificate is out of order: ") refl) (plain_append (order_words history lines call earlier) _ (plain_order history lines call earlier) (plain_lit (codes ", and stands behind it") refl))))

pub plain_latest : (history : List Call) (lines : List ℕ) (hit : ℕ) (latest : Latest) → IsPlain (latest_words history lines hit latest)
plain_latest history lines hit latests.Nothing = plain_lit (codes "no write of its key stands before it") refl
plain_latest history lines hit (latests.Other write) =
    plain_append (codes "the latest write of its key before it is ") _ (plain_lit (codes "the latest write of its key before it is ") refl) (plain_name history lines write)
plain_latest history lines hit (latests.Expired put) = plain_expired history lines hit put

pub plain_wrong_hit : (history : List Call) (lines : List ℕ) (place : ℕ) (hit : ℕ) (latest : Latest) → IsPlain (wrong_hit_words history lines place hit latest)
unfolding wrong_hit_words
plain_wrong_hit history lines place hit latest =
    plain_append (name_of history lines hit) _ (plain_name history lines hit) (plain_append (codes " is wrong at place ") _ (plain_lit (codes " is wrong at place ") refl) (plain_append (decimal place) _ (plain_decimal place) (plain_append (codes " of the certificate: ") _ (plain_lit (codes " of the certificate: ") refl) (plain_latest history lines hit latest))))

pub plain_repeated : (history : List Call) (lines : List ℕ) (place : ℕ) (position : ℕ) → IsPlain (repeated_words history lines place position)
unfolding repeated_words
plain_repeated history lines place position =
    plain_append (codes "place ") _ (plain_lit (codes "place ") refl) (plain_append (decimal place) _ (plain_decimal place) (plain_append (codes " of the certificate repeats ") _ (plain_lit (codes " of the certificate repeats ") refl) (plain_name history lines position)))

pub plain_sentence : (history : List Call) (lines : List ℕ) (reason : Reason) → IsPlain (sentence_of history lines reason)
plain_sentence history lines (reasons.Interval position) = plain_interval history lines position
plain_sentence history lines (reasons.Hit hit puts) = plain_hit history lines hit puts.items
plain_sentence history lines (reasons.Crossed one other) = plain_crossed history lines one other
plain_sentence history lines (reasons.Unread unread) = plain_unread history lines unread.hit unread.reads.items
plain_sentence history lines (reasons.OutOfOrder place call earlier) = plain_out_of_order history lines place call earlier
plain_sentence history lines (reasons.WrongHit place hit latest) = plain_wrong_hit history lines place hit latest
plain_sentence history lines (reasons.Repeated place position) = plain_repeated history lines place position
plain_sentence history lines (reasons.NotAPlace place position) =
    plain_append (codes "place ") _ (plain_lit (codes "place ") refl) (plain_append (decimal place) _ (plain_decimal place) (plain_append (codes " of the certificate is ") _ (plain_lit (codes " of the certificate is ") refl) (plain_append (decimal position) _ (plain_decimal position) (plain_lit (codes ", which is no position of the history") refl))))
plain_sentence history lines reasons.WrongCount =
    plain_lit (codes "the certificate has another number of places than the history has calls") refl

pub plain_left : (width : ℕ) (word : List ℕ) → IsPlain word → IsPlain (left width word)
unfolding left
plain_left width word p = plain_append word _ (p) (plain_replicate (width - length word) 32 refl)

pub plain_right : (width : ℕ) (word : List ℕ) → IsPlain word → IsPlain (right width word)
unfolding right
plain_right width word p = plain_append (replicate (width - length word) 32) _ (plain_replicate (width - length word) 32 refl) (p)

pub plain_between : (first : ℕ) (last : ℕ) → IsPlain (bar_between first last)
plain_between first last =
    plain_if (nat_lt first last) (replicate first 32 ++ (codes "[" ++ (replicate (last - first - 1) 61 ++ codes "]"))) (if nat_lt last first then replicate last 32 ++ (codes "]" ++ (replicate (first - last - 1) 61 ++ codes "[")) else replicate first 32 ++ codes "|") (plain_append (replicate first 32) _ (plain_replicate first 32 refl) (plain_append (codes "[") _ (plain_lit (codes "[") refl) (plain_append (replicate (last - first - 1) 61) _ (plain_replicate (last - first - 1) 61 refl) (plain_lit (codes "]") refl)))) (plain_if (nat_lt last first) (replicate last 32 ++ (codes "]" ++ (replicate (first - last - 1) 61 ++ codes "["))) (replicate first 32 ++ codes "|") (plain_append (replicate last 32) _ (plain_replicate last 32 refl) (plain_append (codes "]") _ (plain_lit (codes "]") refl) (plain_append (replicate (first - last - 1) 61) _ (plain_replicate (first - last - 1) 61 refl) (plain_lit (codes "[") refl)))) (plain_append (replicate first 32) _ (plain_replicate first 32 refl) (plain_lit (codes "|") refl)))

pub plain_bar : (stamps : List ℕ) (start : ℕ) (end : ℕ) → IsPlain (bar_text stamps start end)
unfolding bar_text
plain_bar stamps start end =
    plain_if (end == never_ended) (replicate (column stamps start) 32 ++ (codes "[" ++ (replicate (length stamps - column stamps start) 61 ++ codes ">"))) (bar_between (column stamps start) (column stamps end)) (plain_append (replicate (column stamps start) 32) _ (plain_replicate (column stamps start) 32 refl) (plain_append (codes "[") _ (plain_lit (codes "[") refl) (plain_append (replicate (length stamps - column stamps start) 61) _ (plain_replicate (length stamps - column stamps start) 61 refl) (plain_lit (codes ">") refl)))) (plain_between (column stamps start) (column stamps end))

pub plain_end : (end : ℕ) → IsPlain (end_words end)
plain_end end = plain_if (end == never_ended) (codes "-") (decimal end) (plain_lit (codes "-") refl) (plain_decimal end)

pub plain_caller : (name : Option (List ℕ)) (number : ℕ) → IsPlain (caller_words name number)
plain_caller (Some name) number = plain_shown name
plain_caller None number = plain_decimal number

pub plain_act_name : (act : Act) → IsPlain (act_name act)
plain_act_name (Put value expires) = plain_lit (codes "put") refl
plain_act_name Remove = plain_lit (codes "remove") refl
plain_act_name (Hit value moment) = plain_lit (codes "hit") refl
plain_act_name Miss = plain_lit (codes "miss") refl

pub plain_value : (act : Act) → IsPlain (value_words act)
plain_value (Put value expires) = plain_shown value
plain_value Remove = plain_nil
plain_value (Hit value moment) = plain_shown value
plain_value Miss = plain_nil

pub plain_mark : (marks : List ℕ) (position : ℕ) → IsPlain (mark_words marks position)
plain_mark marks position =
    plain_if (list_any (λ mark. mark == position) marks) (codes "* ") (codes "  ") (plain_lit (codes "* ") refl) (plain_lit (codes "  ") refl)

pub plain_times : (sheet : Sheet) (start : ℕ) (end : ℕ) → IsPlain (times_text sheet start end)
unfolding times_text
plain_times sheet start end =
    plain_append (right sheet.starts (decimal start)) _ (plain_right sheet.starts (decimal start) (plain_decimal start)) (plain_append (codes "  ") _ (plain_lit (codes "  ") refl) (plain_right sheet.ends (end_words end) (plain_end end)))

pub plain_front : (lines : List ℕ) (callers : List (List ℕ)) (sheet : Sheet) (position : ℕ) (call : Call) → IsPlain (front_text lines callers sheet position call)
unfolding front_text
plain_front lines callers sheet position call =
    plain_append (right sheet.labels (decimal (label_number (slice_get lines position) position))) _ (plain_right sheet.labels (decimal (label_number (slice_get lines position) position)) (plain_decimal (label_number (slice_get lines position) position))) (plain_append (codes "  ") _ (plain_lit (codes "  ") refl) (plain_append (left sheet.callers (caller_words (slice_get callers call.caller) call.caller)) _ (plain_left sheet.callers (caller_words (slice_get callers call.caller) call.caller) (plain_caller (slice_get callers call.caller) call.caller)) (plain_append (codes "  ") _ (plain_lit (codes "  ") refl) (plain_times sheet call.start call.end))))

pub plain_back : (sheet : Sheet) (call : Call) → IsPlain (back_text sheet call)
unfolding back_text
plain_back sheet call =
    plain_append (left 6 (act_name call.act)) _ (plain_left 6 (act_name call.act) (plain_act_name call.act)) (plain_append (codes " ") _ (plain_lit (codes " ") refl) (plain_append (left sheet.values (value_words call.act)) _ (plain_left sheet.values (value_words call.act) (plain_value call.act)) (plain_append (codes "  ") _ (plain_lit (codes "  ") refl) (plain_bar sheet.stamps.items call.start call.end))))

pub plain_line : (lines : List ℕ) (callers : List (List ℕ)) (marks : List ℕ) (sheet : Sheet) (position : ℕ) (call : Option Call) → IsPlain (line_of lines callers marks sheet position call)
plain_line lines callers marks sheet position None = plain_nil
plain_line lines callers marks sheet position (Some call) =
    plain_append (mark_words marks position) _ (plain_mark marks position) (plain_append (front_text lines callers sheet position call) _ (plain_front lines callers sheet position call) (plain_append (codes "  ") _ (plain_lit (codes "  ") refl) (plain_append (back_text sheet call) _ (plain_back sheet call) (plain_lit (codes "\n") refl))))

pub plain_row : (history : List Call) (lines : List ℕ) (callers : List (List ℕ)) (marks : List ℕ) (sheet : Sheet) (position : ℕ) → IsPlain (row_text history lines callers marks sheet position)
unfolding row_text
plain_row history lines callers marks sheet position = plain_line lines callers marks sheet position (slice_get history position)

-- an explanation is plain
pub plain_explanation : (history : List Call) (lines : List ℕ) (callers : List (List ℕ)) (reason : Reason) (marks : List ℕ) (sheet : Sheet) (shown : List ℕ) → IsPlain (sentence_of history lines reason ++ (codes "\n" ++ flat_map (row_text history lines callers marks sheet) shown))
plain_explanation history lines callers reason marks sheet shown =
    plain_append (sentence_of history lines reason) _ (plain_sentence history lines reason) (plain_append (codes "\n") _ (plain_lit (codes "\n") refl) (plain_flat_map (row_text history lines callers marks sheet) shown (plain_row history lines callers marks sheet)))
