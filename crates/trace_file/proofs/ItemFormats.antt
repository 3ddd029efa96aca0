-- The items of a trace are formats.
use Rattle.std.proofs.Common.{◌≡◌, ℕ, suc, ◌+◌, ◌^◌, ◌<◌, ◌≤◌, Bool, true, false, not, cond, eqb, ltb, List, [], ◌∷◌, ◌++◌, length, Option, Some, None, Ok, Err, refl, sym, ap, subst, ◌∙◌, arith}
use Rattle.std.specs.List.{zip, prefix_len}
use Rattle.std.specs.Int.{w16, w32, w64, to_be_bytes}
use Rattle.std.proofs.lemmas.Bool.{eqb-true, eqb-false, ltb-false, le-ltb, ne_eqb}
use Rattle.std.proofs.lemmas.List.{append-nil}
use Rattle.std.proofs.lemmas.Option.{same_Some}
use Rattle.record_pages.specs.Bounded.{IsKey, IsValue}
use Rattle.record_pages.specs.Expiry.{never}
use Rattle.trace_file.specs.declared.act.Act.{Act}
use Rattle.trace_file.specs.declared.act.Act.TheVariants as acts
use Rattle.trace_file.specs.declared.call.Call.{Call}
use Rattle.trace_file.specs.declared.header.Header.{Header}
use Rattle.trace_file.specs.declared.call_kind.CallKind.{CallKind}
use Rattle.trace_file.specs.declared.call_kind.CallKind.TheVariants.{Put, Remove, Hit, Miss}
use Rattle.trace_file.specs.declared.item_fault.ItemFault.TheVariants.{Fault}
use Rattle.trace_file.specs.declared.trace_fault.TraceFault.{TraceFault}
use Rattle.trace_file.specs.declared.trace_fault.TraceFault.TheVariants.{BadMagic, TooMany, BadKind, BadKey, BadValue}
use Rattle.trace_file.specs.declared.version.Version.{Version}
use Rattle.trace_file.specs.declared.version.Version.TheVariants.{Timed, Timeless}
use Rattle.trace_file.specs.Calls.{value_of, time_of}
use Rattle.trace_file.specs.Outcome.{IsOfText}
use Rattle.trace_file.specs.Reading.{Place, place, Read, ◌>>=◌, bytes_at, number_at, byte_at, or_fault, kind_of_byte, kind_at, key_at, value_at, time_at, act_at, call_at, position_at, first_difference, version_by, version_at, count_at, header_at}
use Rattle.trace_file.specs.Text.{magic, most_calls, kind_byte, key_text, value_text, time_text, act_text, call_text, header_of, header_text, CanSay, IsCallOf}
use Rattle.trace_file.proofs.Formats.{IsBytes, same_fault, longer, Takes, IsFormat, same_lawful, same_text, pure_format, then_format, guard_format, bytes_format, wide16, wide32, wide64, number_format, byte_format}

-- ---- a key, a value

pub key_format : IsFormat key_at key_text IsKey
unfolding key_at
key_format =
    same_lawful (then_format byte_at (λ n. n ∷ []) (λ n. n < 256)
    (λ at len p. cond (eqb len 0) (Err (Fault (BadKey at))) (bytes_at len p)) (λ key. key) (λ len key. (eqb len 0 ≡ false) × (length key ≡ len)) length
    byte_format (λ at len. guard_format (bytes_format len) (eqb len 0) (BadKey at) tt) (λ len key h k. k.1))
    IsKey
    (λ key h. let some = eqb-false (length key) 0 h.1.0 in (omega (arith, some), omega (arith, h.0)))
    (λ key is. (omega (arith, is.1), (ne_eqb (length key) 0 (λ e. omega (arith, is.0, e)), refl)))

pub value_format : IsFormat value_at value_text IsValue
unfolding value_at
value_format =
    same_lawful (then_format (number_at w16) (to_be_bytes w16) (λ n. n < 2 ^ 16)
    (λ at len p. cond (ltb 2048 len) (Err (Fault (BadValue at))) (bytes_at len p)) (λ value. value) (λ len value. (ltb 2048 len ≡ false) × (length value ≡ len)) length
    (number_format w16 (2 ^ 16) wide16) (λ at len. guard_format (bytes_format len) (ltb 2048 len) (BadValue at) tt) (λ len value h k. k.1))
    IsValue
    (λ value h. ltb-false 2048 (length value) h.1.0)
    (λ value is. (omega (arith, is), (le-ltb 2048 (length value) is, refl)))

-- ---- a kind

pub kind_number : CallKind → ℕ
kind_number Put = 1
kind_number Remove = 2
kind_number Hit = 3
kind_number Miss = 4

-- it is one of 1 to 4
pub kind_number-known : (kind : CallKind) → (1 ≤ kind_number kind) × (kind_number kind ≤ 4)
unfolding kind_number
kind_number-known Put = (omega arith, omega arith)
kind_number-known Remove = (omega arith, omega arith)
kind_number-known Hit = (omega arith, omega arith)
kind_number-known Miss = (omega arith, omega arith)

pub kind_number-put : kind_number Put ≡ 1
unfolding kind_number
kind_number-put = refl

pub kind_number-hit : kind_number Hit ≡ 3
unfolding kind_number
kind_number-hit = refl

by_tests : (p r h m : Bool) (b : ℕ) (kind : CallKind) → (p ≡ true → b ≡ 1) → (r ≡ true → b ≡ 2) → (h ≡ true → b ≡ 3) → (m ≡ true → b ≡ 4)
    → cond p (Some Put) (cond r (Some Remove) (cond h (Some Hit) (cond m (Some Miss) None))) ≡ Some kind → kind_number kind ≡ b
unfolding kind_number
by_tests true r h m b kind one two three four e = ap kind_number (sym (same_Some Put kind e)) ∙ sym (one refl)
by_tests false true h m b kind one two three four e = ap kind_number (sym (same_Some Remove kind e)) ∙ sym (two refl)
by_tests false false true m b kind one two three four e = ap kind_number (sym (same_Some Hit kind e)) ∙ sym (three refl)
by_tests false false false true b kind one two three four e = ap kind_number (sym (same_Some Miss kind e)) ∙ sym (four refl)
by_tests false false false false b kind one two three four e = absurd cc

number_is : (b : ℕ) (kind : CallKind) → kind_of_byte b ≡ Some kind → kind_number kind ≡ b
number_is b kind e = by_tests (eqb b 1) (eqb b 2) (eqb b 3) (eqb b 4) b kind (eqb-true b 1) (eqb-true b 2) (eqb-true b 3) (eqb-true b 4) e

kind_again : (kind : CallKind) → (kind_number kind < 256) × (kind_of_byte (kind_number kind) ≡ Some kind)
unfolding kind_number
kind_again Put = (omega arith, refl)
kind_again Remove = (omega arith, refl)
kind_again Hit = (omega arith, refl)
kind_again Miss = (omega arith, refl)

-- a value that is there takes no bytes
module _ {A : Type 0} (d : TraceFault) where
  option_takes : (o : Option A) (p : Place) (x : A) (q : Place) → IsBytes p.bytes → or_fault o d p ≡ Ok (x, q) → Takes p [] q × (o ≡ Some x)
  option_takes (Some y) p x q fits e = let t = (pure_format y).takes p x q fits e in (t.0, ap (λ (z : A). Some z) t.1)
  option_takes None p x q fits e = absurd cc

  option_stays : (o : Option A) (p : Place) (f : TraceFault) (more : List ℕ) → or_fault o d p ≡ Err (Fault f) → or_fault o d (longer p more) ≡ Err (Fault f)
  option_stays (Some y) p f more e = absurd cc
  option_stays None p f more e = cc

  option_kind : IsOfText d → (o : Option A) (p : Place) (f : TraceFault) → or_fault o d p ≡ Err (Fault f) → IsOfText f
  option_kind is (Some y) p f e = absurd cc
  option_kind is None p f e = subst IsOfText (same_fault d f e) is

  option_format : IsOfText d → (o : Option A) → IsFormat (or_fault o d) (λ _. []) (λ x. o ≡ Some x)
  option_format is o = record {
    takes = option_takes o;
    again = λ at x rest h. let n : at ≡ at + 0 = omega arith in ap (λ (z : Option A). or_fault z d (place at rest)) h ∙ ap (λ (m : ℕ). Ok (x, place m rest)) n;
    stays = λ p f more fits e. option_stays o p f more e;
    kind = option_kind is o;
  }

abbrev pub kind_text : CallKind → List ℕ
kind_text kind = (kind_number kind ∷ []) ++ []

pub kind_format : IsFormat kind_at kind_text (λ _. Unit {0})
unfolding kind_at
kind_format =
    same_lawful (then_format byte_at (λ n. n ∷ []) (λ n. n < 256)
    (λ at b p. or_fault (kind_of_byte b) (BadKind at) p) (λ _. []) (λ b kind. kind_of_byte b ≡ Some kind) kind_number
    byte_format (λ at b. option_format (BadKind at) tt (kind_of_byte b)) (λ b kind h k. number_is b kind k))
    (λ _. Unit {0})
    (λ kind h. tt)
    (λ kind h. kind_again kind)

-- ---- an act

kind_of_act : Act → CallKind
kind_of_act (acts.Put value expires) = Put
kind_of_act acts.Remove = Remove
kind_of_act (acts.Hit value moment) = Hit
kind_of_act acts.Miss = Miss

kind_number-act : (act : Act) → kind_number (kind_of_act act) ≡ kind_byte act
unfolding kind_number kind_of_act
kind_number-act (acts.Put value expires) = refl
kind_number-act acts.Remove = refl
kind_number-act (acts.Hit value moment) = refl
kind_number-act acts.Miss = refl

-- a time that stands here, or that its lack means
abbrev pub IsTimeOf : Version → ℕ → ℕ → Type 0
IsTimeOf Timed meant time = time < 2 ^ 64
IsTimeOf Timeless meant time = meant ≡ time

time_format : (version : Version) (meant : ℕ) → IsFormat (time_at version meant) (time_text version) (IsTimeOf version meant)
unfolding time_at
time_format Timed meant = number_format w64 (2 ^ 64) wide64
time_format Timeless meant = pure_format meant

-- a trace of this form can say the act
abbrev IsSaid : Version → Act → Type 0
IsSaid version act = IsValue (value_of act) × ((time_of act < 2 ^ 64) × CanSay version act)

abbrev IsActOf : Version → CallKind → Act → Type 0
IsActOf version kind act = IsSaid version act × (kind_of_act act ≡ kind)

-- a value and a time, and the act that has them
module _ (version : Version) (kind : CallKind) (meant : ℕ) (make : List ℕ → ℕ → Act) (has : (value : List ℕ) (time : ℕ) → value_of (make value time) ≡ value)
    (has_time : (value : List ℕ) (time : ℕ) → time_of (make value time) ≡ time)
    (spelled : (value : List ℕ) (time : ℕ) → act_text version (make value time) ≡ value_text value ++ time_text version time)
    (is : (value : List ℕ) (time : ℕ) → kind_of_act (make value time) ≡ kind) (back : (act : Act) → kind_of_act act ≡ kind → make (value_of act) (time_of act) ≡ act)
    (says : (act : Act) → kind_of_act act ≡ kind → IsTimeOf version meant (time_of act) → (time_of act < 2 ^ 64) × CanSay version act)
    (said : (act : Act) → kind_of_act act ≡ kind → (time_of act < 2 ^ 64) × CanSay version act → IsTimeOf version meant (time_of act)) where
  abbrev timed : List ℕ → Place → Read Act
  timed value p = time_at version meant p >>= λ time. Ok (make value time.0, time.1)

  abbrev is_timed : List ℕ → Act → Type 0
  is_timed value act = IsTimeOf version meant (time_of act) × (make value (time_of act) ≡ act)

  timed_format : (value : List ℕ) → IsFormat (timed value) (λ act. time_text version (time_of act) ++ []) (is_timed value)
  timed_format value =
      then_format (time_at version meant) (time_text version) (IsTimeOf version meant) (λ at time p. Ok (make value time, p)) (λ _. []) (λ time act. make value time ≡ act) time_of
      (time_format version meant) (λ at time. pure_format (make value time)) (λ time act h k. ap time_of (sym k) ∙ has_time value time)

  valued : IsFormat (λ p. value_at p >>= λ value. timed value.0 value.1) (act_text version) (IsActOf version kind)
  valued =
      let made = then_format value_at value_text IsValue (λ at value p. timed value p) (λ act. time_text version (time_of act) ++ []) is_timed value_of
      value_format (λ at value. timed_format value) (λ value act h k. ap value_of (sym k.1) ∙ has value (time_of act)) in
      let kind-is : (act : Act) → make (value_of act) (time_of act) ≡ act → kind_of_act act ≡ kind = λ act e. ap kind_of_act (sym e) ∙ is (value_of act) (time_of act) in
      same_lawful (same_text made (act_text version)
      (λ act h. ap (λ (t : List ℕ). value_text (value_of act) ++ t) (append-nil (time_text version (time_of act))) ∙ sym (spelled (value_of act) (time_of act)) ∙ ap (act_text version) h.1.1))
      (IsActOf version kind)
      (λ act h. ((h.0, says act (kind-is act h.1.1) h.1.0), kind-is act h.1.1))
      (λ act h. (h.0.0, (said act h.1 h.0.1, back act h.1)))

put_back : (act : Act) → kind_of_act act ≡ Put → acts.Put (value_of act) (time_of act) ≡ act
unfolding kind_of_act
put_back (acts.Put value expires) e = refl
put_back acts.Remove e = absurd cc
put_back (acts.Hit value moment) e = absurd cc
put_back acts.Miss e = absurd cc

put_says : (version : Version) (act : Act) → kind_of_act act ≡ Put → IsTimeOf version never (time_of act) → (time_of act < 2 ^ 64) × CanSay version act
unfolding kind_of_act
put_says Timed act e h = (h, tt)
put_says Timeless (acts.Put value expires) e h = (omega (arith, h), sym h)
put_says Timeless acts.Remove e h = absurd cc
put_says Timeless (acts.Hit value moment) e h = absurd cc
put_says Timeless acts.Miss e h = absurd cc

put_said : (version : Version) (act : Act) → kind_of_act act ≡ Put → (time_of act < 2 ^ 64) × CanSay version act → IsTimeOf version never (time_of act)
unfolding kind_of_act
put_said Timed act e h = h.0
put_said Timeless (acts.Put value expires) e h = sym h.1
put_said Timeless acts.Remove e h = absurd cc
put_said Timeless (acts.Hit value moment) e h = absurd cc
put_said Timeless acts.Miss e h = absurd cc

hit_back : (act : Act) → kind_of_act act ≡ Hit → acts.Hit (value_of act) (time_of act) ≡ act
unfolding kind_of_act
hit_back (acts.Put value expires) e = absurd cc
hit_back acts.Remove e = absurd cc
hit_back (acts.Hit value moment) e = refl
hit_back acts.Miss e = absurd cc

hit_says : (version : Version) (act : Act) → kind_of_act act ≡ Hit → IsTimeOf version 0 (time_of act) → (time_of act < 2 ^ 64) × CanSay version act
unfolding kind_of_act
hit_says Timed act e h = (h, tt)
hit_says Timeless (acts.Put value expires) e h = absurd cc
hit_says Timeless acts.Remove e h = absurd cc
hit_says Timeless (acts.Hit value moment) e h = (omega (arith, h), sym h)
hit_says Timeless acts.Miss e h = absurd cc

hit_said : (version : Version) (act : Act) → kind_of_act act ≡ Hit → (time_of act < 2 ^ 64) × CanSay version act → IsTimeOf version 0 (time_of act)
unfolding kind_of_act
hit_said Timed act e h = h.0
hit_said Timeless (acts.Put value expires) e h = absurd cc
hit_said Timeless acts.Remove e h = absurd cc
hit_said Timeless (acts.Hit value moment) e h = sym h.1
hit_said Timeless acts.Miss e h = absurd cc

remove_back : (act : Act) → kind_of_act act ≡ Remove → acts.Remove ≡ act
unfolding kind_of_act
remove_back (acts.Put value expires) e = absurd cc
remove_back acts.Remove e = refl
remove_back (acts.Hit value moment) e = absurd cc
remove_back acts.Miss e = absurd cc

miss_back : (act : Act) → kind_of_act act ≡ Miss → acts.Miss ≡ act
unfolding kind_of_act
miss_back (acts.Put value expires) e = absurd cc
miss_back acts.Remove e = absurd cc
miss_back (acts.Hit value moment) e = absurd cc
miss_back acts.Miss e = refl

-- an act with no value
bare : (version : Version) (kind : CallKind) (it : Act) → IsSaid version it → [] ≡ act_text version it → kind_of_act it ≡ kind → ((act : Act) → kind_of_act act ≡ kind → it ≡ act)
    → IsFormat (λ p. Ok (it, p)) (act_text version) (IsActOf version kind)
bare version kind it said empty is back =
    same_lawful (same_text (pure_format it) (act_text version) (λ act h. empty ∙ ap (act_text version) h)) (IsActOf version kind)
    (λ act h. subst (IsActOf version kind) h (said, is))
    (λ act h. back act h.1)

remove_said : (version : Version) → IsSaid version acts.Remove
remove_said Timed = (omega arith, (omega arith, tt))
remove_said Timeless = (omega arith, (omega arith, tt))

miss_said : (version : Version) → IsSaid version acts.Miss
miss_said Timed = (omega arith, (omega arith, tt))
miss_said Timeless = (omega arith, (omega arith, tt))

act_format : (version : Version) (kind : CallKind) → IsFormat (act_at version kind) (act_text version) (IsActOf version kind)
unfolding act_at kind_of_act
act_format version Put = valued version Put never (λ v t. acts.Put v t) (λ v t. refl) (λ v t. refl) (λ v t. refl) (λ v t. refl) put_back (put_says version) (put_said version)
act_format version Remove = bare version Remove acts.Remove (remove_said version) refl refl remove_back
act_format version Hit = valued version Hit 0 (λ v t. acts.Hit v t) (λ v t. refl) (λ v t. refl) (λ v t. refl) (λ v t. refl) hit_back (hit_says version) (hit_said version)
act_format version Miss = bare version Miss acts.Miss (miss_said version) refl refl miss_back

-- ---- a call, from its last field to its first

abbrev pub made : ℕ → ℕ → ℕ → List ℕ → Act → Call
made caller start end key act = record { caller = caller; start = start; end = end; key = key; act = act }

abbrev text_from_act : Version → Call → List ℕ
text_from_act version c = act_text version c.act ++ []

abbrev text_from_key : Version → Call → List ℕ
text_from_key version c = key_text c.key ++ text_from_act version c

abbrev text_from_end : Version → Call → List ℕ
text_from_end version c = to_be_bytes w64 c.end ++ text_from_key version c

abbrev text_from_start : Version → Call → List ℕ
text_from_start version c = to_be_bytes w64 c.start ++ text_from_end version c

abbrev text_from_caller : Version → Call → List ℕ
text_from_caller version c = to_be_bytes w16 c.caller ++ text_from_start version c

abbrev pub read_act : Version → CallKind → ℕ → ℕ → ℕ → List ℕ → Place → Read Call
read_act version kind caller start end key p = act_at version kind p >>= λ act. Ok (made caller start end key act.0, act.1)

abbrev pub read_key : Version → CallKind → ℕ → ℕ → ℕ → Place → Read Call
read_key version kind caller start end p = key_at p >>= λ key. read_act version kind caller start end key.0 key.1

abbrev pub read_end : Version → CallKind → ℕ → ℕ → Place → Read Call
read_end version kind caller start p = number_at w64 p >>= λ end. read_key version kind caller start end.0 end.1

abbrev pub read_start : Version → CallKind → ℕ → Place → Read Call
read_start version kind caller p = number_at w64 p >>= λ start. read_end version kind caller start.0 start.1

abbrev pub read_caller : Version → CallKind → Place → Read Call
read_caller version kind p = number_at w16 p >>= λ caller. read_start version kind caller.0 caller.1

abbrev from_act : Version → CallKind → ℕ → ℕ → ℕ → List ℕ → Call → Type 0
from_act version kind caller start end key c = IsActOf version kind c.act × (made caller start end key c.act ≡ c)

abbrev from_key : Version → CallKind → ℕ → ℕ → ℕ → Call → Type 0
from_key version kind caller start end c = IsKey c.key × from_act version kind caller start end c.key c

abbrev from_end : Version → CallKind → ℕ → ℕ → Call → Type 0
from_end version kind caller start c = (c.end < 2 ^ 64) × from_key version kind caller start c.end c

abbrev from_start : Version → CallKind → ℕ → Call → Type 0
from_start version kind caller c = (c.start < 2 ^ 64) × from_end version kind caller c.start c

abbrev from_caller : Version → CallKind → Call → Type 0
from_caller version kind c = (c.caller < 2 ^ 16) × from_start version kind c.caller c

act_part : (version : Version) (kind : CallKind) (caller start end : ℕ) (key : List ℕ) → IsFormat (read_act version kind caller start end key) (text_from_act version) (from_act version kind caller start end key)
act_part version kind caller start end key =
    then_format (act_at version kind) (act_text version) (IsActOf version kind) (λ at act p. Ok (made caller start end key act, p)) (λ _. []) (λ act c. made caller start end key act ≡ c) (λ c. c.act)
    (act_format version kind) (λ at act. pure_format (made caller start end key act)) (λ act c h k. ap (λ (x : Call). x.act) (sym k))

key_part : (version : Version) (kind : CallKind) (caller start end : ℕ) → IsFormat (read_key version kind caller start end) (text_from_key version) (from_key version kind caller start end)
key_part version kind caller start end =
    then_format key_at key_text IsKey (λ at key p. read_act version kind caller start end key p) (text_from_act version) (λ key c. from_act version kind caller start end key c) (λ c. c.key)
    key_format (λ at key. act_part version kind caller start end key) (λ key c h k. ap (λ (x : Call). x.key) (sym k.1))

end_part : (version : Version) (kind : CallKind) (caller start : ℕ) → IsFormat (read_end version kind caller start) (text_from_end version) (from_end version kind caller start)
end_part version kind caller start =
    then_format (number_at w64) (to_be_bytes w64) (λ n. n < 2 ^ 64) (λ at end p. read_key version kind caller start end p) (text_from_key version) (λ end c. from_key version kind caller start end c) (λ c. c.end)
    (number_format w64 (2 ^ 64) wide64) (λ at end. key_part version kind caller start end) (λ end c h k. ap (λ (x : Call). x.end) (sym k.1.1))

start_part : (version : Version) (kind : CallKind) (caller : ℕ) → IsFormat (read_start version kind caller) (text_from_start version) (from_start version kind caller)
start_part version kind caller =
    then_format (number_at w64) (to_be_bytes w64) (λ n. n < 2 ^ 64) (λ at start p. read_end version kind caller start p) (text_from_end version) (λ start c. from_end version kind caller start c) (λ c. c.start)
    (number_format w64 (2 ^ 64) wide64) (λ at start. end_part version kind caller start) (λ start c h k. ap (λ (x : Call). x.start) (sym k.1.1.1))

caller_part : (version : Version) (kind : CallKind) → IsFormat (read_caller version kind) (text_from_caller version) (from_caller version kind)
caller_part version kind =
    then_format (number_at w16) (to_be_bytes w16) (λ n. n < 2 ^ 16) (λ at caller p. read_start version kind caller p) (text_from_start version) (λ caller c. from_start version kind caller c) (λ c. c.caller)
    (number_format w16 (2 ^ 16) wide16) (λ at caller. start_part version kind caller) (λ caller c h k. ap (λ (x : Call). x.caller) (sym k.1.1.1.1))

whole_call : (version : Version) → IsFormat (call_at version) (λ c. kind_text (kind_of_act c.act) ++ text_from_caller version c) (λ c. Unit {0} × from_caller version (kind_of_act c.act) c)
unfolding call_at
whole_call version =
    then_format kind_at kind_text (λ _. Unit {0}) (λ at kind p. read_caller version kind p) (text_from_caller version) (λ kind c. from_caller version kind c) (λ c. kind_of_act c.act)
    kind_format (λ at kind. caller_part version kind) (λ kind c h k. k.1.1.1.1.0.1)

call_spelled : (version : Version) (c : Call) → kind_text (kind_of_act c.act) ++ text_from_caller version c ≡ call_text version c
unfolding call_text
call_spelled version c =
    ap (λ (n : ℕ). n ∷ text_from_caller version c) (kind_number-act c.act)
    ∙ ap (λ (t : List ℕ). kind_byte c.act ∷ (to_be_bytes w16 c.caller ++ (to_be_bytes w64 c.start ++ (to_be_bytes w64 c.end ++ (key_text c.key ++ t))))) (append-nil (act_text version c.act))

pub call_format : (version : Version) → IsFormat (call_at version) (call_text version) (IsCallOf version)
call_format version =
    same_lawful (same_text (whole_call version) (call_text version) (λ c h. call_spelled version c)) (IsCallOf version)
    (λ c h. let said = h.1.1.1.1.1.0.0 in record {
      lawful = record { caller = h.1.0; start = h.1.1.0; end = h.1.1.1.0; key = h.1.1.1.1.0; value = said.0; time = said.1.0 };
      said = said.1.1;
    })
    (λ c is. let l = is.lawful in (tt, (l.caller, (l.start, (l.end, (l.key, (((l.value, (l.time, is.said)), refl), refl)))))))

pub position_format : IsFormat position_at (to_be_bytes w32) (λ n. n < 2 ^ 32)
position_format = number_format w32 (2 ^ 32) wide32

-- ---- the header

passes : (t : Bool) (n m : ℕ) → suc n ≤ cond (not (not t)) (1 + m) 0 → (t ≡ true) × (n ≤ m)
passes true n m le = (refl, omega (arith, le))
passes false n m le = absurd (omega (arith, le))

-- bytes that pass each test of a front are equal to others
same_from_prefix : (bytes others : List ℕ) → length bytes ≡ length others → length (zip bytes others) ≤ prefix_len (λ p. not (not (eqb p.0 p.1))) (zip bytes others) → bytes ≡ others
same_from_prefix [] [] len le = refl
same_from_prefix [] (o ∷ os) len le = absurd (omega (arith, len))
same_from_prefix (b ∷ bs) [] len le = absurd (omega (arith, len))
same_from_prefix (b ∷ bs) (o ∷ os) len le =
    let p = passes (eqb b o) (length (zip bs os)) (prefix_len (λ p. not (not (eqb p.0 p.1))) (zip bs os)) le in
    let front : b ≡ o = eqb-true b o p.0 in
    let rest : bs ≡ os = same_from_prefix bs os (omega (arith, len)) p.1 in
    ap (λ (x : ℕ). x ∷ bs) front ∙ ap (λ (xs : List ℕ). o ∷ xs) rest

none_of : (b : Bool) (x : ℕ) → cond b (Some x) None ≡ None → b ≡ false
none_of true x e = absurd cc
none_of false x e = refl

-- if no byte differs the bytes are those
pub same_from_none : (bytes others : List ℕ) → length bytes ≡ length others → first_difference bytes others ≡ None → bytes ≡ others
same_from_none bytes others len e =
    let test = none_of (ltb (prefix_len (λ p. not (not (eqb p.0 p.1))) (zip bytes others)) (length (zip bytes others))) (prefix_len (λ p. not (not (eqb p.0 p.1))) (zip bytes others)) e in
    same_from_prefix bytes others len (ltb-false _ _ test)

-- a fault is no format's value
fault_format : {A : Type 0} (d : TraceFault) (text : A → List ℕ) → IsOfText d → IsFormat (λ p. Err (Fault d)) text (λ x. ⊥)
fault_format d text is = record {
  takes = λ p x q fits e. absurd cc;
  again = λ at x rest h. absurd h;
  stays = λ p f more fits e. e;
  kind = λ p f e. subst IsOfText (same_fault d f e) is;
}

-- the form that the two differences tell
abbrev pub IsVersionBy : Option ℕ → Option ℕ → Version → Type 0
IsVersionBy None older version = Timed ≡ version
IsVersionBy (Some i) None version = Timeless ≡ version
IsVersionBy (Some i) (Some j) version = ⊥

version_by_format : (at : ℕ) (differs older : Option ℕ) → IsFormat (version_by differs older at) (λ _. []) (IsVersionBy differs older)
version_by_format at None older = pure_format Timed
version_by_format at (Some i) None = pure_format Timeless
version_by_format at (Some i) (Some j) = fault_format (BadMagic (at + i)) (λ _. []) tt

magic_by : (m : List ℕ) (differs older : Option ℕ) → first_difference m (magic Timed) ≡ differs → first_difference m (magic Timeless) ≡ older → length m ≡ 8 → (version : Version) → IsVersionBy differs older version → magic version ≡ m
magic_by m None older e e' len version h = ap magic (sym h) ∙ sym (same_from_none m (magic Timed) len e)
magic_by m (Some i) None e e' len version h = ap magic (sym h) ∙ sym (same_from_none m (magic Timeless) len e')
magic_by m (Some i) (Some j) e e' len version h = absurd h

magic_again : (version : Version) → (length (magic version) ≡ 8) × IsVersionBy (first_difference (magic version) (magic Timed)) (first_difference (magic version) (magic Timeless)) version
magic_again Timed = (refl, refl)
magic_again Timeless = (refl, refl)

pub version_format : IsFormat version_at magic (λ _. Unit {0})
unfolding version_at
version_format =
    let judged = then_format (bytes_at 8) (λ bytes. bytes) (λ bytes. length bytes ≡ 8)
    (λ at m p. version_by (first_difference m (magic Timed)) (first_difference m (magic Timeless)) at p) (λ _. [])
    (λ m version. IsVersionBy (first_difference m (magic Timed)) (first_difference m (magic Timeless)) version) magic
    (bytes_format 8) (λ at m. version_by_format at (first_difference m (magic Timed)) (first_difference m (magic Timeless)))
    (λ m version len is. magic_by m (first_difference m (magic Timed)) (first_difference m (magic Timeless)) refl refl len version is) in
    same_lawful (same_text judged magic (λ version h. append-nil (magic version))) (λ _. Unit {0})
    (λ version h. tt)
    (λ version h. magic_again version)

pub count_format : IsFormat count_at (to_be_bytes w32) (λ n. n ≤ most_calls)
unfolding count_at
count_format =
    let counted = then_format (number_at w32) (to_be_bytes w32) (λ n. n < 2 ^ 32)
    (λ at n p. cond (ltb most_calls n) (Err (Fault (TooMany at))) (Ok (n, p))) (λ _. []) (λ n m. (ltb most_calls n ≡ false) × (n ≡ m)) (λ n. n)
    (number_format w32 (2 ^ 32) wide32) (λ at n. guard_format (pure_format n) (ltb most_calls n) (TooMany at) tt) (λ n m h k. sym k.1) in
    same_lawful (same_text counted (to_be_bytes w32) (λ n h. append-nil (to_be_bytes w32 n))) (λ n. n ≤ most_calls)
    (λ n h. ltb-false most_calls n h.1.0)
    (λ n le. (omega (arith, le), (le-ltb most_calls n le, refl)))

header_from_count : (version : Version) → IsFormat (λ p. count_at p >>= λ count. Ok (header_of version count.0, count.1)) (λ h. to_be_bytes w32 h.count ++ []) (λ h. (h.count ≤ most_calls) × (header_of version h.count ≡ h))
header_from_count version =
    then_format count_at (to_be_bytes w32) (λ n. n ≤ most_calls) (λ at n p. Ok (header_of version n, p)) (λ _. []) (λ n h. header_of version n ≡ h) (λ h. h.count)
    count_format (λ at n. pure_format (header_of version n)) (λ n h le k. ap (λ (x : Header). x.count) (sym k))

pub header_format : IsFormat header_at header_text (λ h. h.count ≤ most_calls)
unfolding header_at header_text
header_format =
    let read = then_format version_at magic (λ _. Unit {0}) (λ at version p. count_at p >>= λ count. Ok (header_of version count.0, count.1)) (λ h. to_be_bytes w32 h.count ++ [])
    (λ version h. (h.count ≤ most_calls) × (header_of version h.count ≡ h)) (λ h. h.version)
    version_format (λ at version. header_from_count version) (λ version h u k. ap (λ (x : Header). x.version) (sym k.1)) in
    same_lawful (same_text read header_text (λ h k. ap (λ (t : List ℕ). magic h.version ++ t) (append-nil (to_be_bytes w32 h.count)))) (λ h. h.count ≤ most_calls)
    (λ h k. k.1.0)
    (λ h le. (tt, (le, refl)))
