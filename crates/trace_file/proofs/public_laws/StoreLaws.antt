-- A store that grows keeps the calls that lie in it.
use Rattle.std.proofs.Common.{◌≡◌, ℕ, ◌+◌, ◌-◌, ◌^◌, ◌<◌, ◌≤◌, List, [], ◌∷◌, ◌++◌, length, take, drop, get_or, All, Result, Ok, Err, refl, sym, ap, subst, ◌∙◌, arith}
use Rattle.std.specs.Prelude.{OnErr, slice_get, Some}
use Rattle.std.specs.Option.{option_map}
use Rattle.std.specs.List.{AllByRecursion}
use Rattle.std.proofs.lemmas.List.{length-append, length-drop, length-take-le, take-append-le, drop-append-le, drop_at, take_at, take_all, append_assoc, map_push, length-map}
use Rattle.std.proofs.lemmas.List.Elements.{recursion_from_All, All-map, All-weaker}
use Rattle.std.proofs.lemmas.Option.{slice_get-map, slice_get_read}
use Rattle.record_pages.specs.Bounded.{IsValue}
use Rattle.trace_file.specs.declared.act.Act.{Act}
use Rattle.trace_file.specs.declared.act.Act.TheVariants as acts
use Rattle.trace_file.specs.declared.call.Call.{Call}
use Rattle.trace_file.specs.declared.stored_call.StoredCall.{StoredCall}
use Rattle.trace_file.specs.declared.call_kind.CallKind.{CallKind}
use Rattle.trace_file.specs.declared.call_kind.CallKind.TheVariants.{Put, Remove, Hit, Miss}
use Rattle.trace_file.specs.Calls.{IsCall, value_of, time_of}
use Rattle.trace_file.specs.Kinds.{kind_of}
use Rattle.trace_file.specs.Stored.{part, act_of, call_in, calls_in, LiesIn}

-- a fact that holds anyhow holds at an error
pub on_err : {T E P : Type 0} (r : Result T E) → P → OnErr r P
on_err (Ok x) p = tt
on_err (Err e) p = p

part-more : (offset len : ℕ) (store more : List ℕ) → offset + len ≤ length store → part offset len (store ++ more) ≡ part offset len store
part-more offset len store more le =
    ap (take len) (drop-append-le offset store more (omega arith)) ∙ take-append-le len (drop offset store) more (omega (arith, length-drop offset store))

part-len : (offset len : ℕ) (store : List ℕ) → offset + len ≤ length store → length (part offset len store) ≡ len
part-len offset len store le = length-take-le len (drop offset store) (omega (arith, length-drop offset store))

call_in-more : (store more : List ℕ) (e : StoredCall) → LiesIn (length store) e → call_in (store ++ more) e ≡ call_in store e
unfolding call_in
call_in-more store more e lies =
    let key : part e.offset e.key_len (store ++ more) ≡ part e.offset e.key_len store = part-more e.offset e.key_len store more (omega (arith, lies.room)) in
    let value : part (e.offset + e.key_len) e.value_len (store ++ more) ≡ part (e.offset + e.key_len) e.value_len store = part-more (e.offset + e.key_len) e.value_len store more (omega (arith, lies.room)) in
    cc

by_more : (store more : List ℕ) (es : List StoredCall) → AllByRecursion (LiesIn (length store)) es → calls_in (store ++ more) es ≡ calls_in store es
by_more store more [] lie = refl
by_more store more (e ∷ es) lie = let one = call_in-more store more e lie.0 in let others = by_more store more es lie.1 in cc

-- bytes after the others change no call
pub calls_in-more : (store more : List ℕ) (es : List StoredCall) → All (LiesIn (length store)) es → calls_in (store ++ more) es ≡ calls_in store es
calls_in-more store more es lie = by_more store more es (recursion_from_All (LiesIn (length store)) es lie)

-- an act is that of its kind, with its value and its time
pub act_again : (act : Act) → act_of (kind_of act) (value_of act) (time_of act) ≡ act
act_again (acts.Put value expires) = refl
act_again acts.Remove = refl
act_again (acts.Hit value moment) = refl
act_again acts.Miss = refl

act_value : (kind : CallKind) (value : List ℕ) (time : ℕ) → IsValue value → IsValue (value_of (act_of kind value time))
act_value Put value time h = h
act_value Remove value time h = omega arith
act_value Hit value time h = h
act_value Miss value time h = omega arith

act_time : (kind : CallKind) (value : List ℕ) (time : ℕ) → time < 2 ^ 64 → time_of (act_of kind value time) < 2 ^ 64
act_time Put value time h = h
act_time Remove value time h = omega arith
act_time Hit value time h = h
act_time Miss value time h = omega arith

-- an entry that lies in a store stands for a call
pub call_in-lawful : (store : List ℕ) (e : StoredCall) → LiesIn (length store) e → IsCall (call_in store e)
unfolding call_in
call_in-lawful store e lies =
    let key = part-len e.offset e.key_len store (omega (arith, lies.room)) in
    let value = part-len (e.offset + e.key_len) e.value_len store (omega (arith, lies.room)) in
    record {
      caller = lies.caller;
      start = lies.start;
      end = lies.end;
      key = (omega (arith, key, lies.some_key), omega (arith, key, lies.key));
      value = act_value e.kind _ e.time (omega (arith, value, lies.value));
      time = act_time e.kind _ e.time lies.time;
    }

pub calls_in-lawful : (store : List ℕ) (es : List StoredCall) → All (LiesIn (length store)) es → All IsCall (calls_in store es)
calls_in-lawful store es lie =
    All-map IsCall (call_in store) es (All-weaker (LiesIn (length store)) (λ e. IsCall (call_in store e)) (call_in-lawful store) es lie)

-- calls whose parts are equal
same_call : (a b : Call) → a.caller ≡ b.caller → a.start ≡ b.start → a.end ≡ b.end → a.key ≡ b.key → a.act ≡ b.act → a ≡ b
same_call a b caller start end key act = λ i. record { caller = caller i; start = start i; end = end i; key = key i; act = act i }

-- an entry for a key and a value that were put after the store stands for their call
pub call_in-new : (store key value : List ℕ) (e : StoredCall) (call : Call) → e.offset ≡ length store → e.key_len ≡ length key → e.value_len ≡ length value
    → e.caller ≡ call.caller → e.start ≡ call.start → e.end ≡ call.end → key ≡ call.key → act_of e.kind value e.time ≡ call.act → call_in ((store ++ key) ++ value) e ≡ call
unfolding call_in
call_in-new store key value e call at key_len value_len caller start end key-is act =
    let front : drop e.offset ((store ++ key) ++ value) ≡ key ++ value = ap (drop e.offset) (append_assoc store key value) ∙ drop_at store (key ++ value) e.offset (sym at) in
    let k : part e.offset e.key_len ((store ++ key) ++ value) ≡ key = ap (take e.key_len) front ∙ take_at key value e.key_len (sym key_len) in
    let back : drop (e.offset + e.key_len) ((store ++ key) ++ value) ≡ value = drop_at (store ++ key) value (e.offset + e.key_len) (omega (arith, length-append store key)) in
    let v : part (e.offset + e.key_len) e.value_len ((store ++ key) ++ value) ≡ value = ap (take e.value_len) back ∙ take_all e.value_len value (omega (arith, value_len)) in
    let a : act_of e.kind (part (e.offset + e.key_len) e.value_len ((store ++ key) ++ value)) e.time ≡ call.act = ap (λ (b : List ℕ). act_of e.kind b e.time) v ∙ act in
    let k' : part e.offset e.key_len ((store ++ key) ++ value) ≡ call.key = k ∙ key-is in
    same_call _ call caller start end k' a

-- what stood in the store is as it was, whatever was put after it
pub still : (store new more : List ℕ) (es : List StoredCall) (calls : List Call) → All (LiesIn (length store)) es → calls_in store es ≡ calls → new ≡ store ++ more → calls_in new es ≡ calls
still store new more es calls lie is grown = ap (λ (s : List ℕ). calls_in s es) grown ∙ calls_in-more store more es lie ∙ is

-- a call was put after the others
pub pushed_call : (store new key value : List ℕ) (es now : List StoredCall) (calls : List Call) (e : StoredCall) (call : Call) → All (LiesIn (length store)) es → calls_in store es ≡ calls
    → new ≡ store ++ key ++ value → now ≡ es ++ e ∷ [] → call_in (store ++ key ++ value) e ≡ call → calls_in new now ≡ calls ++ call ∷ []
pushed_call store new key value es now calls e call lie is grown pushed one =
    ap (calls_in new) pushed
    ∙ map_push (call_in new) es e
    ∙ ap (λ (cs : List Call). cs ++ call_in new e ∷ []) (still store new (key ++ value) es calls lie is (grown ∙ append_assoc store key value))
    ∙ ap (λ (x : Call). calls ++ x ∷ []) (ap (λ (s : List ℕ). call_in s e) grown ∙ one)

-- the call that an entry stands for, by its parts
pub lent_call : (store : List ℕ) (e : StoredCall) (call : Call) → e.caller ≡ call.caller → e.start ≡ call.start → e.end ≡ call.end → part e.offset e.key_len store ≡ call.key
    → act_of e.kind (part (e.offset + e.key_len) e.value_len store) e.time ≡ call.act → call_in store e ≡ call
unfolding call_in
lent_call store e call caller start end key act = same_call (call_in store e) call caller start end key act

-- the call at a position is that of the entry there
pub read_call : (store : List ℕ) (es : List StoredCall) (calls : List Call) (i : ℕ) (e : StoredCall) (call : Call) → calls_in store es ≡ calls → e ≡ get_or es i e → i < length calls
    → call ≡ call_in store e → slice_get calls i ≡ Some call
read_call store es calls i e call is at lt shown =
    let found : slice_get es i ≡ Some e = slice_get_read es (length es) i e refl (omega (arith, length-map es (call_in store), ap length is)) at in
    ap (λ (cs : List Call). slice_get cs i) (sym is) ∙ slice_get-map (call_in store) es i ∙ ap (option_map (call_in store)) found ∙ ap (λ (x : Call). Some x) (sym shown)

-- that entry lies in the store
pub lies_at : (store s : List ℕ) (es : List StoredCall) (calls : List Call) (i : ℕ) (e : StoredCall) → calls_in store es ≡ calls → All (LiesIn (length store)) es → e ≡ get_or es i e → i < length calls → s ≡ store → LiesIn (length s) e
lies_at store s es calls i e is lie at lt same =
    let within : i < length es = omega (arith, length-map es (call_in store), ap length is) in
    subst (λ (x : StoredCall). LiesIn (length s) x) (sym at) (subst (λ (b : List ℕ). LiesIn (length b) (get_or es i e)) (sym same) (lie i e within))

-- a slice of the store is a part of it
pub slice_is : (store s : List ℕ) (offset len : ℕ) → s ≡ store → part offset len store ≡ take (offset + len - offset) (drop offset s)
slice_is store s offset len same = let n : offset + len - offset ≡ len = omega arith in rw (n, same) refl
