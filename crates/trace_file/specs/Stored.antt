-- How the calls of a history lie in one store of bytes.
use Rattle.std.specs.Prelude.{ℕ, ◌+◌, ◌<◌, ◌≤◌, ◌^◌, List, [], ◌∷◌, take, drop, map, All, AllPairs}
use Rattle.trace_file.specs.declared.act.Act.{Act}
use Rattle.trace_file.specs.declared.act.Act.TheVariants as acts
use Rattle.trace_file.specs.declared.call.Call.{Call}
use Rattle.trace_file.specs.declared.stored_call.StoredCall.{StoredCall}
use Rattle.trace_file.specs.declared.call_kind.CallKind.{CallKind}
use Rattle.trace_file.specs.declared.call_kind.CallKind.TheVariants.{Put, Remove, Hit, Miss}

-- this many bytes of a store, from an offset on
abbrev pub part : ℕ → ℕ → List ℕ → List ℕ
part offset len store = take len (drop offset store)

-- the act of a kind, with its value and its time if it has them
abbrev pub act_of : CallKind → List ℕ → ℕ → Act
act_of Put value time = acts.Put value time
act_of Remove value time = acts.Remove
act_of Hit value time = acts.Hit value time
act_of Miss value time = acts.Miss

-- the call that an entry stands for
unfoldable pub call_in : List ℕ → StoredCall → Call
call_in store e = record {
  caller = e.caller;
  start = e.start;
  end = e.end;
  key = part e.offset e.key_len store;
  act = act_of e.kind (part (e.offset + e.key_len) e.value_len store) e.time;
}

-- the calls that entries stand for, in their order
abbrev pub calls_in : List ℕ → List StoredCall → List Call
calls_in store entries = map (call_in store) entries

-- entries, the first of them each with an end of its own
abbrev pub each_ended : List StoredCall → List ℕ → List StoredCall
each_ended (e ∷ es) (end ∷ ends) = record e { end = end } ∷ each_ended es ends
each_ended es ends = es

-- an entry that lies this many bytes farther, with another end
abbrev pub moved_by : ℕ → StoredCall → ℕ → StoredCall
moved_by bytes e end = record {
  start = e.start;
  end = end;
  time = e.time;
  offset = e.offset + bytes;
  caller = e.caller;
  value_len = e.value_len;
  key_len = e.key_len;
  kind = e.kind;
}

-- entries that lie this many bytes farther, each with an end of its own
abbrev pub each_moved : ℕ → List StoredCall → List ℕ → List StoredCall
each_moved bytes (e ∷ es) (end ∷ ends) = moved_by bytes e end ∷ each_moved bytes es ends
each_moved bytes es ends = []

-- an entry of a store of this many bytes: its parts lie in it, with lawful lengths
pub record LiesIn (size : ℕ) (e : StoredCall) : Type 0 where
  pub caller : e.caller < 2 ^ 16
  pub start : e.start < 2 ^ 64
  pub end : e.end < 2 ^ 64
  pub time : e.time < 2 ^ 64
  pub some_key : 0 < e.key_len
  pub key : e.key_len ≤ 255
  pub value : e.value_len ≤ 2048
  pub room : e.offset + e.key_len + e.value_len ≤ size

-- the entries of a store of this many bytes: each lies in it, and after those before it
pub record AreStored (size : ℕ) (entries : List StoredCall) : Type 0 where
  pub lie : All (LiesIn size) entries
  pub behind : AllPairs (λ a b. a.offset + a.key_len + a.value_len ≤ b.offset) entries
