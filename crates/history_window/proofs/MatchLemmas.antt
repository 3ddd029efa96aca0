-- Calls and their numbers.
use Rattle.std.proofs.Common.{◌≡◌, ℕ, ◌<◌, ◌≤◌, true, false, ◌||◌, Some, List, refl, sym, ap, ◌∙◌, arith}
use Rattle.std.specs.Prelude.{All, Contains, slice_get}
use Rattle.std.proofs.lemmas.Option.{same_Some, slice_get_within}
use Rattle.trace_file.specs.Calls.{value_of}
use Rattle.trace_file.specs.declared.act.Act.{Act}
use Rattle.trace_file.specs.declared.act.Act.TheVariants.{Put, Remove, Hit, Miss}
use Rattle.trace_file.specs.declared.call.Call.{Call}
use Rattle.certificate_finder.specs.Spots.{is_miss}
use Rattle.certificate_finder.specs.Turns.{IsHit, WritesAt, end_at, start_at}
use Rattle.history_window.specs.declared.coded_call.CodedCall.{CodedCall}
use Rattle.history_window.specs.Acts.{is_putting, is_reading, is_writing}
use Rattle.history_window.specs.Codes.{AreCodes, AreSound, IsCode}
use Rattle.history_window.specs.Windows.{IsBefore, IsPut}
use Rattle.history_window.proofs.ActLemmas.{is_writing_of, reading_is, writing_is}
use Rattle.history_window.proofs.CallLemmas.{end_is, put_writes, start_is}
use Rattle.history_window.proofs.ListLemmas.{all_at, all_from_at, contains_at, found_at, index_of}

-- ---- what acts do

putting_is : (act : Act) (value : List ℕ) → is_putting act ≡ true → value_of act ≡ value → (expires : ℕ) × (act ≡ Put value expires)
putting_is (Put v e) value h same = (e, ap (λ w. Put w e) same)
putting_is Remove value h same = cc
putting_is (Hit v m) value h same = cc
putting_is Miss value h same = cc

pub no_miss_of : (act : Act) → (is_writing act || is_reading act) ≡ true → is_miss act ≡ false
no_miss_of (Put v e) h = refl
no_miss_of Remove h = refl
no_miss_of (Hit v m) h = refl
no_miss_of Miss h = cc

pub of_no_miss : (act : Act) → is_miss act ≡ false → (is_writing act || is_reading act) ≡ true
of_no_miss (Put v e) h = refl
of_no_miss Remove h = refl
of_no_miss (Hit v m) h = refl
of_no_miss Miss h = cc

-- ---- a call and its numbers at a position

pub record IsAt (history : List Call) (codes : List CodedCall) (p : ℕ) (call : Call) (code : CodedCall) : Type 0 where
  pub at : slice_get history p ≡ Some call
  pub there : slice_get codes p ≡ Some code

module _ (history : List Call) (codes : List CodedCall) (are : AreCodes history codes) where
  pub code_of : (p : ℕ) (call : Call) → slice_get history p ≡ Some call → (code : CodedCall) × IsAt history codes p call code
  code_of p call at =
      let within = slice_get_within history p call at in
      let count = are.count in
      let found = found_at codes p (omega (arith, within, count)) in
      (found.0, record { at = at; there = found.1 })

  pub at_index : (p : ℕ) (code : CodedCall) → slice_get codes p ≡ Some code → (call : Call) × IsAt history codes p call code
  at_index p code there =
      let within = slice_get_within codes p code there in
      let count = are.count in
      let found = found_at history p (omega (arith, within, count)) in
      (found.0, record { at = found.1; there = there })

  pub at_of : (code : CodedCall) → Contains codes code → (p : ℕ) × (call : Call) × IsAt history codes p call code
  at_of code has = let k = index_of codes code has in let found = at_index k.0 code k.1 in (k.0, found.0, found.1)

  pub are_sound : All (λ call. call.start ≤ call.end) history → AreSound codes
  are_sound spans = record {
    fit = are.fit;
    spans = all_from_at (λ (c : CodedCall). c.start ≤ c.end) codes (λ k code there.
        let found = at_index k code there in
        let is = are.each k found.0 code found.1.at there in
        let span : found.0.start ≤ found.0.end = all_at (λ (c : Call). c.start ≤ c.end) history k found.0 spans found.1.at in
        let start = is.start in
        let end = is.end in
        omega (arith, span, start, end));
    placed = λ k code there. let found = at_index k code there in (are.each k found.0 code found.1.at there).place;
  }

  module _ (p : ℕ) (call : Call) (code : CodedCall) (here : IsAt history codes p call code) where
    pub code_is : IsCode p call code
    code_is = are.each p call code here.at here.there

    pub listed : Contains codes code
    listed = contains_at codes p code here.there

    pub start_same : start_at history p ≡ code.start
    start_same = start_is history p call here.at ∙ sym code_is.start

    pub end_same : end_at history p ≡ code.end
    end_same = end_is history p call here.at ∙ sym code_is.end

    -- what is at the position in the history
    pub same_call : (other : Call) → slice_get history p ≡ Some other → other ≡ call
    same_call other at = same_Some other call (sym at ∙ here.at)

    pub writes_to : (key : List ℕ) → code.writes ≡ true → call.key ≡ key → WritesAt history p key
    writes_to key writes one_key = record { call = call; at = here.at; writes = (one_key, writing_is call.act (sym code_is.writes ∙ writes)) }

    pub writes_from : (key : List ℕ) (writes : WritesAt history p key) → (code.writes ≡ true) × (call.key ≡ key)
    writes_from key writes =
        let mine = same_call writes.call writes.at in (
          code_is.writes ∙ ap (λ (c : Call). is_writing c.act) (sym mine) ∙ is_writing_of writes.call.act writes.writes.1,
          ap (λ (c : Call). c.key) (sym mine) ∙ writes.writes.0,
        )

    pub put_to : (key value : List ℕ) → code.puts ≡ true → call.key ≡ key → value_of call.act ≡ value → IsPut history key value p
    put_to key value puts one_key same =
        let put = putting_is call.act value (sym code_is.puts ∙ puts) same in
        record { call = call; at = here.at; puts = record { one_key = one_key; expires = put.0; is = put.1 } }

    pub put_from : (key value : List ℕ) → IsPut history key value p → (code.puts ≡ true) × (call.key ≡ key) × (value_of call.act ≡ value)
    put_from key value put =
        let mine = same_call put.call put.at in
        let is : call.act ≡ Put value put.puts.expires = ap (λ (c : Call). c.act) (sym mine) ∙ put.puts.is in (
          code_is.puts ∙ ap is_putting is,
          ap (λ (c : Call). c.key) (sym mine) ∙ put.puts.one_key,
          ap value_of is,
        )

    -- a put writes
    pub put_wrote : (key : List ℕ) → code.puts ≡ true → call.key ≡ key → WritesAt history p key
    put_wrote key puts one_key =
        let put = putting_is call.act (value_of call.act) (sym code_is.puts ∙ puts) refl in
        record { call = call; at = here.at; writes = (one_key, put_writes call.act (value_of call.act) put.0 put.1) }

    pub hit_to : (key : List ℕ) → code.reads ≡ true → call.key ≡ key → (moment : ℕ) × IsHit history p key (value_of call.act) moment
    hit_to key reads one_key =
        let read = reading_is call.act (sym code_is.reads ∙ reads) in
        let value : value_of call.act ≡ read.0 = ap value_of read.2 in
        (read.1, record { call = call; at = here.at; one_key = one_key; is = read.2 ∙ ap (λ v. Hit v read.1) (sym value) })

    pub hit_from : (key value : List ℕ) (moment : ℕ) → IsHit history p key value moment → (code.reads ≡ true) × (call.key ≡ key) × (value_of call.act ≡ value)
    hit_from key value moment hit =
        let mine = same_call hit.call hit.at in
        let is : call.act ≡ Hit value moment = ap (λ (c : Call). c.act) (sym mine) ∙ hit.is in (
          code_is.reads ∙ ap is_reading is,
          ap (λ (c : Call). c.key) (sym mine) ∙ hit.one_key,
          ap value_of is,
        )

  -- ---- two of them

  module _ (p q : ℕ) (a b : Call) (s t : CodedCall) (one : IsAt history codes p a s) (other : IsAt history codes q b t) where
    pub before_to : s.end < t.start → IsBefore history p q
    before_to less = let till = end_same p a s one in let from = start_same q b t other in omega (arith, less, till, from)

    pub before_from : IsBefore history p q → s.end < t.start
    before_from before = let till = end_same p a s one in let from = start_same q b t other in omega (arith, before, till, from)

    pub key_to : s.key ≡ t.key → a.key ≡ b.key
    key_to same = (are.alike p q a b s t one.at other.at one.there other.there).keys.0 same

    pub key_from : a.key ≡ b.key → s.key ≡ t.key
    key_from same = (are.alike p q a b s t one.at other.at one.there other.there).keys.1 same

    pub value_to : s.value ≡ t.value → (a.key ≡ b.key) × (value_of a.act ≡ value_of b.act)
    value_to same = (are.alike p q a b s t one.at other.at one.there other.there).values.0 same

    pub value_from : a.key ≡ b.key → value_of a.act ≡ value_of b.act → s.value ≡ t.value
    value_from keys same = (are.alike p q a b s t one.at other.at one.there other.there).values.1 (keys, same)

    pub place_same : s.position ≡ t.position → p ≡ q
    place_same same = sym (code_is p a s one).place ∙ same ∙ (code_is q b t other).place

    pub place_apart : (p ≡ q → ⊥) → s.position ≡ t.position → ⊥
    place_apart apart same = apart (place_same same)

    pub apart_place : (s.position ≡ t.position → ⊥) → p ≡ q → ⊥
    apart_place apart same = apart ((code_is p a s one).place ∙ same ∙ sym (code_is q b t other).place)
