-- The latest value of a key, computed call by call.
use Rattle.std.proofs.Common.{◌≡◌, ℕ, true, IsTrue, Option, Some, None, List, [], ◌∷◌, ◌++◌, refl, ap, ◌∙◌, inl, inr, ◌⊎◌, fold, nat_eq, map}
use Rattle.std.specs.List.{AllByRecursion}
use Rattle.std.specs.Cmp.Lexicographic.{pointwise, bytes_decides}
use Rattle.std.proofs.lemmas.Bool.{cases_Bool}
use Rattle.std.proofs.lemmas.Grind.{fold-append}
use Rattle.std.proofs.lemmas.List.{map-append}
use Rattle.std.proofs.lemmas.List.Elements.{recursion_from_All, All-from_recursion}
use Rattle.record_pages.specs.declared.timed_value.TimedValue.{TimedValue}
use Rattle.record_pages.specs.Expiry.{is_live, timed}
use Rattle.trace_file.specs.declared.act.Act.{Act}
use Rattle.trace_file.specs.declared.act.Act.TheVariants.{Put, Remove, Hit, Miss}
use Rattle.trace_file.specs.declared.call.Call.{Call}
use Rattle.certificate_checker.specs.Deeds.{Deed, deed_of}
use Rattle.certificate_checker.specs.Latest.{IsWrite, Writes, IsLatest, IsLive}
use Rattle.certificate_checker.specs.Current.{after_act, after_deed, current, given_at}

-- one more deed
pub current-push : (key : List ℕ) (deeds : List Deed) (deed : Deed) → current (deeds ++ deed ∷ []) key ≡ after_deed key (current deeds key) deed
current-push key deeds deed = fold-append (after_deed key) None deeds (deed ∷ [])

-- the value of a key after calls
abbrev pub latest_of : List ℕ → List Call → Option TimedValue
latest_of key calls = current (map deed_of calls) key

pub latest_of-push : (key : List ℕ) (calls : List Call) (call : Call) → latest_of key (calls ++ call ∷ []) ≡ after_deed key (latest_of key calls) (deed_of call)
latest_of-push key calls call =
    ap (λ deeds. current deeds key) (map-append deed_of calls (call ∷ [])) ∙ current-push key (map deed_of calls) (deed_of call)

-- an act that doesn't write keeps the value
pub act_kept : (value : Option TimedValue) (act : Act) → ¬ IsWrite act → after_act value act ≡ value
act_kept value (Put new expires) h = absurd (h tt)
act_kept value Remove h = absurd (h tt)
act_kept value (Hit hit moment) h = refl
act_kept value Miss h = refl

pub deed_kept : (key : List ℕ) (value : Option TimedValue) (deed : Deed) → ¬ Writes deed key → after_deed key value deed ≡ value
deed_kept key value deed h =
    elim (cases_Bool (pointwise nat_eq deed.key key)) [ inl same ↦ rw same (act_kept value deed.act (λ w. h ((bytes_decides deed.key key).0 same, w))) | inr other ↦ rw other refl ]

deeds_kept : (key : List ℕ) (value : Option TimedValue) (deeds : List Deed) → AllByRecursion (λ deed. ¬ Writes deed key) deeds → fold (after_deed key) value deeds ≡ value
deeds_kept key value [] h = refl
deeds_kept key value (deed ∷ deeds) h =
    ap (λ v. fold (after_deed key) v deeds) (deed_kept key value deed h.0) ∙ deeds_kept key value deeds h.1

-- what is latest is computed
pub latest_found : (key : List ℕ) (latest : TimedValue) (deeds : List Deed) → IsLatest deeds key latest → current deeds key ≡ Some latest
latest_found key latest deeds l =
    let same = (bytes_decides l.put.key key).1 l.at_key in
    let put : after_deed key (current l.before key) l.put ≡ Some latest = rw (same, l.value_put) refl in
    ap (λ deeds. current deeds key) l.split ∙ fold-append (after_deed key) None l.before (l.put ∷ l.after)
    ∙ ap (λ v. fold (after_deed key) v l.after) put
    ∙ deeds_kept key (Some latest) l.after (recursion_from_All _ l.after l.not_written)

-- how a value comes about at one act
act_gives : (old : Option TimedValue) (act : Act) (latest : TimedValue) → after_act old act ≡ Some latest → (act ≡ Put latest.value latest.expires) ⊎ ((old ≡ Some latest) × ¬ IsWrite act)
act_gives old (Put new expires) latest e = let same : timed new expires ≡ latest = cc in inl (ap (λ (v : TimedValue). Put v.value v.expires) same)
act_gives old Remove latest e = cc
act_gives old (Hit hit moment) latest e = inr (e, λ w. w)
act_gives old Miss latest e = inr (e, λ w. w)

deed_gives : (key : List ℕ) (old : Option TimedValue) (deed : Deed) (latest : TimedValue) → after_deed key old deed ≡ Some latest → ((deed.key ≡ key) × (deed.act ≡ Put latest.value latest.expires)) ⊎ ((old ≡ Some latest) × ¬ Writes deed key)
deed_gives key old deed latest e = elim (cases_Bool (pointwise nat_eq deed.key key)) [
  | inl same ↦
      elim (act_gives old deed.act latest (rw same at e)) [
        | inl put ↦ inl ((bytes_decides deed.key key).0 same, put)
        | inr kept ↦ inr (kept.0, λ w. kept.1 w.1)
      ]
  | inr other ↦
      inr (rw other at e, λ w. let same : pointwise nat_eq deed.key key ≡ true = (bytes_decides deed.key key).1 w.0 in cc)
]

latest_from : (key : List ℕ) (latest : TimedValue) (old : Option TimedValue) (deeds : List Deed) → fold (after_deed key) old deeds ≡ Some latest → IsLatest deeds key latest ⊎ ((old ≡ Some latest) × AllByRecursion (λ deed. ¬ Writes deed key) deeds)
latest_from key latest old [] e = inr (e, tt)
latest_from key latest old (deed ∷ deeds) e = elim (latest_from key latest (after_deed key old deed) deeds e) [
  | inl l ↦ inl (record {
    before = deed ∷ l.before;
    put = l.put;
    after = l.after;
    split = ap (λ cs. deed ∷ cs) l.split;
    at_key = l.at_key;
    value_put = l.value_put;
    not_written = l.not_written;
  })
  | inr kept ↦
      elim (deed_gives key old deed latest kept.0) [
        | inl put ↦ inl (record {
          before = [];
          put = deed;
          after = deeds;
          split = refl;
          at_key = put.0;
          value_put = put.1;
          not_written = All-from_recursion _ deeds kept.1;
        })
        | inr same ↦ inr (same.0, (same.1, kept.1))
      ]
]

-- what is computed is latest
pub latest_is : (key : List ℕ) (latest : TimedValue) (deeds : List Deed) → current deeds key ≡ Some latest → IsLatest deeds key latest
latest_is key latest deeds e =
    elim (latest_from key latest None deeds e) [ inl l ↦ l | inr kept ↦ absurd (let no = kept.0 in cc) ]

-- ---- what is live at a moment

-- a value that is given is there, and live
given_is : (moment : ℕ) (there : Option TimedValue) (value : List ℕ) → given_at moment there ≡ Some value → (expires : ℕ) × (there ≡ Some (timed value expires)) × IsTrue (is_live expires moment)
given_is moment None value e = cc
given_is moment (Some v) value e = elim (cases_Bool (is_live v.expires moment)) [
  | inl live ↦
      let given : Some v.value ≡ Some value = rw live at e in
      let same : v.value ≡ value = cc in
      (v.expires, ap (λ bytes. Some (timed bytes v.expires)) same, live)
  | inr expired ↦ absurd (let none : None ≡ Some value = rw expired at e in cc)
]

-- a live value is given
given_live : (moment expires : ℕ) (value : List ℕ) → IsTrue (is_live expires moment) → given_at moment (Some (timed value expires)) ≡ Some value
given_live moment expires value live = rw live refl

-- what is computed for a moment is live then
pub live_is : (key value : List ℕ) (moment : ℕ) (deeds : List Deed) → given_at moment (current deeds key) ≡ Some value → IsLive deeds key value moment
live_is key value moment deeds e =
    let given = given_is moment (current deeds key) value e in
    record { expires = given.0; latest = latest_is key (timed value given.0) deeds given.1; live = given.2 }

-- what is live at a moment is computed for it
pub live_found : (key value : List ℕ) (moment : ℕ) (deeds : List Deed) → IsLive deeds key value moment → given_at moment (current deeds key) ≡ Some value
live_found key value moment deeds l =
    ap (given_at moment) (latest_found key (timed value l.expires) deeds l.latest) ∙ given_live moment l.expires value l.live
