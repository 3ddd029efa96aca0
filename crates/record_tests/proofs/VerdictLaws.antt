-- What an accepted pair has.
use Rattle.std.proofs.Common.{◌≡◌, ℕ, ◌<◌, ◌≤◌, arith, List, [], ◌∷◌, ◌++◌, Some, refl, sym, ap, subst, ◌∙◌}
use Rattle.std.specs.Prelude.{All, IsTrue, map}
use Rattle.std.proofs.lemmas.List.{append_assoc, map-append}
use Rattle.std.proofs.lemmas.List.Elements.{All-map, All-nil}
use Rattle.record_pages.specs.Expiry.{is_live, timed}
use Rattle.record_pages.specs.declared.timed_value.TimedValue.{TimedValue}
use Rattle.trace_file.specs.declared.act.Act.TheVariants.{Put, Hit}
use Rattle.trace_file.specs.declared.call.Call.{Call}
use Rattle.certificate_checker.specs.Acceptance.{IsAccepted}
use Rattle.certificate_checker.specs.Deeds.{Deed, deed_of}
use Rattle.certificate_checker.specs.Laws.{LatestIsCurrent}
use Rattle.certificate_checker.specs.Latest.{IsLatest, IsLawful, IsLive, Writes}
use Rattle.record_tests.specs.HitsLatest.{HitsLatest, IsHitAfter}

-- a some is one
some_is : {a b : TimedValue} → Some a ≡ Some b → a ≡ b
some_is is = cc

-- in lawful deeds each hit after a put has what it put
pub hits_latest : LatestIsCurrent → (order : List Call) → IsLawful (map deed_of order) → HitsLatest order
hits_latest one order lawful put hit value read expires moment at puts hits =
    let front = map deed_of at.before in
    let middle = map deed_of at.between in
    let deeds : List Deed = front ++ deed_of put ∷ middle in
    let split : map deed_of order ≡ deeds ++ deed_of hit ∷ map deed_of at.after =
    ap (map deed_of) at.split ∙ map-append deed_of at.before (put ∷ (at.between ++ hit ∷ at.after)) ∙ ap (λ l. front ++ deed_of put ∷ l) (map-append deed_of at.between (hit ∷ at.after)) ∙ sym (append_assoc front (deed_of put ∷ middle) (deed_of hit ∷ map deed_of at.after)) in
    let live : IsLive deeds hit.key read moment = lawful deeds (map deed_of at.after) (deed_of hit) read moment split hits in
    let mine : IsLatest deeds hit.key (timed value expires) = record { before = front; put = deed_of put; after = middle; split = refl; at_key = at.at_key; value_put = puts; not_written = All-map (λ deed. ¬ Writes deed hit.key) deed_of at.between at.not_written } in
    let same : timed read live.expires ≡ timed value expires = some_is (sym ((one deeds hit.key (timed read live.expires)).0 live.latest) ∙ (one deeds hit.key (timed value expires)).0 mine) in
    (ap (λ (v : TimedValue). v.value) same, subst (λ e. IsTrue (is_live e moment)) (ap (λ (v : TimedValue). v.expires) same) live.live)

-- nothing stands in no list
no_split : {X : Type 0} (before after : List X) (x : X) → [] ≡ before ++ x ∷ after → ⊥
no_split [] after x is = cc
no_split (y ∷ before) after x is = cc

-- a history of no calls is accepted
pub empty_accepted : (history : List Call) (certificate : List ℕ) → history ≡ [] → certificate ≡ [] → IsAccepted history certificate
empty_accepted history certificate none no_place =
    subst (λ h. IsAccepted h certificate) (sym none) (subst (λ c. IsAccepted [] c) (sym no_place) (record {
      intervals = All-nil (λ (call : Call). call.start ≤ call.end);
      spelled = record { positions = All-nil (λ (p : ℕ). p < 0); each = λ p few. absurd (omega (arith, few)); once = λ i j d lt lj. absurd (omega (arith, lj)) };
      agrees = λ i j d lt lj. absurd (omega (arith, lj));
      lawful = λ before after deed value moment split hits. absurd (no_split before after deed split);
    }))
