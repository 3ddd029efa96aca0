-- Each call keeps what ties a lane to its register.
use Rattle.std.proofs.Common.{◌≡◌, ◌≢◌, ◌⊎◌, ℕ, true, List, [], ◌∷◌, ◌++◌, None, refl, ap, sym, ◌∙◌, subst, inl, inr}
use Rattle.std.specs.Str.{bytes_eq}
use Rattle.std.specs.Cmp.Lexicographic.{bytes_decides}
use Rattle.std.proofs.lemmas.Bool.{cases_Bool}
use Rattle.record_pages.specs.declared.answer.Answer.{Answer}
use Rattle.trace_file.specs.declared.act.Act.TheVariants.{Remove}
use Rattle.certificate_checker.specs.Deeds.{Deed}
use Rattle.certificate_checker.specs.Current.{current}
use Rattle.deeds.specs.Sound.{act_of}
use Rattle.deeds.proofs.public_laws.Sounding.{put_gives}
use Rattle.mover.specs.declared.answer_kind.AnswerKind.{AnswerKind}
use Rattle.service_lane.specs.Asked.{IsLiveHit, TellsExpiry}
use Rattle.deed_book.specs.Registers.{Registered, Catches, EntersIn}
use Rattle.service_cache.specs.Seated.{IsSeated, put_of}
use Rattle.service_cache.proofs.Latest.{live_hit_by, expiry_by, same_part, read_keeps, others_keep, removed_has}

-- a key is another or the same
keys_tell : (a b : List ℕ) → (a ≡ b) ⊎ (a ≢ b)
keys_tell a b = elim (cases_Bool (bytes_eq a b)) [
  | inl same ↦ inl ((bytes_decides a b).0 same)
  | inr other ↦ inr (λ is. let same : bytes_eq a b ≡ true = (bytes_decides a b).1 is in cc)
]

module _ (lane_of : List ℕ → ℕ) where
  -- no key has anything after no deed
  pub seated_new : (register : Registered) (deeds : List Deed) → deeds ≡ [] → IsSeated lane_of register deeds
  seated_new register deeds none key ours = inl (ap (λ ds. current ds key) none)

  module _ (old : Registered) (deeds : List Deed) (seated : IsSeated lane_of old deeds) where
    -- the register looks
    pub seated_look : (seat_old seat_new : List Deed) (new : Registered) → Catches lane_of old seat_old new seat_new → IsSeated lane_of new deeds
    seated_look seat_old seat_new new looks key ours =
        let here : lane_of key ≡ old.number = ours ∙ looks.number in
        let same : current old.deeds key ≡ current new.deeds key = sym (same_part lane_of old.number key old.deeds new.deeds here looks.part) in
        elim (seated key here) [ inl none ↦ inl none | inr has ↦ inr (has ∙ same) ]

    -- the lane answers
    pub seated_read : (at : List ℕ) (moment : ℕ) (answer : Answer) (after : List Deed) → after ≡ deeds ++ record { key = at; act = act_of moment answer } ∷ [] → IsSeated lane_of old after
    seated_read at moment answer after more key ours =
        let stays : current after key ≡ current deeds key = ap (λ ds. current ds key) more ∙ read_keeps deeds at moment answer key in
        elim (seated key ours) [ inl none ↦ inl (stays ∙ none) | inr has ↦ inr (stays ∙ has) ]

    -- the lane does a deed of a key that has nothing then, and nothing is entered
    pub seated_gone : (d : Deed) (after : List Deed) → after ≡ deeds ++ d ∷ [] → current after d.key ≡ None → IsSeated lane_of old after
    seated_gone d after more none key ours = elim (keys_tell d.key key) [
      | inl same ↦ inl (subst (λ k. current after k ≡ None) same none)
      | inr other ↦
          let stays : current after key ≡ current deeds key = ap (λ ds. current ds key) more ∙ others_keep deeds d key other in
          elim (seated key ours) [ inl was ↦ inl (stays ∙ was) | inr has ↦ inr (stays ∙ has) ]
    ]

    -- the lane does a deed of a key and a write of it is entered, after which it has nothing, or the same by both
    pub seated_entry : (d write : Deed) (after seat_old seat_new : List Deed) (new : Registered) → after ≡ deeds ++ d ∷ [] → d.key ≡ write.key → EntersIn lane_of old seat_old write new seat_new → (current after d.key ≡ None) ⊎ (current after d.key ≡ current new.deeds d.key) → IsSeated lane_of new after
    seated_entry d write after seat_old seat_new new more at enters has key ours = elim (keys_tell d.key key) [
      | inl same ↦ subst (λ k. (current after k ≡ None) ⊎ (current after k ≡ current new.deeds k)) same has
      | inr other ↦
          let here : lane_of key ≡ old.number = ours ∙ enters.number in
          let stays : current after key ≡ current deeds key = ap (λ ds. current ds key) more ∙ others_keep deeds d key other in
          let before : current enters.before key ≡ current old.deeds key = same_part lane_of old.number key old.deeds enters.before here enters.part in
          let now : current new.deeds key ≡ current old.deeds key = ap (λ ds. current ds key) enters.behind ∙ (others_keep enters.before write key (λ is. other (at ∙ is)) ∙ before) in
          elim (seated key here) [ inl was ↦ inl (stays ∙ was) | inr is ↦ inr (stays ∙ (is ∙ sym now)) ]
    ]

    -- a put that is stored and entered
    pub seated_put : (key value : List ℕ) (expires : ℕ) (after seat_old seat_new : List Deed) (new : Registered) → after ≡ deeds ++ put_of key value expires ∷ [] → EntersIn lane_of old seat_old (put_of key value expires) new seat_new → IsSeated lane_of new after
    seated_put key value expires after seat_old seat_new new more enters =
        let put : Deed = put_of key value expires in
        let here = ap (λ ds. current ds key) more ∙ put_gives deeds put key value expires refl refl in
        let there = ap (λ ds. current ds key) enters.behind ∙ put_gives enters.before put key value expires refl refl in
        seated_entry put put after seat_old seat_new new more refl enters (inr (here ∙ sym there))

    -- a removal, and a write of its key that is entered
    pub seated_removed : (write : Deed) (after seat_old seat_new : List Deed) (new : Registered) → after ≡ deeds ++ record { key = write.key; act = Remove } ∷ [] → EntersIn lane_of old seat_old write new seat_new → IsSeated lane_of new after
    seated_removed write after seat_old seat_new new more enters =
        seated_entry (record { key = write.key; act = Remove }) write after seat_old seat_new new more refl enters (inl (ap (λ ds. current ds write.key) more ∙ removed_has deeds write.key))

    -- a removal that is not entered
    pub seated_forgotten : (key : List ℕ) (after : List Deed) → after ≡ deeds ++ record { key = key; act = Remove } ∷ [] → IsSeated lane_of old after
    seated_forgotten key after more =
        seated_gone (record { key = key; act = Remove }) after more (ap (λ ds. current ds key) more ∙ removed_has deeds key)

    -- a deed that is not entered, and then a removal of its key
    pub seated_undone : (d : Deed) (between after : List Deed) → between ≡ deeds ++ d ∷ [] → after ≡ between ++ record { key = d.key; act = Remove } ∷ [] → IsSeated lane_of old after
    seated_undone d between after more then key ours =
        let removal : Deed = record { key = d.key; act = Remove } in
        elim (keys_tell d.key key) [
          | inl same ↦ inl (subst (λ k. current after k ≡ None) same (ap (λ ds. current ds d.key) then ∙ removed_has between d.key))
          | inr other ↦
              let stays : current after key ≡ current deeds key = ap (λ ds. current ds key) then ∙ (others_keep between removal key other ∙ (ap (λ ds. current ds key) more ∙ others_keep deeds d key other)) in
              elim (seated key ours) [ inl was ↦ inl (stays ∙ was) | inr has ↦ inr (stays ∙ has) ]
        ]

    -- what the lane hits is latest in what the seat has seen after a look
    pub seated_live : (honest : Type 0) (seat_old seat_new : List Deed) (new : Registered) (key : List ℕ) (moment : ℕ) (answer : Answer) → Catches lane_of old seat_old new seat_new → lane_of key ≡ old.number → IsLiveHit honest deeds key moment answer → IsLiveHit honest seat_new key moment answer
    seated_live honest seat_old seat_new new key moment answer looks ours live =
        let has = seated_look seat_old seat_new new looks key (ours ∙ sym looks.number) in
        subst (λ (l : List Deed). IsLiveHit honest l key moment answer) (sym looks.both) (live_hit_by honest deeds new.deeds key moment answer has live)

    -- and expires when it says
    pub seated_expiry : (honest : Type 0) (seat_old seat_new : List Deed) (new : Registered) (key value : List ℕ) (seen : AnswerKind) → Catches lane_of old seat_old new seat_new → lane_of key ≡ old.number → TellsExpiry honest deeds key value seen → TellsExpiry honest seat_new key value seen
    seated_expiry honest seat_old seat_new new key value seen looks ours told =
        let has = seated_look seat_old seat_new new looks key (ours ∙ sym looks.number) in
        subst (λ (l : List Deed). TellsExpiry honest l key value seen) (sym looks.both) (expiry_by honest deeds new.deeds key value seen has told)
