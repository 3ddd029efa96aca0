-- What keys have after the writes of one lane, and after one write more.
use Rattle.std.proofs.Common.{◌≡◌, ◌≢◌, ◌⊎◌, ℕ, true, List, [], ◌∷◌, ◌++◌, Option, None, Some, refl, ap, sym, ◌∙◌, cond, inl, inr, fold}
use Rattle.std.specs.Str.{bytes_eq}
use Rattle.std.specs.Cmp.Lexicographic.{bytes_decides}
use Rattle.std.proofs.lemmas.Bool.Decides.{eqb_tells}
use Rattle.record_pages.specs.declared.timed_value.TimedValue.{TimedValue}
use Rattle.record_pages.specs.declared.answer.Answer.{Answer}
use Rattle.record_pages.specs.declared.answer.Answer.TheVariants as answers
use Rattle.record_pages.specs.declared.tier.Tier.TheVariants.{Memory, Log, Set}
use Rattle.trace_file.specs.declared.act.Act.TheVariants.{Remove}
use Rattle.certificate_checker.specs.Deeds.{Deed}
use Rattle.certificate_checker.specs.Current.{current, after_deed, given_at}
use Rattle.certificate_checker.specs.Latest.{IsLive}
use Rattle.certificate_checker.proofs.public_laws.LatestLemmas.{current-push, deed_kept, live_is, live_found}
use Rattle.deeds.specs.Sound.{act_of}
use Rattle.deeds.proofs.public_laws.Sounding.{reads}
use Rattle.mover.specs.declared.answer_kind.AnswerKind.{AnswerKind}
use Rattle.mover.specs.declared.answer_kind.AnswerKind.TheVariants as kinds
use Rattle.record_pages.specs.Expiry.{timed}
use Rattle.service_lane.specs.Asked.{IsLiveHit, TellsExpiry}
use Rattle.deed_book.specs.Parts.{part_of}

-- the deeds of the lane of a key alone give it what all give it
part_gives : (lane_of : List ℕ → ℕ) (n : ℕ) (key : List ℕ) (deeds : List Deed) (has : Option TimedValue) → lane_of key ≡ n → fold (after_deed key) has (part_of lane_of n deeds) ≡ fold (after_deed key) has deeds
part_gives lane_of n key [] has ours = refl
part_gives lane_of n key (d ∷ deeds) has ours = elim (eqb_tells (lane_of d.key) n) [
  | inl same ↦
      let first : part_of lane_of n (d ∷ deeds) ≡ d ∷ part_of lane_of n deeds = ap (λ b. cond b (d ∷ part_of lane_of n deeds) (part_of lane_of n deeds)) same.0 in
      ap (λ ds. fold (after_deed key) has ds) first ∙ part_gives lane_of n key deeds (after_deed key has d) ours
  | inr other ↦
      let first : part_of lane_of n (d ∷ deeds) ≡ part_of lane_of n deeds = ap (λ b. cond b (d ∷ part_of lane_of n deeds) (part_of lane_of n deeds)) other.0 in
      let stays : after_deed key has d ≡ has = deed_kept key has d (λ w. other.1 (ap lane_of w.0 ∙ ours)) in
      ap (λ ds. fold (after_deed key) has ds) first ∙ (part_gives lane_of n key deeds has ours ∙ ap (λ v. fold (after_deed key) v deeds) (sym stays))
]

-- if a lane has the same deeds in two lists, its keys have the same
pub same_part : (lane_of : List ℕ → ℕ) (n : ℕ) (key : List ℕ) (old new : List Deed) → lane_of key ≡ n → part_of lane_of n new ≡ part_of lane_of n old → current new key ≡ current old key
same_part lane_of n key old new ours same =
    sym (part_gives lane_of n key new None ours) ∙ (ap (λ ds. fold (after_deed key) None ds) same ∙ part_gives lane_of n key old None ours)

-- after an answer each key has what it had
pub read_keeps : (deeds : List Deed) (at : List ℕ) (moment : ℕ) (answer : Answer) (key : List ℕ) → current (deeds ++ record { key = at; act = act_of moment answer } ∷ []) key ≡ current deeds key
read_keeps deeds at moment answer key =
    let d : Deed = record { key = at; act = act_of moment answer } in
    current-push key deeds d ∙ deed_kept key (current deeds key) d (λ w. reads moment answer w.1)

-- after a deed of a key the others have what they had
pub others_keep : (deeds : List Deed) (d : Deed) (key : List ℕ) → d.key ≢ key → current (deeds ++ d ∷ []) key ≡ current deeds key
others_keep deeds d key other = current-push key deeds d ∙ deed_kept key (current deeds key) d (λ w. other w.0)

-- after a removal its key has nothing
pub removed_has : (deeds : List Deed) (key : List ℕ) → current (deeds ++ record { key = key; act = Remove } ∷ []) key ≡ None
removed_has deeds key =
    let d : Deed = record { key = key; act = Remove } in
    let same : bytes_eq key key ≡ true = (bytes_decides key key).1 refl in
    current-push key deeds d ∙ rw same refl

-- what is live if the key has nothing, or the same, is live by the same
live_by : (deeds writes : List Deed) (key value : List ℕ) (moment : ℕ) → (current deeds key ≡ None) ⊎ (current deeds key ≡ current writes key) → IsLive deeds key value moment → IsLive writes key value moment
live_by deeds writes key value moment (inl none) live =
    let no : given_at moment None ≡ Some value = ap (given_at moment) (sym none) ∙ live_found key value moment deeds live in
    absurd (cc)
live_by deeds writes key value moment (inr same) live =
    live_is key value moment writes (ap (given_at moment) (sym same) ∙ live_found key value moment deeds live)

pub live_hit_by : (honest : Type 0) (deeds writes : List Deed) (key : List ℕ) (moment : ℕ) (answer : Answer) → (current deeds key ≡ None) ⊎ (current deeds key ≡ current writes key) → IsLiveHit honest deeds key moment answer → IsLiveHit honest writes key moment answer
live_hit_by honest deeds writes key moment (answers.Hit value Memory) has live = live_by deeds writes key value moment has live
live_hit_by honest deeds writes key moment (answers.Hit value Log) has live = λ is. live_by deeds writes key value moment has (live is)
live_hit_by honest deeds writes key moment (answers.Hit value Set) has live = λ is. live_by deeds writes key value moment has (live is)
live_hit_by honest deeds writes key moment (answers.Miss cause) has live = tt

-- what the key has there, with its expiry, it has here
timed_by : (deeds writes : List Deed) (key value : List ℕ) (expires : ℕ) → (current deeds key ≡ None) ⊎ (current deeds key ≡ current writes key) → current deeds key ≡ Some (timed value expires) → current writes key ≡ Some (timed value expires)
timed_by deeds writes key value expires (inl none) has = let no : None ≡ Some (timed value expires) = sym none ∙ has in absurd cc
timed_by deeds writes key value expires (inr same) has = sym same ∙ has

pub expiry_by : (honest : Type 0) (deeds writes : List Deed) (key value : List ℕ) (seen : AnswerKind) → (current deeds key ≡ None) ⊎ (current deeds key ≡ current writes key) → TellsExpiry honest deeds key value seen → TellsExpiry honest writes key value seen
expiry_by honest deeds writes key value (kinds.Hit Memory expires) has told = timed_by deeds writes key value expires has told
expiry_by honest deeds writes key value (kinds.Hit Log expires) has told = λ is. timed_by deeds writes key value expires has (told is)
expiry_by honest deeds writes key value (kinds.Hit Set expires) has told = λ is. timed_by deeds writes key value expires has (told is)
expiry_by honest deeds writes key value (kinds.Miss cause) has told = tt
