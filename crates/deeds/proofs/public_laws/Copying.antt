-- That each of some pairs is what its key has after the deeds, and stays so: of those in memory, and of copies elsewhere.
use Rattle.std.proofs.Common.{◌≡◌, ◌≢◌, ℕ, List, [], ◌∷◌, ◌++◌, Some, ◌∙◌, subst, sym, ⊎_elim}
use Rattle.std.specs.Prelude.{Contains}
use Rattle.std.proofs.lemmas.List.Elements.{All-contains, All-contains_itself}
use Rattle.record_pages.specs.declared.answer.Answer.{Answer}
use Rattle.memory_cache.specs.declared.pair.Pair.{Pair}
use Rattle.memory_cache.specs.MemoryList.{MemoryList, after_get, after_put, after_remove, entered, without}
use Rattle.certificate_checker.specs.Deeds.{Deed}
use Rattle.certificate_checker.specs.Current.{current}
use Rattle.certificate_checker.proofs.public_laws.LatestLemmas.{current-push, deed_kept}
use Rattle.mover.proofs.public_laws.Keeping.{all_fronted}
use Rattle.mover.proofs.public_laws.Listing.{in_take, split}
use Rattle.mover.proofs.public_laws.Showing.{without_key}
use Rattle.deeds.specs.Asked.{AreCurrent}
use Rattle.deeds.specs.Sound.{act_of}
use Rattle.deeds.proofs.public_laws.Sounding.{reads}

-- ---- what deeds give

-- after a get each key has what it had
pub read_keeps : (deeds : List Deed) (key : List ℕ) (moment : ℕ) (answer : Answer) (k : List ℕ) → current (deeds ++ record { key = key; act = act_of moment answer } ∷ []) k ≡ current deeds k
read_keeps deeds key moment answer k =
    let d : Deed = record { key = key; act = act_of moment answer } in
    current-push k deeds d ∙ deed_kept k (current deeds k) d (λ w. reads moment answer w.1)

-- after a deed of a key the others have what they had
pub write_keeps : (deeds : List Deed) (d : Deed) (k : List ℕ) → k ≢ d.key → current (deeds ++ d ∷ []) k ≡ current deeds k
write_keeps deeds d k other = current-push k deeds d ∙ deed_kept k (current deeds k) d (λ w. other (sym w.0))

-- ---- each pair in memory is what its key has

-- after a put, which gives its key its value and the others what they had
pub current_put : (before after : List Deed) (put : Pair) (old new : MemoryList) → current after put.key ≡ Some put.value → ((k : List ℕ) → k ≢ put.key → current after k ≡ current before k) → new ≡ after_put put old → AreCurrent before old.pairs → AreCurrent after new.pairs
current_put before after put old new its others is are p here =
    let there_in = in_take old.capacity (entered put old.pairs) p (subst (λ (m : MemoryList). Contains m.pairs p) is here) in
    ⊎_elim (λ first. subst (λ (x : Pair). current after x.key ≡ Some x.value) first its)
    (λ behind. let kept = without_key put.key old.pairs p behind in others p.key kept.1 ∙ are p kept.0)
    (split p put (without put.key old.pairs) there_in)

-- after a removal, which gives the other keys what they had
pub current_removed : (before after : List Deed) (key : List ℕ) (old new : MemoryList) → ((k : List ℕ) → k ≢ key → current after k ≡ current before k) → new ≡ after_remove key old → AreCurrent before old.pairs → AreCurrent after new.pairs
current_removed before after key old new others is are p here =
    let kept = without_key key old.pairs p (subst (λ (m : MemoryList). Contains m.pairs p) is here) in
    others p.key kept.1 ∙ are p kept.0

-- if deeds give each key what it had
pub current_kept : (before after : List Deed) (pairs : List Pair) → ((k : List ℕ) → current after k ≡ current before k) → AreCurrent before pairs → AreCurrent after pairs
current_kept before after pairs same are p here = same p.key ∙ are p here

-- after a pair came to the front, which changes what no key has
pub current_raised : (deeds : List Deed) (key : List ℕ) (old new : MemoryList) → new ≡ after_get key old → AreCurrent deeds old.pairs → AreCurrent deeds new.pairs
current_raised deeds key old new is are p here = are p (All-contains (Contains old.pairs) new.pairs p (all_fronted (Contains old.pairs) old new key is (All-contains_itself old.pairs)) here)
