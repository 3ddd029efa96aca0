-- Sentences as they are put together.
use Rattle.std.proofs.Common.{◌≡◌, ℕ, ◌<◌, List, ◌++◌, ◌∙◌, ap, true, length, take}
use Rattle.std.specs.Prelude.{codes, nat_lt}
use Rattle.std.specs.Fmt.{decimal}
use Rattle.std.specs.List.{flat_map}
use Rattle.std.proofs.lemmas.Bool.{lt-ltb}
use Rattle.trace_file.specs.declared.call.Call.{Call}
use Rattle.certificate_finder.specs.declared.excluded.Excluded.{Excluded}
use Rattle.certificate_finder.specs.declared.faults.CrossedWrites.{CrossedWrites}
use Rattle.history_picture.specs.Naming.{name_of}
use Rattle.history_picture.specs.Sentences.{also_words, hit_words, read_words, unread_words}

-- of several puts
pub several : (history : List Call) (lines : List ℕ) (hit : ℕ) (puts : List Excluded) (name also text : List ℕ) → 1 < length puts → name ≡ name_of history lines hit → also ≡ flat_map (also_words history lines hit) (take 8 puts) → text ≡ name ++ (codes " can have read none of the " ++ (decimal (length puts) ++ (codes " puts of its value" ++ also))) → text ≡ hit_words history lines hit puts
unfolding hit_words
several history lines hit puts name also text more n a is =
    let test : nat_lt 1 (length puts) ≡ true = lt-ltb 1 (length puts) more in
    rw test (is ∙ (λ i. n i ++ (codes " can have read none of the " ++ (decimal (length puts) ++ (codes " puts of its value" ++ a i)))))

-- of puts that a hit would cross with other writes
pub unread_sentence : (history : List Call) (lines : List ℕ) (hit : ℕ) (reads lent : List CrossedWrites) (name also text : List ℕ) → lent ≡ reads → name ≡ name_of history lines hit → also ≡ flat_map (read_words history lines) (take 3 lent) → text ≡ name ++ (codes " fits " ++ (decimal (length lent) ++ (codes " puts, and whichever of them it read, two writes would have no order" ++ also))) → text ≡ unread_words history lines hit reads
unfolding unread_words
unread_sentence history lines hit reads lent name also text same n a is =
    let all : also ≡ flat_map (read_words history lines) (take 3 reads) = a ∙ ap (λ rs. flat_map (read_words history lines) (take 3 rs)) same in
    is ∙ (λ i. n i ++ (codes " fits " ++ (decimal (length (same i)) ++ (codes " puts, and whichever of them it read, two writes would have no order" ++ all i))))
