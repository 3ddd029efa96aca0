-- Counts, look-ups and takings, in terms of the list of segments.
use Rattle.std.proofs.Common.{◌≡◌, ◌≢◌, ℕ, Bool, true, false, cond, eqb, List, [], ◌∷◌, ◌++◌, length, take, filter, map, reverse, Option, Some, None, refl, sym, ap, subst, ◌∙◌, inl, inr}
use Rattle.std.specs.Prelude.{find}
use Rattle.std.specs.Option.{option_map}
use Rattle.std.specs.Cmp.Lexicographic.{bytes_decides}
use Rattle.std.proofs.lemmas.Bool.{cases_Bool, false≢true}
use Rattle.std.proofs.lemmas.List.{append-nil, append_assoc, length-map, length-reverse, reverse-append, take-map}
use Rattle.std.proofs.lemmas.List.Elements.{All-nil, All-push, filter-append}
use Rattle.std.proofs.lemmas.List.Sums.{length-filter}
use Rattle.record_pages.specs.Recs.{Rec}
use Rattle.record_pages.specs.Looking.{has_key}
use Rattle.klog_index.specs.declared.entry.Entry.{Entry}
use Rattle.klog_index.specs.Entries.{is_of}
use Rattle.klog.specs.Log.{LogState, with_list}
use Rattle.klog.specs.Shown.{live_on, IsSpelledOn}
use Rattle.klog.specs.Keeps.{IsLog}
use Rattle.klog.specs.Moves.{most_taken, taken_as}
use Rattle.klog.specs.Segments.{LogRecord, live_record, segments_of, live_records}
use Rattle.klog.specs.SegmentLaws.{is_of_set}
use Rattle.klog.specs.AnswerLaws.{CountTellsLive, TellsLastWith, LookFindsNewest, as_listed, TakingGivesLast}
use Rattle.klog.proofs.LiveLaws.{live_on-kept, spelled_kept}
use Rattle.klog.proofs.LookLaws.{placed_live}
use Rattle.klog.proofs.TakenLaws.{as_many}
use Rattle.klog.proofs.Numbered.{aged-cons}
use Rattle.klog.proofs.PlaceLaws.{filter-same}
use Rattle.klog.proofs.ListedLaws.{tells_live}

-- ---- lists read from their last one on

aged-one : {X Y : Type 0} (f : X → Y) (x : X) (ys : List X) (b : Bool) → map f (reverse ys) ++ cond b (f x ∷ []) [] ≡ map f (reverse (cond b (x ∷ ys) ys))
aged-one f x ys true = sym (aged-cons f x ys)
aged-one f x ys false = append-nil (map f (reverse ys))

-- those that are kept are the same, whether chosen before or after
aged-kept : {X Y : Type 0} (f : X → Y) (p : Y → Bool) (xs : List X) → filter p (map f (reverse xs)) ≡ map f (reverse (filter (λ x. p (f x)) xs))
aged-kept f p [] = refl
aged-kept f p (x ∷ xs) =
    ap (filter p) (aged-cons f x xs)
    ∙ filter-append p (map f (reverse xs)) (f x ∷ [])
    ∙ ap (λ (ys : List _). ys ++ cond (p (f x)) (f x ∷ []) []) (aged-kept f p xs)
    ∙ aged-one f x (filter (λ x. p (f x)) xs) (p (f x))

aged-again : {X Y : Type 0} (f : X → Y) (xs : List X) → reverse (map f (reverse xs)) ≡ map f xs
aged-again f [] = refl
aged-again f (x ∷ xs) =
    ap reverse (aged-cons f x xs)
    ∙ reverse-append (map f (reverse xs)) (f x ∷ [])
    ∙ ap (λ (ys : List _). f x ∷ ys) (aged-again f xs)

-- ---- the live records of a set

-- those of the list are those of the log, newest last
of_set_listed : (bytes : ℕ) (held : ℕ → Option (List ℕ)) (k : LogState) (set : ℕ) → IsLog k → IsSpelledOn bytes held k
    → filter (is_of_set k.shape set) (live_records (segments_of held k)) ≡ map live_record (reverse (filter (λ x. is_of set x.0) (live_on held k)))
of_set_listed bytes held k set log spelled =
    ap (filter (is_of_set k.shape set)) (tells_live held k log)
    ∙ aged-kept live_record (is_of_set k.shape set) (live_on held k)
    ∙ ap (λ (xs : List (Entry × Rec)). map live_record (reverse xs))
    (filter-same (λ x. is_of_set k.shape set (live_record x)) (λ x. is_of set x.0) (live_on held k)
    (λ i d lt. ap (λ (s : ℕ). eqb s set) (placed_live bytes held k spelled i d lt).0))

pub count_tells_live : CountTellsLive
count_tells_live bytes held k set log spelled =
    let live : List (Entry × Rec) = filter (λ x. is_of set x.0) (live_on held k) in
    sym (length-filter (is_of set) k.entries)
    ∙ sym (as_many bytes held (with_list k (filter (is_of set) k.entries)) (spelled_kept bytes held k (is_of set) spelled))
    ∙ ap length (live_on-kept held k (is_of set))
    ∙ sym (length-map (reverse live) live_record ∙ length-reverse live)
    ∙ sym (ap length (of_set_listed bytes held k set log spelled))
    ∙ length-filter (is_of_set k.shape set) (live_records (segments_of held k))

-- ---- what is taken of a set

listed-taken : (k : LogState) (xs : List (Entry × Rec)) → map as_listed (map (taken_as k) xs) ≡ map live_record xs
listed-taken k [] = refl
listed-taken k (x ∷ xs) = ap (λ (ys : List LogRecord). live_record x ∷ ys) (listed-taken k xs)

-- this many of the newest ones
last_listed : (k : LogState) (n : ℕ) (xs : List (Entry × Rec)) → map as_listed (map (taken_as k) (take n xs)) ≡ take n (reverse (map live_record (reverse xs)))
last_listed k n xs = listed-taken k (take n xs) ∙ sym (take-map live_record n xs) ∙ ap (take n) (sym (aged-again live_record xs))

pub taking_gives_last : TakingGivesLast
taking_gives_last bytes held k set log spelled =
    last_listed k most_taken (filter (λ x. is_of set x.0) (live_on held k))
    ∙ ap (λ (ys : List LogRecord). take most_taken (reverse ys)) (sym (of_set_listed bytes held k set log spelled))

-- ---- what a look-up finds

-- one more at the end, with another key
last-more : (key : List ℕ) (records : List LogRecord) (y : LogRecord) → y.key ≢ key → (found : Option LogRecord) → TellsLastWith key records found → TellsLastWith key (records ++ y ∷ []) found
last-more key records y away None none = All-push (λ x. x.key ≢ key) records y none away
last-more key records y away (Some x) is = record {
  before = is.before;
  after = is.after ++ y ∷ [];
  split = ap (λ (xs : List LogRecord). xs ++ y ∷ []) is.split ∙ append_assoc is.before (x ∷ is.after) (y ∷ []);
  has = is.has;
  last = All-push (λ x. x.key ≢ key) is.after y is.last away;
}

-- the first with the key, listed newest first, is the last one, listed newest last
last-found : (key : List ℕ) (xs : List (Entry × Rec)) → TellsLastWith key (map live_record (reverse xs)) (option_map live_record (find (λ x. has_key key x.1) xs))
last-found key [] = All-nil (λ (x : LogRecord). x.key ≢ key)
last-found key (x ∷ xs) = elim (cases_Bool (has_key key x.1)) [
  | inl is ↦
      subst (λ (o : Option (Entry × Rec)). TellsLastWith key (map live_record (reverse (x ∷ xs))) (option_map live_record o)) (sym (ap (λ (b : Bool). cond b (Some x) rest) is))
      (record { before = map live_record (reverse xs); after = []; split = aged-cons live_record x xs; has = (bytes_decides x.1.key key).0 is; last = All-nil (λ (x : LogRecord). x.key ≢ key) })
  | inr is ↦
      subst (λ (o : Option (Entry × Rec)). TellsLastWith key (map live_record (reverse (x ∷ xs))) (option_map live_record o)) (sym (ap (λ (b : Bool). cond b (Some x) rest) is))
      (subst (λ (ys : List LogRecord). TellsLastWith key ys (option_map live_record rest)) (sym (aged-cons live_record x xs))
      (last-more key (map live_record (reverse xs)) (live_record x) (λ same. false≢true (sym is ∙ (bytes_decides x.1.key key).1 same)) (option_map live_record rest) (last-found key xs)))
]
  where
    rest : Option (Entry × Rec)
    rest = find (λ x. has_key key x.1) xs

pub look_finds_newest : LookFindsNewest
look_finds_newest held k key log =
    subst (λ (ys : List LogRecord). TellsLastWith key ys (option_map live_record (find (λ x. has_key key x.1) (live_on held k)))) (sym (tells_live held k log)) (last-found key (live_on held k))
