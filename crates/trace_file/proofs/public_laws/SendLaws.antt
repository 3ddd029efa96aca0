-- Writing piece by piece.
use Rattle.std.proofs.Common.{◌≡◌, ℕ, ◌+◌, ◌<◌, List, [], ◌∷◌, ◌++◌, length, take, drop, Option, Some, refl, sym, ap, subst, ◌∙◌, append_assoc}
use Rattle.std.specs.List.{flat_map}
use Rattle.std.specs.Io.KnownBytes.{Appends}
use Rattle.std.proofs.KnownBytes.{Appends-nil, Appends-trans}
use Rattle.std.proofs.lemmas.List.{append-nil, take-append-drop, take_more, flat_map_more}
use Rattle.std.proofs.lemmas.Option.{get_or_from_slice_get}
use Rattle.std.specs.Prelude.{slice_get, ◌≢◌}
use Rattle.std.specs.Int.{w32, to_be_bytes}
use Rattle.trace_file.specs.declared.call.Call.{Call}
use Rattle.trace_file.specs.declared.version.Version.TheVariants.{Timed}
use Rattle.trace_file.specs.Text.{magic, call_text, position_text, header_of, header_text, text_of}
use Rattle.std.proofs.lemmas.List.Concat.{flat_map-append}
use Rattle.trace_file.specs.Sending.{Sent, Begun}

-- nothing was written yet
pub sent_none : (a : Option (List ℕ)) (all : List ℕ) → Sent a a all all
sent_none a all = record { front = []; written = Appends-nil a; parts = refl }

-- a front of what was left was written
pub sent_more : (a b c : Option (List ℕ)) (all left rest : List ℕ) → Sent a b all left → Sent b c left rest → Sent a c all rest
sent_more a b c all left rest p q = record {
  front = p.front ++ q.front;
  written = Appends-trans a b c p.front q.front p.written q.written;
  parts = p.parts ∙ ap (λ (x : List ℕ). p.front ++ x) q.parts ∙ sym (append_assoc p.front q.front rest);
}

-- a write took these bytes
pub sent_front : (a b : Option (List ℕ)) (bytes : List ℕ) (n : ℕ) → Appends a b (take n bytes) → Sent a b bytes (drop n bytes)
sent_front a b bytes n took = record { front = take n bytes; written = took; parts = sym (take-append-drop n bytes) }

-- all was written
pub sent_all : (a b : Option (List ℕ)) (all : List ℕ) → Appends a b all → Sent a b all []
sent_all a b all took = record { front = all; written = took; parts = sym (append-nil all) }

pub sent_whole : (a b c : Option (List ℕ)) (all left : List ℕ) → Sent a b all left → Appends b c left → Appends a c all
sent_whole a b c all left p took = subst (Appends a c) (sym p.parts) (Appends-trans a b c p.front left p.written took)

pub begun_more : (a b c : Option (List ℕ)) (all left : List ℕ) → Sent a b all left → Begun b c left → Begun a c all
begun_more a b c all left p q = (q.0, q.1, sent_more a b c all left q.0 p q.2)

-- more bytes were put after those that are left
pub sent_behind : (a b : Option (List ℕ)) (all left more : List ℕ) → Sent a b all left → Sent a b (all ++ more) (left ++ more)
sent_behind a b all left more p = record { front = p.front; written = p.written; parts = ap (λ (x : List ℕ). x ++ more) p.parts ∙ append_assoc p.front left more }

-- bytes after some are some
some_behind : (left more : List ℕ) → left ≢ [] → (left ++ more) ≢ []
some_behind [] more some = absurd (some refl)
some_behind (b ∷ left) more some = λ e. cc

pub begun_behind : (a b : Option (List ℕ)) (all more : List ℕ) → Begun a b all → Begun a b (all ++ more)
begun_behind a b all more p = (p.0 ++ more, some_behind p.0 more p.1, sent_behind a b all p.0 more p.2)

-- nothing of a trace was written, and a trace has some bytes
pub begun_none : (a : Option (List ℕ)) (h : List Call) (c : List ℕ) → Begun a a (text_of Timed h c)
unfolding text_of header_text
begun_none a h c = (text_of Timed h c, λ e. cc, sent_none a (text_of Timed h c))

-- items were sent, and stop among them
pub begun_items : {A : Type 0} (text : A → List ℕ) (a b c : Option (List ℕ)) (start left : List ℕ) (xs : List A) (i : ℕ) → Sent a b (start ++ flat_map text (take i xs)) left → Begun b c left → Begun a c (start ++ flat_map text xs)
begun_items text a b c start left xs i p q =
    let front = flat_map text (take i xs) in
    let back = flat_map text (drop i xs) in
    let whole : (start ++ front) ++ back ≡ start ++ flat_map text xs =
    append_assoc start front back ∙ ap (λ (x : List ℕ). start ++ x) (sym (flat_map-append text (take i xs) (drop i xs)) ∙ ap (flat_map text) (take-append-drop i xs)) in
    subst (Begun a c) whole (begun_behind a c (start ++ front) back (begun_more a b c (start ++ front) left p q))

-- one item more was sent
pub sent_item : {A : Type 0} (text : A → List ℕ) (a b c : Option (List ℕ)) (start left rest new : List ℕ) (xs : List A) (i : ℕ) (x : A) → i < length xs → slice_get xs i ≡ Some x
    → Sent a b (start ++ flat_map text (take i xs)) left → Sent b c left rest → new ≡ rest ++ text x → Sent a c (start ++ flat_map text (take (i + 1) xs)) new
sent_item text a b c start left rest new xs i x lt at p q grown =
    let one = sent_behind a c (start ++ flat_map text (take i xs)) rest (text x) (sent_more a b c (start ++ flat_map text (take i xs)) left rest p q) in
    let next : take (i + 1) xs ≡ take i xs ++ x ∷ [] = take_more xs i x lt ∙ ap (λ y. take i xs ++ y ∷ []) (get_or_from_slice_get xs i x x at) in
    let all : (start ++ flat_map text (take i xs)) ++ text x ≡ start ++ flat_map text (take (i + 1) xs) = flat_map_more text start (take i xs) x ∙ ap (λ ys. start ++ flat_map text ys) (sym next) in
    subst (λ (l : List ℕ). Sent a c (start ++ flat_map text (take (i + 1) xs)) l) (sym grown) (subst (λ (t : List ℕ). Sent a c t (rest ++ text x)) all one)

-- seven parts, one after the other
pub joined : (b p1 p2 p3 p4 p5 p6 p7 k caller start end len key act : List ℕ) → p1 ≡ b ++ k → p2 ≡ p1 ++ caller → p3 ≡ p2 ++ start → p4 ≡ p3 ++ end → p5 ≡ p4 ++ len → p6 ≡ p5 ++ key → p7 ≡ p6 ++ act
    → p7 ≡ b ++ (k ++ (caller ++ (start ++ (end ++ ((len ++ key) ++ act)))))
joined b p1 p2 p3 p4 p5 p6 p7 k caller start end len key act e1 e2 e3 e4 e5 e6 e7 =
    e7 ∙ ap (λ (x : List ℕ). x ++ act) (e6 ∙ ap (λ (x : List ℕ). x ++ key) (e5 ∙ ap (λ (x : List ℕ). x ++ len) (e4 ∙ ap (λ (x : List ℕ). x ++ end) (e3 ∙ ap (λ (x : List ℕ). x ++ start) (e2 ∙ ap (λ (x : List ℕ). x ++ caller) e1)))))
    ∙ simp append_assoc

-- ---- the whole trace

pub header_put : (b p q : List ℕ) (n : ℕ) → b ≡ [] → p ≡ b ++ magic Timed → q ≡ p ++ to_be_bytes w32 n → q ≡ header_text (header_of Timed n)
unfolding header_text
header_put b p q n none first second = second ∙ ap (λ (x : List ℕ). x ++ to_be_bytes w32 n) (first ∙ ap (λ (x : List ℕ). x ++ magic Timed) none)

whole_text : (h : List Call) (c : List ℕ) (buffer : List ℕ) → buffer ≡ header_text (header_of Timed (length h)) → (buffer ++ flat_map (call_text Timed) h) ++ flat_map position_text c ≡ text_of Timed h c
unfolding text_of
whole_text h c buffer is = ap (λ (x : List ℕ). (x ++ flat_map (call_text Timed) h) ++ flat_map position_text c) is ∙ append_assoc (header_text (header_of Timed (length h))) (flat_map (call_text Timed) h) (flat_map position_text c)

module _ (h : List Call) (c : List ℕ) (buffer : List ℕ) (is : buffer ≡ header_text (header_of Timed (length h))) where
  pub stopped_in_calls : (a b : Option (List ℕ)) → Begun a b (buffer ++ flat_map (call_text Timed) h) → Begun a b (text_of Timed h c)
  stopped_in_calls a b begun = subst (Begun a b) (whole_text h c buffer is) (begun_behind a b (buffer ++ flat_map (call_text Timed) h) (flat_map position_text c) begun)

  pub stopped_in_positions : (a b d : Option (List ℕ)) (left : List ℕ) → Sent a b (buffer ++ flat_map (call_text Timed) h) left → Begun b d (left ++ flat_map position_text c) → Begun a d (text_of Timed h c)
  stopped_in_positions a b d left sent begun =
      subst (Begun a d) (whole_text h c buffer is)
      (begun_more a b d ((buffer ++ flat_map (call_text Timed) h) ++ flat_map position_text c) (left ++ flat_map position_text c) (sent_behind a b (buffer ++ flat_map (call_text Timed) h) left (flat_map position_text c) sent) begun)

  -- what is left when all was put
  pub all_put : (a b d : Option (List ℕ)) (left rest : List ℕ) → Sent a b (buffer ++ flat_map (call_text Timed) h) left → Sent b d (left ++ flat_map position_text c) rest → Sent a d (text_of Timed h c) rest
  all_put a b d left rest p q =
      subst (λ (t : List ℕ). Sent a d t rest) (whole_text h c buffer is)
      (sent_more a b d ((buffer ++ flat_map (call_text Timed) h) ++ flat_map position_text c) (left ++ flat_map position_text c) rest (sent_behind a b (buffer ++ flat_map (call_text Timed) h) left (flat_map position_text c) p) q)
