-- Pictures as a whole.
use Rattle.std.proofs.Common.{◌≡◌, ℕ, ◌+◌, ◌<◌, List, [], ◌∷◌, ◌++◌, sym, ap, subst, ◌∙◌, arith, length, min, take, get_or}
use Rattle.std.proofs.lemmas.List.{take_more}
use Rattle.std.specs.Prelude.{count_by, slice_get}
use Rattle.trace_file.specs.declared.call.Call.{Call}
use Rattle.history_picture.specs.Arrows.{arrows_of}
use Rattle.history_picture.specs.Drawings.{IsDrawing}
use Rattle.history_picture.specs.Drawn.{IsDrawnOf, IsPicture}
use Rattle.history_picture.specs.Labels.{is_marked}
use Rattle.history_picture.specs.Marks.{marks_of}
use Rattle.history_picture.specs.Pictures.{next_at, next_of, picture_text}
use Rattle.history_picture.specs.Plain.{IsPlain}
use Rattle.history_picture.specs.Sentences.{sentence_of}
use Rattle.history_picture.specs.Shown.{AreShown}
use Rattle.history_picture.specs.Wrapping.{feeds, wrapped}
use Rattle.history_picture.specs.declared.arrows.Arrow.{Arrow}
use Rattle.history_picture.specs.declared.drawing.Drawing.{Drawing}
use Rattle.history_picture.specs.declared.reason.Reason.{Reason}
use Rattle.history_picture.proofs.PlainPictures.{plain_picture}
use Rattle.history_picture.proofs.WrapLaws.{same_wrapped}

-- the parts of what is shown are the picture
pub drawn_of : (history : List Call) (lines : List ℕ) (callers : List (List ℕ)) (reason : Reason) (sentence marks shown broken text : List ℕ) (arrows : List Arrow) (drawing : Drawing) → broken ≡ wrapped sentence → IsDrawing history lines callers shown drawing → drawing.feeds ≡ feeds broken → drawing.labels ≡ count_by (is_marked marks) shown → arrows ≡ arrows_of reason → text ≡ picture_text history lines callers broken drawing marks shown arrows → IsDrawnOf history lines callers reason sentence marks shown text
drawn_of history lines callers reason sentence marks shown broken text arrows drawing b drawn f l a is = record {
  drawing = drawing;
  is_drawing = drawn;
  lines_of_sentence = f ∙ ap feeds b;
  lines_of_labels = l;
  is = is ∙ (λ i. picture_text history lines callers (b i) drawing marks shown (a i));
}

-- the picture of what is shown is the picture of a reason
pub pictured : (history : List Call) (lines : List ℕ) (callers : List (List ℕ)) (reason : Reason) (sentence marks shown items : List ℕ) (text : List ℕ) → sentence ≡ sentence_of history lines reason → marks ≡ marks_of reason → shown ≡ items → AreShown history marks 24 items → IsDrawnOf history lines callers reason sentence marks shown text → IsPicture history lines callers reason text
pictured history lines callers reason sentence marks shown items text said m s are drawn =
    let is : IsDrawnOf history lines callers reason (sentence_of history lines reason) (marks_of reason) items text =
    subst (λ k. IsDrawnOf history lines callers reason k (marks_of reason) items text) said
    (subst (λ k. IsDrawnOf history lines callers reason sentence k items text) m (subst (λ k. IsDrawnOf history lines callers reason sentence marks k text) s drawn)) in
    record {
      shown = items;
      are_shown = subst (λ k. AreShown history k 24 items) m are;
      is = is;
      same_sentence = same_wrapped (sentence_of history lines reason);
      plain = subst IsPlain (sym is.is) (plain_picture history lines callers (wrapped (sentence_of history lines reason)) is.drawing (marks_of reason) items (arrows_of reason));
    }

-- one more call was looked at
pub next_push : (drawing : Drawing) (history : List Call) (caller start : ℕ) (shown : List ℕ) (position : ℕ) → next_of drawing history caller start (shown ++ position ∷ []) ≡ min (next_of drawing history caller start shown) (next_at drawing caller start (slice_get history position))
next_push drawing history caller start [] position = omega arith
next_push drawing history caller start (one ∷ shown) position = omega (arith, next_push drawing history caller start shown position)

-- where the next call starts, by one more call
pub next_more : (drawing : Drawing) (history : List Call) (caller start : ℕ) (shown : List ℕ) (i next at new : ℕ) → i < length shown → next ≡ next_of drawing history caller start (take i shown) → at ≡ next_at drawing caller start (slice_get history (get_or shown i 0)) → new ≡ min next at → new ≡ next_of drawing history caller start (take (i + 1) shown)
next_more drawing history caller start shown i next at new less n a is =
    is ∙ (λ j. min (n j) (a j)) ∙ sym (ap (next_of drawing history caller start) (take_more shown i 0 less) ∙ next_push drawing history caller start (take i shown) (get_or shown i 0))
