-- Pictures, and what writing one does.
use Rattle.std.specs.Prelude.{◌≡◌, ℕ, List, Option, count_by}
use Rattle.std.specs.Io.KnownBytes.{Appends}
use Rattle.trace_file.specs.Sending.{Begun}
use Rattle.trace_file.specs.declared.call.Call.{Call}
use Rattle.history_picture.specs.Arrows.{arrows_of}
use Rattle.history_picture.specs.Drawings.{IsDrawing}
use Rattle.history_picture.specs.Labels.{is_marked}
use Rattle.history_picture.specs.Marks.{marks_of}
use Rattle.history_picture.specs.Pictures.{picture_text}
use Rattle.history_picture.specs.Plain.{IsPlain}
use Rattle.history_picture.specs.Sentences.{sentence_of}
use Rattle.history_picture.specs.Shown.{AreShown}
use Rattle.history_picture.specs.Wrapping.{feeds, unfed, wrapped}
use Rattle.history_picture.specs.declared.drawing.Drawing.{Drawing}
use Rattle.history_picture.specs.declared.reason.Reason.{Reason}

-- the picture of a reason with this sentence, if these calls matter and those are shown
pub record IsDrawnOf (history : List Call) (lines : List ℕ) (callers : List (List ℕ)) (reason : Reason) (sentence marks shown text : List ℕ) : Type 0 where
  pub drawing : Drawing
  pub is_drawing : IsDrawing history lines callers shown drawing
  pub lines_of_sentence : drawing.feeds ≡ feeds (wrapped sentence)
  pub lines_of_labels : drawing.labels ≡ count_by (is_marked marks) shown
  pub is : text ≡ picture_text history lines callers (wrapped sentence) drawing marks shown (arrows_of reason)

-- the picture of a reason: its sentence on lines, without a change but for the line feeds, a row for each caller of at most 24 calls, a bar for each call, a label for each that matters, and its arrows, all on one scale
pub record IsPicture (history : List Call) (lines : List ℕ) (callers : List (List ℕ)) (reason : Reason) (text : List ℕ) : Type 0 where
  pub shown : List ℕ
  pub are_shown : AreShown history (marks_of reason) 24 shown
  pub is : IsDrawnOf history lines callers reason (sentence_of history lines reason) (marks_of reason) shown text
  pub same_sentence : unfed (wrapped (sentence_of history lines reason)) ≡ unfed (sentence_of history lines reason)
  pub plain : IsPlain text

-- a picture was written, and nothing else
pub record WrotePicture (history : List Call) (lines : List ℕ) (callers : List (List ℕ)) (reason : Reason) (old new : Option (List ℕ)) : Type 0 where
  pub text : List ℕ
  pub is : IsPicture history lines callers reason text
  pub wrote : Appends old new text

-- of a picture a front was written once, and not all of it
pub record BeganPicture (history : List Call) (lines : List ℕ) (callers : List (List ℕ)) (reason : Reason) (old new : Option (List ℕ)) : Type 0 where
  pub text : List ℕ
  pub is : IsPicture history lines callers reason text
  pub began : Begun old new text
