-- A text on lines is the text but for the line feeds.
use Rattle.std.proofs.Common.{◌≡◌, ℕ, List, [], ◌∷◌, ◌++◌, Bool, true, false, ◌==◌, not, refl, sym, ap, ◌∙◌, fold, append-nil, append_assoc, if◌then◌else◌}
use Rattle.std.proofs.lemmas.List.Elements.{filter-append}
use Rattle.history_picture.specs.Wrapping.{Broken, has_room, longer, next_line, on_line, placed, unbroken, unfed, with_sign, wrapped}

-- what stands on lines, and the word that is not placed, without line feeds
abbrev whole : Broken → List ℕ
whole broken = unfed (broken.text ++ broken.word)

parted : (a b : List ℕ) → unfed (a ++ b) ≡ unfed a ++ unfed b
parted a b = filter-append (λ sign. not (sign == 10)) a b

fed : (text : List ℕ) → unfed (text ++ 10 ∷ []) ≡ unfed text
fed text = parted text (10 ∷ []) ∙ append-nil (unfed text)

next_same : (broken : Broken) → unfed ((broken.text ++ 10 ∷ []) ++ broken.word) ≡ whole broken
next_same broken =
    parted (broken.text ++ 10 ∷ []) broken.word ∙ ap (λ t. t ++ unfed broken.word) (fed broken.text) ∙ sym (parted broken.text broken.word)

placed_text : (room : Bool) (broken : Broken) → unfed ((if room then on_line broken else on_line (next_line broken)).text) ≡ whole broken
placed_text true broken = refl
placed_text false broken = next_same broken

placed_whole : (room : Bool) (broken : Broken) → whole (if room then on_line broken else on_line (next_line broken)) ≡ whole broken
placed_whole true broken = ap unfed (append-nil (broken.text ++ broken.word))
placed_whole false broken = ap unfed (append-nil ((broken.text ++ 10 ∷ []) ++ broken.word)) ∙ next_same broken

longer_whole : (broken : Broken) (sign : ℕ) → whole (longer broken sign) ≡ whole broken ++ unfed (sign ∷ [])
longer_whole broken sign = ap unfed (sym (append_assoc broken.text broken.word (sign ∷ []))) ∙ parted (broken.text ++ broken.word) (sign ∷ [])

signed : (space : Bool) (broken : Broken) (sign : ℕ) → whole (if space then placed (longer broken sign) else longer broken sign) ≡ whole broken ++ unfed (sign ∷ [])
signed true broken sign = placed_whole (has_room broken.used (longer broken sign).word) (longer broken sign) ∙ longer_whole broken sign
signed false broken sign = longer_whole broken sign

folded : (broken : Broken) (text : List ℕ) → whole (fold with_sign broken text) ≡ whole broken ++ unfed text
folded broken [] = sym (append-nil (whole broken))
folded broken (sign ∷ text) =
    folded (with_sign broken sign) text ∙ ap (λ t. t ++ unfed text) (signed (sign == 32) broken sign) ∙ append_assoc (whole broken) (unfed (sign ∷ [])) (unfed text)
    ∙ ap (λ t. whole broken ++ t) (sym (parted (sign ∷ []) text))

-- a text on lines is the text but for the line feeds
pub same_wrapped : (text : List ℕ) → unfed (wrapped text) ≡ unfed text
unfolding wrapped
same_wrapped text =
    let broken = fold with_sign unbroken text in
    placed_text (has_room broken.used broken.word) broken ∙ folded unbroken text
