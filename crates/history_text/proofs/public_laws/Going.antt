-- Lines read after lines: what both say is what all of them say.
use Rattle.std.proofs.Common.{◌≡◌, ◌∙◌, ℕ, suc, ◌+◌, List, [], ◌∷◌, ◌++◌, length, Option, Some, None, Result, Ok, Err, append_assoc, ap, arith, subst, sym}
use Rattle.script_words.specs.Lines.{lines_of}
use Rattle.history_text.specs.declared.bad_line.BadLine.{BadLine}
use Rattle.history_text.specs.declared.line_cause.LineCause.{LineCause}
use Rattle.history_text.specs.declared.reading.Reading.{Reading}
use Rattle.history_text.specs.Pieces.{AreFirst, GoesOn}
use Rattle.history_text.specs.Text.{Room, TextRead, by_line, read_from, with_line}

by_then : (number : ℕ) (said : Result TextRead LineCause) (rest more : TextRead → Result TextRead BadLine) (mid : TextRead) (last : Result TextRead BadLine) → ((r : TextRead) → rest r ≡ Ok mid → more r ≡ last) → by_line number said rest ≡ Ok mid → by_line number said more ≡ last
by_then number (Ok r) rest more mid last on is = on r is
by_then number (Err cause) rest more mid last on is = cc

-- what lines give after others is what all of them give
pub read_then : (room : Room) (how : Reading) (read mid : TextRead) (last : Result TextRead BadLine) (number among : ℕ) (front more : List (List ℕ)) → among ≡ number + length front → read_from room how read number front ≡ Ok mid → read_from room how mid among more ≡ last → read_from room how read number (front ++ more) ≡ last
read_then room how read mid last number among [] more counted one two =
    let same : read ≡ mid = cc in
    let none : among ≡ number = omega (arith, counted) in
    subst (λ (r : TextRead). read_from room how r number more ≡ last) (sym same) (subst (λ (n : ℕ). read_from room how mid n more ≡ last) none two)
read_then room how read mid last number among (line ∷ front) more counted one two =
    by_then number (with_line room how read number line) (λ r. read_from room how r (suc number) front) (λ r. read_from room how r (suc number) (front ++ more)) mid last (λ r on. read_then room how r mid last (suc number) among front more (omega (arith, counted)) on two) one

-- lines stand first, and then others
pub first_then : (left mid rest : Option (List ℕ)) (front more : List (List ℕ)) → AreFirst left front mid → AreFirst mid more rest → AreFirst left (front ++ more) rest
first_then None mid rest front more one two = tt
first_then (Some bytes) None rest front more one two = absurd one
first_then (Some bytes) (Some others) None front more one two = absurd two
first_then (Some bytes) (Some others) (Some last) front more one two =
    one ∙ ap (λ (ls : List (List ℕ)). front ++ ls) two ∙ sym (append_assoc front more (lines_of last))

-- what is read in two goes
pub goes_through : (room : Room) (how : Reading) (left mid rest : Option (List ℕ)) (read between other : TextRead) (number among last : ℕ) → GoesOn room how left read number mid between among → GoesOn room how mid between among rest other last → GoesOn room how left read number rest other last
goes_through room how None mid rest read between other number among last one two = tt
goes_through room how (Some bytes) None rest read between other number among last one two = absurd one
goes_through room how (Some bytes) (Some more) None read between other number among last one two = absurd two
goes_through room how (Some bytes) (Some more) (Some others) read between other number among last one two = one ∙ two
