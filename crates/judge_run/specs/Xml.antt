-- Texts in XML.
use Rattle.std.specs.Prelude.{ℕ, ◌==◌, nat_lt, not, ◌&&◌, List, [], ◌∷◌, if◌then◌else◌, codes}
use Rattle.std.specs.List.{flat_map}

-- a byte of a text as it stands in XML, in an element or between quotation marks; in the place of what XML can't have stands a question mark
abbrev pub xml_byte : ℕ → List ℕ
xml_byte byte =
    if byte == 38 then codes "&amp;"
    else (if byte == 60 then codes "&lt;"
    else (if byte == 62 then codes "&gt;"
    else (if byte == 34 then codes "&quot;"
    else (if nat_lt byte 32 && not (byte == 10) then codes "?"
    else byte ∷ []))))

-- a text as it stands in XML
abbrev pub xml_text : List ℕ → List ℕ
xml_text text = flat_map xml_byte text
