-- Text inside of a picture.
use Rattle.std.specs.Prelude.{ℕ, List, [], ◌∷◌, ◌==◌, ◌&&◌, nat_lt, codes, if◌then◌else◌}

-- a byte in XML: the signs that mean something there escaped, and a question mark for what is not printable
abbrev pub escape_of : ℕ → List ℕ
escape_of byte =
    if byte == 38 then codes "&amp;" else (if byte == 60 then codes "&lt;" else (if byte == 62 then codes "&gt;"
    else (if byte == 34 then codes "&quot;" else (if byte == 39 then codes "&#39;"
    else (if nat_lt 31 byte && nat_lt byte 127 then byte ∷ [] else codes "?")))))
