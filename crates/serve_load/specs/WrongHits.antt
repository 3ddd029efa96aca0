-- What is told of a hit that was wrong.
use Rattle.std.specs.Prelude.{ℕ, ◌-◌, List, ◌++◌, Option, Some, None, codes, map, ◌==◌, nat_lt, if◌then◌else◌}
use Rattle.std.specs.Fmt.{decimal}
use Rattle.hex.specs.Hex.{encode_lower}
use Rattle.figures.specs.Figures.{Row, row, word}
use Rattle.load.specs.declared.serve_load.ServeLoad.{ServeLoad}
use Rattle.serve_load.specs.declared.told_hit.ToldHit.{ToldHit}
use Rattle.serve_load.specs.Objects.{expires_of, key_of, moment_of, value_of}

-- the bytes that a hit of a key would have had to have: none if the key has no value, or if its value is expired
abbrev pub expected_by : ServeLoad → ℕ → ℕ → ℕ → Option (List ℕ)
expected_by load key known moment =
    if known == 0 then None
    else (if nat_lt moment (expires_of load (known - 1)) then Some (value_of load.value_bytes key (known - 1)) else None)

abbrev pub expected_of : ServeLoad → ToldHit → Option (List ℕ)
expected_of load hit = expected_by load hit.known.key hit.known.word (moment_of load hit.operation)

-- the same as text: two digits for each byte
abbrev pub expected_text : Option (List ℕ) → List ℕ
expected_text None = codes "none"
expected_text (Some bytes) = encode_lower bytes

-- the key that was looked up, the number of the operation, the bytes that were expected, and those that were found
abbrev pub hit_text : ServeLoad → ToldHit → List ℕ
hit_text load hit =
    codes "key " ++ (encode_lower (key_of hit.caller hit.known.key)
    ++ (codes " operation " ++ (decimal hit.operation
    ++ (codes " expected " ++ (expected_text (expected_of load hit)
    ++ (codes " found " ++ encode_lower hit.found))))))

-- a row by the caller, which has one wrong hit at the most
abbrev pub hit_row : ServeLoad → ToldHit → Row
hit_row load hit = row (codes "wrong-hit-of-caller-" ++ decimal hit.caller) (word (hit_text load hit))

abbrev pub hit_rows : ServeLoad → List ToldHit → List Row
hit_rows load hits = map (hit_row load) hits
