-- The first line of a script: its configuration, and the first faulty field.
use Rattle.std.specs.Prelude.{ℕ, List, [], ◌==◌, if◌then◌else◌, Option, Some, None, codes, option_and_then, option_map, slice_index_or}
use Rattle.record_pages.specs.declared.config.Config.{Config}
use Rattle.record_pages.specs.declared.field.Field.{Field}
use Rattle.record_pages.specs.declared.field.Field.TheVariants.{Lanes}
use Rattle.record_pages.specs.Table.{first_faulty}
use Rattle.script_words.specs.Words.{words_of, number_of}
use Rattle.script_words.specs.Commands.{is_named}

-- the number that a word of the line writes
unfoldable pub number_at : List (List ℕ) → ℕ → Option ℕ
number_at words i = number_of (slice_index_or words i [])

-- the configuration of eight numbers
abbrev pub config_from : List (List ℕ) → Option Config
config_from words =
    option_and_then (λ lanes. option_and_then (λ sets. option_and_then (λ memory. option_and_then (λ segments.
    option_and_then (λ pages. option_and_then (λ entries. option_and_then (λ threshold. option_map (λ admit.
    record {
      lanes = lanes;
      sets = sets;
      memory = memory;
      segments = segments;
      segment_pages = pages;
      entries = entries;
      threshold = threshold;
      admit = admit;
    })
    (number_at words 8)) (number_at words 7)) (number_at words 6)) (number_at words 5))
    (number_at words 4)) (number_at words 3)) (number_at words 2)) (number_at words 1)

-- config and eight numbers
abbrev pub config_of_words : List (List ℕ) → Option Config
config_of_words words = if is_named words 9 (codes "config") then config_from words else None

-- the configuration that a line spells, if it spells one
abbrev pub config_of : List ℕ → Option Config
config_of line = option_and_then config_of_words (words_of line)

-- if no field is out of its range, more than one lane is faulty: a script has one
abbrev pub one_lane : Config → Option Field → Option Field
one_lane config None = if config.lanes == 1 then None else Some Lanes
one_lane config (Some field) = Some field

-- the first faulty field of a script's configuration, if there is one
abbrev pub faulty : Config → Option Field
faulty config = one_lane config (first_faulty config)
