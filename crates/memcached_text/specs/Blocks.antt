-- Which bytes of a stream are the first bytes of requests, and which belong to data blocks.
use Rattle.std.specs.Prelude.{◌≡◌, ◌<◌, ◌≤◌, ◌+◌, ℕ, Bool, true, false, ◌&&◌, nat_lt, if◌then◌else◌, List, [], ◌∷◌, length, take, drop, fold, position, AllPairs, Option, Some, None}
use Rattle.memcached_text.specs.declared.reader_state.ReaderState.{ReaderState}
use Rattle.memcached_text.specs.declared.reader_state.ReaderState.TheVariants.{Line, Keys, SkipLine, SkipData, Closed}
use Rattle.memcached_text.specs.declared.verb.MetaCommand.{MetaCommand}
use Rattle.memcached_text.specs.declared.verb.MetaCommand.TheVariants as metas
use Rattle.memcached_text.specs.declared.verb.Verb.{Verb}
use Rattle.memcached_text.specs.declared.verb.Verb.TheVariants as verbs
use Rattle.memcached_text.specs.Numbers.{length_of}
use Rattle.memcached_text.specs.Steps.{Passing, is_feed, without_return, passing, step_of}
use Rattle.memcached_text.specs.Verbs.{verb_of, meta_of}
use Rattle.memcached_text.specs.Words.{words_of, word_at}

-- the length of the data block that words announce, by the command that the first one names: the third word of ms, the fifth of a
-- classic command that stores
abbrev pub announced_by : Option MetaCommand → Option Verb → List (List ℕ) → Option ℕ
announced_by (Some metas.Set) verb words = length_of (word_at words 2)
announced_by None (Some (verbs.Store mode)) words = length_of (word_at words 4)
announced_by _ _ words = None

-- the length of the data block that a line announces, if its command stores and its word for the length can be read
abbrev pub announced : List ℕ → Option ℕ
announced line = announced_by (meta_of (word_at (words_of line) 0)) (verb_of (word_at (words_of line) 0)) (words_of line)

-- where a reader of a stream stands: after so many bytes, and in which state; and where the requests began that it met, the last one first
pub record Progress : Type 0 where
  pub at : ℕ
  pub state : ReaderState
  pub begun : List ℕ

abbrev pub is_line : ReaderState → Bool
is_line Line = true
is_line (Keys exptime cas) = false
is_line SkipLine = false
is_line (SkipData n) = false
is_line Closed = false

-- a request begins after what is passed over, if the reader is at the start of a line there and a byte is at hand
abbrev pub begun_by : ℕ → Passing → List ℕ → List ℕ → List ℕ
begun_by at passed bytes begun = if is_line passed.state && nat_lt passed.count (length bytes) then (at + passed.count) ∷ begun else begun

-- a step over so many bytes of the stream as are at hand
abbrev pub fed : ℕ → List ℕ → Progress → ℕ → Progress
fed most stream p n =
    let bytes = take n (drop p.at stream) in
    let o = step_of most p.state bytes in
    record { at = p.at + o.taken; state = o.state; begun = begun_by p.at (passing p.state bytes) bytes p.begun }

-- a stream is read from its start on, cut anywhere: so many bytes are at hand at each step
abbrev pub read_in : ℕ → List ℕ → List ℕ → Progress
read_in most stream cuts = fold (fed most stream) (record { at = 0; state = Line; begun = [] }) cuts

-- the line that begins at a byte of a stream, and has its feed so many bytes later, announces a data block of this length
pub record Announces (stream : List ℕ) (at feed len : ℕ) : Type 0 where
  pub feed_is : position is_feed (take 2049 (drop at stream)) ≡ Some feed
  pub length_is : announced (without_return (take feed (drop at stream))) ≡ Some len

-- a later request begins neither in the data block that the line of an earlier one announces nor in the block's line end
pub record IsClear (stream : List ℕ) (earlier later : ℕ) : Type 0 where
  pub order : earlier ≤ later
  pub block : (feed len : ℕ) → Announces stream earlier feed len → earlier < later → earlier + (feed + 1 + len + 2) ≤ later

-- however a stream is cut, no byte of a data block of a line with a readable length is the first byte of a request
abbrev pub NoBlockIsRead : Type 0
NoBlockIsRead = (most : ℕ) (stream cuts : List ℕ) → AllPairs (λ later earlier. IsClear stream earlier later) (read_in most stream cuts).begun
