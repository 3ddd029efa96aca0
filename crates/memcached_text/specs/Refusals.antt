-- What belongs to a line that is refused.
use Rattle.std.specs.Prelude.{ℕ, false, List, Option, Some, None}
use Rattle.memcached_text.specs.declared.line_error.LineError.{LineError}
use Rattle.memcached_text.specs.declared.line_refusal.LineRefusal.{LineRefusal}
use Rattle.memcached_text.specs.declared.line_refusal.RefusedBlock.{RefusedBlock}
use Rattle.memcached_text.specs.declared.line_refusal.RefusedBlock.TheVariants.{Absent, OfLength, Unreadable}
use Rattle.memcached_text.specs.declared.verb.MetaCommand.{MetaCommand}
use Rattle.memcached_text.specs.declared.verb.MetaCommand.TheVariants as metas
use Rattle.memcached_text.specs.declared.verb.Verb.{Verb}
use Rattle.memcached_text.specs.declared.verb.Verb.TheVariants as verbs
use Rattle.memcached_text.specs.Numbers.{length_of}
use Rattle.memcached_text.specs.Words.{word_at}

-- a refusal that is answered, of a line without a data block
abbrev pub loud : LineError → LineRefusal
loud fault = record { fault = fault; noreply = false; block = Absent }

-- the data block by its length, if that can be read
abbrev pub block_by : Option ℕ → RefusedBlock
block_by (Some length) = OfLength length
block_by None = Unreadable

-- the data block that follows the words of a classic command's line: the fifth word of one that stores is its length
abbrev pub block_after : Verb → List (List ℕ) → RefusedBlock
block_after (verbs.Store mode) words = block_by (length_of (word_at words 4))
block_after _ words = Absent

-- the same of a meta command's line: the third word of ms is the length
abbrev pub meta_block : MetaCommand → List (List ℕ) → RefusedBlock
meta_block metas.Set words = block_by (length_of (word_at words 2))
meta_block _ words = Absent
