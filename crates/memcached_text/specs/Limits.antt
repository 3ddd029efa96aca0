-- What bounds the length of an answer: its key and flags are those of a line, and its numbers have so many bits.
use Rattle.std.specs.Prelude.{◌≡◌, ◌<◌, ◌≤◌, ◌^◌, ℕ, List, [], length, None, IfSome}
use Rattle.memcached_text.specs.declared.meta_answer.MetaFields.{MetaFields}
use Rattle.memcached_text.specs.declared.meta_answer.MetaStatus.{MetaStatus}
use Rattle.memcached_text.specs.declared.meta_answer.MetaStatus.TheVariants as statuses
use Rattle.memcached_text.specs.declared.meta_answer.Ttl.{Ttl}
use Rattle.memcached_text.specs.declared.meta_answer.Ttl.TheVariants.{Unlimited, Seconds}
use Rattle.memcached_text.specs.Asked.{Asked, AskMeta}
use Rattle.memcached_text.specs.Meta.{gravest}
use Rattle.memcached_text.specs.Steps.{Told, TellRequest, TellData, TellTooLarge}
use Rattle.memcached_text.specs.Words.{words_of}

-- flags without a fault: each letter stands once, and an opaque token has at most 32 bytes with its letter
abbrev pub AreFlags : List ℕ → Type 0
AreFlags flags = gravest [] None (words_of flags) ≡ None

-- the flags of what is asked for, if there are some, have no fault
abbrev pub HasFlags : Asked → Type 0
HasFlags (AskMeta meta) = AreFlags meta.flags
HasFlags _ = Unit {0}

-- so of a request that a reader gives
abbrev pub GivesFlags : Told → Type 0
GivesFlags (TellRequest asked) = HasFlags asked
GivesFlags (TellData asked block) = HasFlags asked
GivesFlags (TellTooLarge asked) = HasFlags asked
GivesFlags _ = Unit {0}

-- the seconds that an item lives have 32 bits
abbrev pub IsTtl : Ttl → Type 0
IsTtl Unlimited = Unit {0}
IsTtl (Seconds seconds) = seconds < 2 ^ 32

-- what can be returned of an item: its key has at most 255 bytes, and its numbers have so many bits
pub record AreFields (fields : MetaFields) : Type 0 where
  pub key : length fields.key.now ≤ 255
  pub cas : IfSome fields.cas (λ n. n < 2 ^ 64)
  pub flags : IfSome fields.flags (λ n. n < 2 ^ 32)
  pub size : IfSome fields.size (λ n. n < 2 ^ 32)
  pub last_used : IfSome fields.last_used (λ n. n < 2 ^ 32)
  pub ttl : IfSome fields.ttl IsTtl

-- the value that is answered, if there is one, has at most so many bytes
abbrev pub IsBlockWithin : ℕ → MetaStatus → Type 0
IsBlockWithin most (statuses.Value block) = length block.now ≤ most
IsBlockWithin most _ = Unit {0}
