use Rattle.std.specs.Prelude.{string_bytes}
use Rattle.history_picture.specs.Escaping.{escape_of}
use Rattle.history_picture.proofs.Listing.{listed_more}
use Rattle.history_picture.proofs.escaped.escaped.Goals as goal

pub loop-byte-preserved : goal.loop-byte-preserved
loop-byte-preserved c =
    listed_more escape_of c.as_bytes-byte-items.result.now c.loop-byte.byte-index 0 (string_bytes c.loop-byte.escaped) (string_bytes c.push_escaped.new.text) c.loop-byte-test.true
    c.loop-byte.invariant c.in_ok-push_escaped.ensures
