use Rattle.std.proofs.Common.{arith}
use Rattle.std.specs.Prelude.{string_bytes}
use Rattle.history_picture.specs.Coding.{code_of}
use Rattle.history_picture.proofs.Listing.{all_listed, listed_more}
use Rattle.history_picture.proofs.coded.codes.Goals as goal

pub loop-byte-preserved : goal.loop-byte-preserved
loop-byte-preserved c =
    listed_more code_of c.args.bytes.now c.loop-byte.byte-index 0 (string_bytes c.loop-byte.word) (string_bytes c.push_code.new.word) c.loop-byte-test.true
    c.loop-byte.invariant c.in_ok-push_code.ensures

pub returns : goal.returns
returns c =
    all_listed code_of c.args.bytes.now c.loop-byte.byte-index (string_bytes c.loop-byte.word) (omega (arith, c.loop-byte-test.false)) c.loop-byte.invariant
