use Rattle.std.specs.Prelude.{string_bytes}
use Rattle.history_picture.specs.Pictures.{sign_text}
use Rattle.history_picture.proofs.Listing.{listed_more}
use Rattle.history_picture.proofs.escaped.on_lines.Goals as goal

pub loop-sign-preserved : goal.loop-sign-preserved
loop-sign-preserved c =
    listed_more sign_text c.args.text.now c.loop-sign.sign-index 0 (string_bytes c.loop-sign.lines) (string_bytes c.push_sign.new.text) c.loop-sign-test.true
    c.loop-sign.invariant c.in_ok-push_sign.ensures
