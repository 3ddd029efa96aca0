use Rattle.std.proofs.Common.{rules, ◌≡◌, ◌++◌, ◌∷◌, [], take, length}
use Rattle.std.specs.Int.{w16, w64, to_be_bytes}
use Rattle.record_pages.proofs.MakingLaws.{four_puts}
use Rattle.record_pages.proofs.bytes_out.put_record.Goals as goal

pub returns-clause-text : goal.returns-clause-text
returns-clause-text c =
    let lent = c.args.lent in
    let lengths : take c.put-at.result c.put-at.new.into ≡ take c.args.at c.args.into.now ++ (length lent.key.now ∷ (to_be_bytes w16 (length lent.value.now) ++ (lent.prediction ∷ []))) = search rules in
    let expires : take c.put-at-2.result c.put-at-2.new.into ≡ take c.put-at.result c.put-at.new.into ++ to_be_bytes w64 lent.expires = search rules in
    four_puts (take c.args.at c.args.into.now) _ _ _ _ _ (to_be_bytes w64 lent.expires) lent.key.now lent.value.now lengths expires c.put-at-3.ensures.text c.put.ensures.text
