-- The parts of the text.
use Rattle.std.proofs.Common.{◌++◌, ◌∙◌, ap, codes}
use Rattle.std.proofs.lemmas.Result.{IfOk-weaker}
use Rattle.std.specs.Fmt.{decimal}
use Rattle.hex.specs.Hex.{encode_lower}
use Rattle.serve_load.proofs.hit_rows.hit_text.Goals as goal

pub returns : goal.returns
returns c =
    let key = c.in_ok-key.ensures ∙ ap encode_lower c.key_bytes.ensures in
    let found = c.in_ok-found.ensures ∙ ap encode_lower c.bytes.ensures.value in
    IfOk-weaker c.format.result _ _ (λ s e. e ∙ (λ i. codes "key " ++ (key i ++ (codes " operation " ++ (decimal c.args.hit.now.operation ++ (codes " expected " ++ (c.in_ok-expected.ensures i ++ (codes " found " ++ found i)))))))) c.format.ensures.ok
