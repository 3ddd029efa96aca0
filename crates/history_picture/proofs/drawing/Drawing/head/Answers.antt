use Rattle.std.proofs.Common.{◌++◌, ◌∙◌}
use Rattle.std.specs.Prelude.{codes}
use Rattle.std.specs.Fmt.{decimal}
use Rattle.std.proofs.lemmas.Result.{IfOk-weaker}
use Rattle.history_picture.specs.Pictures.{head_text}
use Rattle.history_picture.proofs.drawing.Drawing.head.Goals as goal

pub returns : goal.returns
unfolding head_text
returns c =
    IfOk-weaker c.format.result _ _ (λ s e. e ∙ (λ i. codes "<svg xmlns=\"http://www.w3.org/2000/svg\" width=\"" ++ (decimal (c.width-width.ensures.is i) ++ (codes "\" height=\"" ++ (decimal (c.height-height.ensures.is i)
    ++ (codes "\" font-family=\"monospace\" font-size=\"13\">\n<defs><marker id=\"point\" viewBox=\"0 0 8 8\" refX=\"8\" refY=\"4\" markerWidth=\"7\" markerHeight=\"7\" orient=\"auto\"><path d=\"M 0 0 L 8 4 L 0 8 z\" fill=\"#b3261e\"/></marker></defs>\n<rect width=\"100%\" height=\"100%\" fill=\"#ffffff\"/>\n<text y=\"6\"><tspan x=\"16\" dy=\"18\">"
    ++ (c.args.sentence.now ++ codes "</tspan></text>\n"))))))) c.format.ensures.ok
