-- A line that was taken is the first one, and what is left stands after it.
use Rattle.std.proofs.Common.{◌≡◌, [], ◌+◌, length, take, min, rules}
use Rattle.script_words.proofs.FirstLine.{takes}
use Rattle.script_words.proofs.read_ahead.ReadAhead.take_line.Goals as goal

pub returns-clause-takes : goal.returns-clause-takes
returns-clause-takes g c =
    let ahead = c.ahead-ahead.result.now in
    let some : ahead ≡ [] → ⊥ = search rules in
    let taken : c.extend_from_slice.new.self.items ≡ take c.line_len-len.result ahead = search rules in
    let through : c.min-self-inside.result ≡ min (c.self.inside.at + c.line_len-len.result + 1) (length c.self.inside.bytes.items) = search rules in
    takes g.row.LINE c.args.self.now c.self.inside.bytes.items ahead c.extend_from_slice.new.self.items c.self.inside.at c.line_len-len.result c.min-self-inside.result c.self.inside.over through c.self.view_is c.ahead-ahead.ensures.value some c.line_len-len.ensures.value c.if-len.false taken
