use Rattle.std.proofs.Common.{◌≡◌, ◌++◌, take}
use Rattle.judge_run.specs.Xml.{xml_text}
use Rattle.judge_run.proofs.xml.push_xml.Given as goal

abbrev pub invariant-loop-byte : goal.invariant-loop-byte
invariant-loop-byte l = l.text.items ≡ l.fn.text.items ++ xml_text (take l.byte-index l.byte-items)
