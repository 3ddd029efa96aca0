use Rattle.std.proofs.Common.{length, subst, rules}
use Rattle.std.specs.Io.KnownBytes.{Appends}
use Rattle.trace_file.specs.Sending.{Begun}
use Rattle.trace_file.specs.declared.version.Version.TheVariants.{Timed}
use Rattle.trace_file.specs.Text.{text_of}
use Rattle.trace_file.proofs.public_laws.SendLaws.{header_put, stopped_in_calls, stopped_in_positions, all_put, sent_whole, begun_more}
use Rattle.trace_file.proofs.to_writer.send.Goals as goal

pub returns-in-Err-clause-err : goal.returns-in-Err-clause-err
returns-in-Err-clause-err g c =
    let a = g.W.Write.contents c.args.writer.now in
    let h = c.args.history.now in
    let p = c.args.certificate.now in
    let is = header_put c.new-buffer.result c.push.new.self c.push-2.new.self (length h) c.new-buffer.ensures c.push.ensures (search rules) in
    stopped_in_calls h p c.push-2.new.self is a (g.W.Write.contents c.send_calls.new.writer) c.in-Err.ensures.err

pub returns-in-Err-send_positions-clause-err : goal.returns-in-Err-send_positions-clause-err
returns-in-Err-send_positions-clause-err g c =
    let a = g.W.Write.contents c.args.writer.now in
    let h = c.args.history.now in
    let p = c.args.certificate.now in
    let is = header_put c.new-buffer.result c.push.new.self c.push-2.new.self (length h) c.new-buffer.ensures c.push.ensures (search rules) in
    stopped_in_positions h p c.push-2.new.self is a (g.W.Write.contents c.send_calls.new.writer) (g.W.Write.contents c.send_positions.new.writer) c.send_calls.new.buffer c.in-Ok.ensures.ok c.in-Err-send_positions.ensures.err

pub returns-in-Ok-write_whole-clause-ok : goal.returns-in-Ok-write_whole-clause-ok
returns-in-Ok-write_whole-clause-ok g c =
    let a = g.W.Write.contents c.args.writer.now in
    let h = c.args.history.now in
    let p = c.args.certificate.now in
    let is = header_put c.new-buffer.result c.push.new.self c.push-2.new.self (length h) c.new-buffer.ensures c.push.ensures (search rules) in
    let b = g.W.Write.contents c.send_positions.new.writer in
    let d = g.W.Write.contents c.write_whole.new.writer in
    let put = all_put h p c.push-2.new.self is a (g.W.Write.contents c.send_calls.new.writer) b c.send_calls.new.buffer c.send_positions.new.buffer c.in-Ok.ensures.ok c.in-Ok-send_positions.ensures.ok in
    sent_whole a b d (text_of Timed h p) c.send_positions.new.buffer put (subst (Appends b d) c.as_slice.ensures c.in-Ok-write_whole.ensures.ok)

pub returns-in-Err-write_whole-clause-err : goal.returns-in-Err-write_whole-clause-err
returns-in-Err-write_whole-clause-err g c =
    let a = g.W.Write.contents c.args.writer.now in
    let h = c.args.history.now in
    let p = c.args.certificate.now in
    let is = header_put c.new-buffer.result c.push.new.self c.push-2.new.self (length h) c.new-buffer.ensures c.push.ensures (search rules) in
    let b = g.W.Write.contents c.send_positions.new.writer in
    let d = g.W.Write.contents c.write_whole.new.writer in
    let put = all_put h p c.push-2.new.self is a (g.W.Write.contents c.send_calls.new.writer) b c.send_calls.new.buffer c.send_positions.new.buffer c.in-Ok.ensures.ok c.in-Ok-send_positions.ensures.ok in
    begun_more a b d (text_of Timed h p) c.send_positions.new.buffer put (subst (Begun b d) c.as_slice.ensures c.in-Err-write_whole.ensures.err)
