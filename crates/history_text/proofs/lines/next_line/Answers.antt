use Rattle.history_text.proofs.LineLaws.{ahead_same, at_end, gives, still_ahead, takes_off}
use Rattle.history_text.proofs.lines.next_line.Goals as goal

pub returns-in-Ok-clause-given : goal.returns-in-Ok-clause-given
returns-in-Ok-clause-given g c =
    gives c.args.ahead.now c.make_ready.new.ahead c.take_line.new.self (g.R.Read.remaining c.args.reader.now) (g.R.Read.remaining c.make_ready.new.reader) c.in-Ok.read c.take_line.new.line.items c.in_ok-make_ready.ensures.ready c.in_ok-make_ready.ensures.ahead c.in_ok-make_ready.ensures.kept c.in-Ok.ensures.takes

pub returns-in-Ok-clause-ahead : goal.returns-in-Ok-clause-ahead
returns-in-Ok-clause-ahead g c =
    still_ahead c.make_ready.new.ahead c.take_line.new.self (g.R.Read.remaining c.make_ready.new.reader) c.in-Ok.read c.take_line.new.line.items c.in_ok-make_ready.ensures.ahead c.in-Ok.ensures.takes

pub returns-in-Ok-clause-end : goal.returns-in-Ok-clause-end
returns-in-Ok-clause-end g c =
    at_end c.make_ready.new.ahead c.take_line.new.self (g.R.Read.remaining c.make_ready.new.reader) c.in-Ok.read c.take_line.new.line.items c.in_ok-make_ready.ensures.ready c.in_ok-make_ready.ensures.ahead c.in-Ok.ensures.takes

pub returns-in-Err-clause-ahead : goal.returns-in-Err-clause-ahead
returns-in-Err-clause-ahead g c =
    ahead_same c.make_ready.new.ahead c.take_line.new.self (g.R.Read.remaining c.make_ready.new.reader) c.in-Err.ensures.err c.in_ok-make_ready.ensures.ahead

pub returns-in-Ok-clause-off : goal.returns-in-Ok-clause-off
returns-in-Ok-clause-off g c =
    takes_off c.args.ahead.now c.make_ready.new.ahead c.take_line.new.self (g.R.Read.remaining c.args.reader.now) (g.R.Read.remaining c.make_ready.new.reader) c.in-Ok.read c.take_line.new.line.items c.in_ok-make_ready.ensures.few c.in_ok-make_ready.ensures.kept c.in-Ok.ensures.takes
