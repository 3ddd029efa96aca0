-- A list of times owns nothing, so it may go to any thread.
use denote.Param.Send.{IsSend}
use Rattle.load.specs.contracts.times.Times.{the_row}

pub send : IsSend the_row
send = record { owned = λ d vs. ((λ vss. (tt, ((λ uss. (tt, tt)), tt))), tt); leaving = λ k f vs. tt }
