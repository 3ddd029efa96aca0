use Rattle.trace_file.proofs.Meetings.{standing_is_met}
use Rattle.trace_file.proofs.Standings.{fault_stands}
use Rattle.trace_file.proofs.ToldApart as told
use Rattle.trace_file.proofs.laws.fault_laws.Goals as goal

pub returns-clause-stands : goal.returns-clause-stands
returns-clause-stands c = λ bytes fault are. (fault_stands bytes fault are, standing_is_met bytes fault)

pub returns-clause-stays : goal.returns-clause-stays
returns-clause-stays c = told.stays

pub returns-clause-no_trace : goal.returns-clause-no_trace
returns-clause-no_trace c = told.no_trace

pub returns-clause-trailing : goal.returns-clause-trailing
returns-clause-trailing c = told.trailing

pub returns-clause-cut : goal.returns-clause-cut
returns-clause-cut c = told.cut
