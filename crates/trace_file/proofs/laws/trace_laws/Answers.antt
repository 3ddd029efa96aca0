use Rattle.std.proofs.Common.{◌∙◌, sym}
use Rattle.trace_file.proofs.ToldApart as told
use Rattle.trace_file.proofs.laws.trace_laws.Goals as goal

pub returns-clause-read_back : goal.returns-clause-read_back
returns-clause-read_back c = told.read_back

pub returns-clause-exactly : goal.returns-clause-exactly
returns-clause-exactly c = told.exactly

pub returns-clause-one_text : goal.returns-clause-one_text
returns-clause-one_text c = λ version bytes others h p a b. a.text ∙ sym b.text

pub returns-clause-one_version : goal.returns-clause-one_version
returns-clause-one_version c = told.one_version

pub returns-clause-one_pair : goal.returns-clause-one_pair
returns-clause-one_pair c = told.one_pair

pub returns-clause-no_front : goal.returns-clause-no_front
returns-clause-no_front c = told.no_front
