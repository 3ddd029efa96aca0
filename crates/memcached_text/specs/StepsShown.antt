-- What a step gives, without the borrow of its bytes.
use Rattle.memcached_text.specs.declared.request_reader.Given.{Given}
use Rattle.memcached_text.specs.declared.request_reader.Passed.{Passed}
use Rattle.memcached_text.specs.Steps.{Outcome, Passing, event_shown}

abbrev pub outcome_shown : Given → Outcome
outcome_shown given = record { taken = given.taken; told = event_shown given.event; state = given.state }

abbrev pub passing_shown : Passed → Passing
passing_shown passed = record { count = passed.count; state = passed.state }
