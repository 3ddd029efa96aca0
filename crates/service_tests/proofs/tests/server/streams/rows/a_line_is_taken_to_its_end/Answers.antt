-- What is told of a whole line.
use Rattle.std.proofs.Common.{◌∙◌, ap}
use Rattle.memcached_text.specs.declared.reader_state.ReaderState.{ReaderState}
use Rattle.memcached_text.specs.Steps.{Outcome, step_of}
use Rattle.service_tests.proofs.ReaderRows.{line_told}
use Rattle.service_tests.proofs.tests.server.streams.rows.a_line_is_taken_to_its_end.Goals as goal

pub returns : goal.returns
returns c = λ at there delta asked.
    let most = c.args.reader.now.max_data_len in
    let bytes = c.args.bytes.now in
    let is = c.take.ensures.exact ∙ ap (λ (s : ReaderState). step_of most s bytes) c.requires.start in
    ap (λ (o : Outcome). o.told) is ∙ line_told most bytes at delta c.requires.text there asked
