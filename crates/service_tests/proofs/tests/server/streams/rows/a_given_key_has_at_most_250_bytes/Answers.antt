-- A key that is told among keys has 1 to 250 bytes.
use Rattle.std.proofs.Common.{◌∙◌, ap, subst, sym}
use Rattle.memcached_text.specs.declared.reader_state.ReaderState.{ReaderState}
use Rattle.memcached_text.specs.declared.stream_event.StreamEvent.{StreamEvent}
use Rattle.memcached_text.specs.Steps.{Outcome, event_shown, step_of}
use Rattle.service_tests.proofs.ReaderRows.{IsKeyTold, keys_told}
use Rattle.service_tests.proofs.tests.server.streams.rows.a_given_key_has_at_most_250_bytes.Goals as goal

pub returns : goal.returns
returns c =
    let most = c.args.reader.now.max_data_len in
    let bytes = c.args.bytes.now in
    let is = c.take.ensures.exact ∙ ap (λ (s : ReaderState). step_of most s bytes) c.in-Keys.is in
    let told = subst (λ (o : Outcome). IsKeyTold o.told) (sym is) (keys_told most c.in-Keys.exptime c.in-Keys.with_cas bytes) in
    let key = subst (λ (e : StreamEvent). IsKeyTold (event_shown e)) c.in-Key.is told in
    record { least = key.0; most = key.1 }
