use Rattle.history_text.proofs.CodingLaws.{word_reads, words_apart}
use Rattle.history_text.proofs.laws.word_laws.Goals as goal

pub returns : goal.returns
returns c = record { back = word_reads; apart = words_apart }
