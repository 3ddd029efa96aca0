pub mod AnswerLengths
