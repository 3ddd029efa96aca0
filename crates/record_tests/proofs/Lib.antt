mod RowLaws
mod TracesRowLaws
mod VerdictLaws
