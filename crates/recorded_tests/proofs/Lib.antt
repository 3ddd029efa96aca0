mod BookRows
mod FinishRow
mod Rising
