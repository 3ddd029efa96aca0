mod RowLaws
mod SightLaws
