mod CellLaws
mod StoreLaws
mod DoneLaws
mod NumberLaws
mod WithinLaws
mod KeyLaws
