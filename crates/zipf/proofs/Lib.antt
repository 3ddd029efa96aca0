mod WeightLaws
mod SumLaws
