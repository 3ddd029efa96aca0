mod Drawing
mod Ranges
mod TopLaws
mod SumLaws
mod CountLaws
mod HoldingLaws
mod Units
