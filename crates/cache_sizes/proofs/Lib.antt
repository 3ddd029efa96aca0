mod DividingLaws
mod FaultLaws
mod ShapeLaws
