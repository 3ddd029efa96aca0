mod Sound
mod Growing
mod Coming
