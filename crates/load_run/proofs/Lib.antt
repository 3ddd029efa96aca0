mod Calling
mod Counting
mod Saying
