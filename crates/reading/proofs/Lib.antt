pub mod Basics
pub mod Stacks
pub mod Behind
pub mod Stepping
pub mod Accepting
pub mod Sound
pub mod Uppers
pub mod Cuts
pub mod Diving
pub mod Lifting
pub mod Advancing
pub mod Complete
pub mod Contexts
pub mod Written
pub mod Bounds
pub mod Once
pub mod Spans
pub mod Counting
pub mod Outcome
pub mod Live
pub mod Answered
pub mod Limits
pub mod Ended
pub mod Granted
pub mod Built
mod Downs
mod Remaining
mod Running
mod Underway
