-- That ours meets each demand.
pub mod Refusing
pub mod Starting
pub mod Answering
pub mod Ticks
pub mod Clocks
pub mod Table
pub mod Delivering
pub mod Tracing
pub mod Running
pub mod Framing
pub mod Removing
pub mod Copying
pub mod Accounts
pub mod Slices
pub mod Waiting
pub mod All
