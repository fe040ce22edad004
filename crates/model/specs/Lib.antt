pub mod Refusals
pub mod Entries
pub mod Model
pub mod Step
pub mod Replies
pub mod History
pub mod Laws
pub mod Tried
