pub mod Choose
pub mod Masks
pub mod Groups
pub mod Split
pub mod Refusals
pub mod Answers
pub mod Laws
pub mod Examples
