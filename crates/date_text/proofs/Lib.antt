pub mod Days
pub mod Digits
pub mod OnLiterals
pub mod Passing
pub mod ReadBack
pub mod Right
mod Worked
