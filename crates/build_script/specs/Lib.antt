pub mod Answers
pub mod Ended
pub mod MadeOf
pub mod Making
pub mod OpenTexts
pub mod Progress
