-- What a story says of its session: what has begun, the text of its replies, and what each form of words tells of it.
pub mod Begun
pub mod FromNothing
pub mod Rendered
pub mod Modeled
