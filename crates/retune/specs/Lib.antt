-- What a call answers, what the rest of a mapping gives from a state, and what is proved of a state that was kept.
pub mod Reply
pub mod Rest
pub mod First
pub mod Safety
pub mod Served
