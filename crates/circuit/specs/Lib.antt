-- What a circuit's reader says, line by line.
pub mod View
pub mod Took
pub mod Reading
