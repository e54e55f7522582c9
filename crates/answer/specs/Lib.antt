-- What the service prints, in the front of a buffer.
pub mod Front
pub mod Answer
