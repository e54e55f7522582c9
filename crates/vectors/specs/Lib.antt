-- Numbers of a text, as the programs that replay stored cases read them.
pub mod Token
pub mod Shorter
pub mod Numbers
pub mod NumbersOrZero
