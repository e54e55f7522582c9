-- What the code reads of the lines of edition 2.
pub mod Tables
pub mod View
pub mod Lines
pub mod Readers
