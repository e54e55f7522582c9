-- The test of all tables of a line.
pub mod Faulty
