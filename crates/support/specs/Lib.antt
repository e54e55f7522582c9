-- Sources and rows: where a source stands, and which row of a cone a row over more sources is.
pub mod Rows
pub mod Support
