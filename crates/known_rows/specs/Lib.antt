-- What rows make of known entries, by the entries' numbers, and the entry at a value; what is left in lent entries, whatever the answer is; the entering of rows by its loop.
pub mod Entries
pub mod Left
pub mod Rows
