-- The definitions of phases as the machine reckons them.
pub mod Reckoned
