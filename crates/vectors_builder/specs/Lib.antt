-- What a case of the list says, and how a reply is shown.
pub mod Shown
pub mod Filled
pub mod Case
