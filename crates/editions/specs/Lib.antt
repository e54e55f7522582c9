-- What is proved of the two editions of the network text (document 02, S-11).
-- The statements.
pub mod Statements
-- The new order of a network's nodes.
pub mod Places
pub mod NewOrder
pub mod OrderKept
-- The regrouped network.
pub mod Moved
pub mod MovedPasses
pub mod MovedRuns
pub mod Regrouped
pub mod Joined
pub mod Together
pub mod Between
pub mod MovedDepths
pub mod SameStats
-- Edition 2 written and read back.
pub mod Lines2
pub mod NodeLines
pub mod Written2
pub mod ReadBack2
-- What was read is what would be written.
pub mod Undo
pub mod UndoForms
pub mod UndoLines
pub mod Admitted2
pub mod Said2
pub mod PlainText
-- The statements proved.
pub mod WrittenEach
