-- The values of the nodes as the code keeps them, and how they stand for the definitions of crates/rules.
pub mod Value
pub mod Nodes
pub mod Write
pub mod Entry
