-- What the code keeps of one line of a circuit, and how that stands for the line that crates/rules reads and judges.
pub mod Settings
pub mod WiresRead
pub mod Brief
pub mod LineRead
