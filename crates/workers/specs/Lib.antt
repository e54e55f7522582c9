-- Which boots were begun, as the code has them, which may begin, and the rounds.
pub mod Begun
pub mod Ready
pub mod Boots
pub mod Rounds
