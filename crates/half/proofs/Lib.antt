pub mod Known
pub mod Rounds
pub mod Chains
