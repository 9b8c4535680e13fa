pub mod Channels
pub mod Refusals
pub mod Places
pub mod Lines
pub mod WaitingLines
pub mod Wires
pub mod Gates
