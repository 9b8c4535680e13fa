pub mod Sets
pub mod Standings
pub mod Packets
pub mod Hearings
pub mod Senders
pub mod Windows
