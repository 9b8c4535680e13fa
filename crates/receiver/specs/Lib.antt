pub mod Places
pub mod Receivers
