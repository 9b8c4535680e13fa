pub mod Cursors
pub mod Forms
pub mod Refusals
pub mod Replies
pub mod Sessions
pub mod Octets
pub mod Lines
