pub mod Firsts
pub mod Along
pub mod PacketRow
pub mod Ranking
pub mod Crediting
pub mod Sets
pub mod Answering
