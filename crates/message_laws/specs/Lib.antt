pub mod Chunks
pub mod Laws
pub mod Breaks
pub mod ChunkFaults
