pub mod AtEar
