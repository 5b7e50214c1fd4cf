pub mod Spelling
pub mod Buffer
pub mod Answer
pub mod Pieces
pub mod Ready
pub mod Printed
pub mod Plain
