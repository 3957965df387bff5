pub mod Decoded
pub mod Items
pub mod Shapes
