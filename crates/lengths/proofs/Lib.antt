pub mod Instances
pub mod Lengthened
pub mod Settling
pub mod Weighable
pub mod Weighed
