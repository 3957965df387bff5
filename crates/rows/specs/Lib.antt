pub mod Decimal
pub mod Put
pub mod Row
pub mod Rows
