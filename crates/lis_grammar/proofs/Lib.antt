mod Examples
pub mod Operands
pub mod Forth
pub mod Back
pub mod Fronts
pub mod Printed
pub mod Fits
pub mod Placed
