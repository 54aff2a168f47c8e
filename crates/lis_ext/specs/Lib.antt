pub mod Numbers
pub mod Ext
pub mod Stride
pub mod Inside
