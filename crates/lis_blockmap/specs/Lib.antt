pub mod Bitmap
pub mod Inside
