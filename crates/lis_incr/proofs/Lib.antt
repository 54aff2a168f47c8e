mod Found
mod Marked
mod Tops
mod Shown
mod Routes
mod Own
mod Firsts
