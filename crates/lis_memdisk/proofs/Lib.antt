mod Steps
mod Picks
mod Stored
mod Redo
