mod Forms
mod Going
mod Refused
mod Opened
mod Steps
mod Tasks
