pub mod Common
mod Wiping
pub mod Needs
mod SpotKinds
mod WordsRead
mod Gathering
mod BlocksRead
mod BitmapRead
mod FilesRead
mod Once
mod Joined
mod AxiomsRead
mod Descriptions
mod ContentRead
mod Damage
mod Lefts
mod AllRead
mod Opening
mod Unwritten
mod Shut
mod Upgraded
mod ReadOn
