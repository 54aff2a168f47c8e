pub mod LineLemmas
pub mod TokenLemmas
pub mod MailLemmas
pub mod HeaderLemmas
mod Examples
