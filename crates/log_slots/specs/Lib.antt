pub mod Reading
pub mod Unread
