pub mod Wire
pub mod Paper
