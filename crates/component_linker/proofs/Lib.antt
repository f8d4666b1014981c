pub mod Files
pub mod Opened
pub mod Handing
pub mod Answering
pub mod Performing
