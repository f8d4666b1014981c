pub mod Repeated
pub mod Breaking
pub mod Places
pub mod Apart
pub mod Gating
pub mod Passed
