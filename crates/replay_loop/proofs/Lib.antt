pub mod Goes
pub mod Handed
