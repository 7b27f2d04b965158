pub mod Aiming
