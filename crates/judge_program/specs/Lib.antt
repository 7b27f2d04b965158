pub mod Dump
pub mod Standing
