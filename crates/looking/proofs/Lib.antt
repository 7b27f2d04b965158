pub mod Early
pub mod Due
pub mod HomesLie
pub mod OwnWords
pub mod Looking
pub mod SlotOf
