pub mod SlotBySlot
pub mod Foresight
