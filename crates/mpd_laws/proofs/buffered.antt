-- Buffers and their slots.
pub mod SendsDone
pub mod Slots
pub mod SlotsHeld
