-- Texts of states, and lines and their answers.
pub mod Answers
pub mod FaultText
pub mod Lines
pub mod Modes
pub mod Texts
pub mod Words
