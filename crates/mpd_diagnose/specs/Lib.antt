pub mod Causes
pub mod Groups
pub mod Verdicts
pub mod Diagnosed
pub mod Modes
pub mod DiagnosisRows
