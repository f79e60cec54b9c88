pub mod DebuggerFaults
pub mod Kept
pub mod Run
pub mod DebuggerViews
pub mod DebuggerWrites
pub mod Moved
pub mod DebuggerKindRows
