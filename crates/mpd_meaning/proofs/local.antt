-- What decides a fault stands before it.
pub mod Local
mod LocalGrammar
pub mod NoScript
pub mod SameFault
pub mod SameTokens
pub mod TokenLines
