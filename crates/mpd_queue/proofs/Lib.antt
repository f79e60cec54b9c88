pub mod Places
pub mod Chains
pub mod Written
pub mod AllLists
pub mod Spots
pub mod Methods
