pub mod Told
pub mod Opening
pub mod Records
pub mod Reports
pub mod Running
