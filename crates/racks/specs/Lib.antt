pub mod RackFault
pub mod Rack
pub mod RackText
