pub mod RackNumbers
pub mod RackLawful
pub mod Racks
pub mod RackLaws
