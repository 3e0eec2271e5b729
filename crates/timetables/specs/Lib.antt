pub mod Scale
pub mod Measures
pub mod Timetable
pub mod Strata
