pub mod Puts
mod Saying
