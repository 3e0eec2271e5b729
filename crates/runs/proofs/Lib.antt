mod Turns
mod Timing
mod Wholes
mod Shorts
