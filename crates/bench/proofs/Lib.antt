mod Bytes
mod Chunks
mod Telling
mod Runs
