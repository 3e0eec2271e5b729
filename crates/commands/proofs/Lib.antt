mod Firsts
mod Asking
mod Listing
