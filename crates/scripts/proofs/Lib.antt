mod Numbers
mod Requests
mod Texts
mod Scripts
