mod Times
mod Tables
mod Alike
mod Sheets
mod OneText
