mod Causes
mod Adding
