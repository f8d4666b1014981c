mod Entries
mod Places
mod Dots
mod United
