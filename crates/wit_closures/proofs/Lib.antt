mod Parting
mod Next
mod Reached
