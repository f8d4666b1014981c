mod Lists
mod Maps
mod Steps
mod Whole
mod Same
mod Fitting
