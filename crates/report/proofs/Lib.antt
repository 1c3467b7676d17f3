mod Filling
mod Growing
mod Telling
