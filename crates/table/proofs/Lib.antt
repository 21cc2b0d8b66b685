mod Bests
mod Comparing
mod Expansions
mod Outlooks
mod Tries
