-- The lemmas of this crate.
mod Tries
mod Decisions
mod Keeping
mod Serving
mod Deciding
mod Staging
mod Telling
mod Sessions
mod Publishing
mod Checking
mod Turns
mod Reading
mod OnePrint
mod EachPrint
mod Tops
