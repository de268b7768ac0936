mod Promised
mod Growing
