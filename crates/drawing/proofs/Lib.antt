mod Marking
mod Growing
mod Counting
