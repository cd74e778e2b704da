mod Small
mod Repeats
