mod Ran
mod Widths
