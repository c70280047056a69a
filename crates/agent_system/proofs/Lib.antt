mod Mounted
mod Numbers
mod Refusals
mod Saying
mod SetAside
mod Taking
mod Whole
