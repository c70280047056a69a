mod Ports
mod Opened
