mod Alone
mod Begun
mod OpenedLater
mod Telling
