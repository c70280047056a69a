pub mod ForGood
