pub mod InMemory
