pub mod Said
pub mod Marking
pub mod Deciding
pub mod EachOne
pub mod Within
pub mod AtStart
