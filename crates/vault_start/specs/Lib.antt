pub mod Start
pub mod Laws
