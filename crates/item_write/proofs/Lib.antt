pub mod Laws
pub mod Headed
