pub mod Going
pub mod Same
pub mod Count
