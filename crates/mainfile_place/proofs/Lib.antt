pub mod Written
pub mod Small
pub mod OfKind
pub mod Standing
pub mod KeyOffsets
