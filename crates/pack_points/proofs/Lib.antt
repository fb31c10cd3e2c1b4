pub mod PointLaws
pub mod FieldLaws
pub mod OffsetLaws
