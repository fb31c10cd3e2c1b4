pub mod Texts
pub mod RowLaws
pub mod WalkLaws
pub mod OddLaws
pub mod EndLaws
pub mod StepLaws
pub mod FineLaws
