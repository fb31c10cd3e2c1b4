pub mod RowLaws
pub mod ShownLaws
