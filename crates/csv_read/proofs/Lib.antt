pub mod Cut
pub mod FormLaws
pub mod Reading
pub mod Formed
pub mod Checked
