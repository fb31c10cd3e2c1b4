pub mod Nine
