-- Where the fields of each record kind stand, by the names that the code has: the first byte of each, counted from 0. A field
-- ends where the next begins.
pub mod Table
pub mod Locality
pub mod Point
pub mod View
pub mod Organisation
