pub mod Nodes
pub mod Lends
pub mod Rows
pub mod RowLends
pub mod Inside
pub mod Claims
