pub mod InColumns
