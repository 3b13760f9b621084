pub mod LineTo
