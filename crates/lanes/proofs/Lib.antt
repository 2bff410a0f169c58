pub mod RowLaws
pub mod StripLaws
