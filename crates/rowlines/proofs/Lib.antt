pub mod RowsDecided
