pub mod ClearingDecided
