pub mod RefusalsDecided
