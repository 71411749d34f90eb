pub mod Sale
