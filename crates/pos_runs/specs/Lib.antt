pub mod Pages
pub mod Lists
pub mod Runs
