pub mod Lists
pub mod Walks
pub mod Parts
pub mod Ends
pub mod Opening
pub mod Searching
pub mod Parting
pub mod Filling
