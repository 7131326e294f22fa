pub mod Parts
pub mod Refused
pub mod LoopOrders
pub mod Plans
pub mod Small
