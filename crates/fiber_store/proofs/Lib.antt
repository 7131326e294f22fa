pub mod TensorsLemmas
pub mod LatchRanges
pub mod FibersLemmas
pub mod StoresLemmas
pub mod NonzerosLemmas
pub mod WholeStores
