pub mod CellsLemmas
pub mod WorldLemmas
pub mod CallsLemmas
pub mod SessionSums
pub mod ContentsLemmas
