pub mod GroupLaws
pub mod PastLaws
pub mod ShortestLaws
pub mod VarintLaws
pub mod AgreeLaws
pub mod TailLaws
pub mod PaddedLaws
pub mod FlagLaws
