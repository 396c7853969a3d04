pub mod FastLaws
pub mod NumberLaws
pub mod PutLaws
pub mod TakeLaws
pub mod WholeLaws
pub mod WriteLaws
pub mod SeenLaws
