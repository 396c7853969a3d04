mod Names
pub mod AlikeLaws
pub mod ChunkLaws
pub mod LineLaws
pub mod MarkLaws
pub mod PrintLaws
pub mod ProgressLaws
pub mod RecordLaws
pub mod SampleLaws
pub mod TraceLaws
pub mod WalkLaws
pub mod WithinLaws
