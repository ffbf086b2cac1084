pub mod ReadingLaws
pub mod FormLaws
pub mod WritingLaws
pub mod ComparingLaws
pub mod ReckoningLaws
pub mod EntryLaws
pub mod Settled
