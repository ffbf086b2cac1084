pub mod Tables
pub mod CalendarLaws
pub mod MonthLaws
pub mod TypingLaws
pub mod NameLaws
pub mod PrintingLaws
pub mod Settled
