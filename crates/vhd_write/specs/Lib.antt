pub mod Marks
pub mod Passes
pub mod Payloads
pub mod Spans
pub mod WritePlaces
pub mod WriteSpans
