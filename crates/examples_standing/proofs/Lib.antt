pub mod EmptyContent
pub mod FaultExamples
pub mod OutlineExample
pub mod EnlargingExample
