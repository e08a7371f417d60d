pub mod WorkedRows
pub mod Repositories
pub mod FailingTables
pub mod FailingMemory
pub mod FailingSectors
