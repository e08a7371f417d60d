pub mod SmallContents
pub mod SmallTables
pub mod FaultyContents
pub mod SmallOutlines
pub mod SmallOrders
