pub mod RemovalLaws
pub mod OpenedWell
pub mod MemoryLaws
pub mod RowsLaws
mod ForkedMemory
pub mod UndoLaws
pub mod SettleLaws
pub mod StepLaws
pub mod CountLaws
pub mod BackLaws
pub mod UnfoldLaws
pub mod UnfoldedMemory
pub mod LinkedLaws
pub mod UndoneLaws
pub mod GiveBackLaws
mod CheckedTrees
pub mod TrueLaws
mod HoldingLaws
mod SeenLaws
pub mod LinkingLaws
pub mod LinkUpLaws
pub mod DropLaws
pub mod EndLaws
pub mod FirstLaws
pub mod SweptLaws
pub mod EndingRows
pub mod MovedRows
pub mod EndedMemory
pub mod EndedThen
pub mod KeptLogs
pub mod EndedForks
pub mod CheckedMemory
pub mod TakenOver
pub mod LeafSettled
pub mod UndoTables
pub mod TrackedLaws
pub mod DroppedChecks
pub mod StandingLaws
pub mod GoodLaws
pub mod GoodBehind
pub mod PiecesLaws
pub mod OpenedLogs
pub mod FewLogs
pub mod MemoryLogs
pub mod OpenedOn
pub mod DroppedThen
pub mod StoppedLaws
pub mod LogsRead
