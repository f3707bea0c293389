mod WorkLists
mod ShardCells
mod LeftCells
mod EndedWorks
mod BeginningTasks
mod RanTasks
