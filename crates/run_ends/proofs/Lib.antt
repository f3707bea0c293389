pub mod QuietCallers
pub mod MainEnds
pub mod RecordedEnds
pub mod FlusherEvents
pub mod WholeEnds
pub mod OnThreads
pub mod AllSafe
