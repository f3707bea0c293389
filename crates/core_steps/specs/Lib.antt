pub mod Boxes
pub mod Histories
pub mod Holding
pub mod OnCore
pub mod Seats
pub mod StepAnswers
pub mod Totals
