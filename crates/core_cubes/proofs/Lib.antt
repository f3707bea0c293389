pub mod CallsForStatements
pub mod CallsGoOn
pub mod ExecutedBy
pub mod CubesCreated
pub mod StandingCubes
pub mod CubesFound
