pub mod RecordedImages
pub mod AtEveryMoment
