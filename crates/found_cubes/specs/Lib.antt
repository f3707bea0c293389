pub mod CubesOnRecord
