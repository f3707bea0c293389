pub mod Bricks
