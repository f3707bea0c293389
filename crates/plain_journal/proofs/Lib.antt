pub mod LaterPlaces
