pub mod KeyPlaces
