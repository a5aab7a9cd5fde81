pub mod TilesLaws
