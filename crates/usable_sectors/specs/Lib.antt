pub mod UsableSectors
