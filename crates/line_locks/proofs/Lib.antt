pub mod Alike
pub mod Joining
pub mod Ending
pub mod WalksEnd
pub mod PlansEnd
pub mod Edited
pub mod NamesEnd
pub mod RenamesEnd
pub mod FilesEnd
pub mod AllEnd
pub mod Trails
pub mod Covered
pub mod LinesEnd
pub mod AtHand
pub mod Numbers
mod SetCovers
