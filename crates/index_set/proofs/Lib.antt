pub mod Each
pub mod Frame
pub mod Walk
pub mod Banning
pub mod FreePlaces
pub mod Placing
pub mod ByKind
pub mod Coming
pub mod Refilled
pub mod Reading
pub mod Moving
pub mod Stores
pub mod Uniques
pub mod Members
pub mod Keys
pub mod Written
pub mod UniqueSteps
pub mod StaysUnique
pub mod Emptied
pub mod Sinking
pub mod Clashing
pub mod Building
pub mod Rekeyed
pub mod FreeColumn
pub mod Joining
pub mod Dropping
mod Beside
pub mod Kept
pub mod Clashless
pub mod MarksKept
mod Refilling
pub mod Holding
pub mod Others
pub mod Undone
pub mod Held
pub mod Changing
pub mod AtIndex
mod KnownPlaces
mod Putting
mod Reordered
mod Edited
