mod Lines
mod Seats
mod Workers
mod Older
mod Apart
mod Carried
mod CarriedPosts
pub mod ScenePosts
pub mod SceneSees
pub mod SceneSteps
pub mod SceneGrowth
pub mod SceneRecords
pub mod SceneCounted
pub mod SceneStarts
pub mod SceneRuns
pub mod Pieces
pub mod Numbers
pub mod Words
pub mod Calls
pub mod Statements
pub mod Whole
pub mod MadeText
pub mod MadeLength
pub mod Ranges
pub mod MadeWords
pub mod MadeOrder
pub mod Generated
pub mod Said
pub mod SaidWords
pub mod SaidLines
pub mod SaidWhole
pub mod Added
pub mod Members
pub mod Texts
pub mod TextLines
pub mod Fits
pub mod ReadRuns
pub mod Honest
