mod News
mod Entries
mod Fronts
mod Linking
mod CopyChecks
mod RuleSearch
mod Shares
mod Creations
pub mod Books
