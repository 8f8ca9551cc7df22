-- in the order in which to read: texts that are cut, updates and addresses; the command and what is kept of it
pub mod TextCuts
pub mod UpdatesReread
pub mod AddressCuts
pub mod ParsedCommands
pub mod KeptTexts
pub mod PortNumbers
pub mod UpdateLists
-- in the order in which to read; the list beside a folder says what the folder holds
pub mod Files
pub mod Stages
