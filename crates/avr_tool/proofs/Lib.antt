-- in the order in which to read; the list beside a folder says what the folder holds
pub mod Printed
-- a session over any link
pub mod Each
pub mod Leads
pub mod Real
pub mod Lines
pub mod StepData
pub mod Hosts
pub mod WriteOperations
pub mod Emulated
pub mod Plans
pub mod Memories
pub mod OverFaultyLink
pub mod Bounds
pub mod Sure
pub mod OverExchanges
pub mod WirePlays
-- chips of files; serving: transcripts and replies, a piece and its replies, read after read; a run over the emulator
pub mod Chips
pub mod Transcripts
pub mod LaterReplies
pub mod Replies
pub mod ReadByRead
pub mod ServedRuns
pub mod Emulating
-- the record of a desk of six calls
pub mod Reopened
-- planning and session as one run
pub mod Runs
