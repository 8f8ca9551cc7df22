-- A desk in memory: its state in contracts, and the bytes that a name means.
use Rattle.std.specs.Prelude.{ℕ, List, [], ◌++◌, drop, length, Option, Some, None, if◌then◌else◌}
use Rattle.avr_io.specs.Record.{DeskState, Record, Bytes, all_files, nothing_kept, showing}
use Rattle.avr_io.specs.Named.{bytes_given, is_dash, newest}
use Rattle.avr_io.specs.declared.record.Writing.{Writing}

-- Beside what any desk shows: the standard input, the files put there, and all bytes of the file opened last.
pub record MemDeskState : Type 0 where
  pub kept : Record
  pub failures : ℕ
  pub message_failures : ℕ
  pub input : Bytes
  pub stored : List Writing
  pub opened : Bytes

-- a desk in memory with this standard input and no files
abbrev pub fresh_desk : Bytes → MemDeskState
fresh_desk input =
    record { kept = nothing_kept; failures = 0; message_failures = 0; input = input; stored = []; opened = [] }

-- the state that contracts see of any desk
abbrev pub memory_state : MemDeskState → DeskState
memory_state m = showing m.kept m.failures m.message_failures

-- `old` with this record and the count of failures of `new`. All else stays, the failures at the messages, too.
abbrev pub updated : Record → MemDeskState → MemDeskState → MemDeskState
updated kept old new = record old { kept = kept; failures = new.failures }

-- what the desk began with
pub record Stock : Type 0 where
  pub input : Bytes
  pub files : List Writing

-- what this desk began with
abbrev pub stock_of : MemDeskState → Stock
stock_of m = record { input = m.input; files = m.stored }

-- The bytes that a name means after these files were made: those of the newest file of this name. `-` is the input.
abbrev pub content_of_name : Stock → List Writing → Bytes → Option Bytes
content_of_name stock made name = if is_dash name then Some stock.input else newest name None (stock.files ++ made)

-- the same, after all files that the desk has made
abbrev pub contents : Bytes → MemDeskState → Option Bytes
contents name m = content_of_name (stock_of m) (all_files m.kept) name

-- what the open file has not given yet
abbrev pub unread_bytes : MemDeskState → Bytes
unread_bytes m = drop (length (bytes_given m.kept.current)) m.opened
