-- The limits, and worked examples of what is refused.
use Rattle.std.proofs.Common.{◌≡◌, [], ◌∷◌, refl, None, Err}
use Rattle.stk_frame.specs.declared.command.Command.TheVariants.{SignOn}
use Rattle.stk_frame.specs.declared.answer.FrameFault.TheVariants.{WrongLength, WrongCommand, Status}
use Rattle.stk_frame.specs.declared.protocol.TheConstants.{LARGEST_BLOCK, LARGEST_BODY, LARGEST_FRAME}
use Rattle.stk_frame.specs.Commands.{judge}
use Rattle.stk_frame.specs.Decoding.{command_of}
use Rattle.stk_frame.specs.HostCommands.{enter, read_signature}
use Rattle.stk_frame.specs.Names.{command_names, name_in, status_names}

-- the longest body, the frame around it, and the most bytes of a memory that a body has
pub limits : (LARGEST_BODY ≡ 275) × (LARGEST_FRAME ≡ 281) × (LARGEST_BLOCK ≡ 265)
limits = (refl, refl, refl)

-- bodies that aren't a command's
pub short_fuse_unread : command_of (0x17 ∷ 0xAC ∷ 0xA0 ∷ 0x00 ∷ []) ≡ None
short_fuse_unread = refl

pub long_sign_on_unread : command_of (0x01 ∷ 0x00 ∷ []) ≡ None
long_sign_on_unread = refl

pub unknown_unread : command_of (0x04 ∷ []) ≡ None
unknown_unread = refl

-- replies that are refused
pub short_name_checked : judge SignOn (0x01 ∷ 0x00 ∷ 0x03 ∷ 0x41 ∷ 0x42 ∷ []) ≡ Err WrongLength
short_name_checked = refl

pub longer_checksum_checked : judge enter (0xB0 ∷ 0xC1 ∷ 0x00 ∷ []) ≡ Err WrongCommand
longer_checksum_checked = refl

pub other_command_checked : judge enter (0x11 ∷ 0xC0 ∷ []) ≡ Err WrongCommand
other_command_checked = refl

pub lone_byte_checked : judge enter (0x10 ∷ []) ≡ Err WrongLength
lone_byte_checked = refl

pub status_before_length : judge (read_signature 0) (0x1B ∷ 0xC0 ∷ []) ≡ Err (Status 0xC0)
status_before_length = refl

pub longer_checked : judge enter (0x10 ∷ 0x00 ∷ 0x00 ∷ []) ≡ Err WrongLength
longer_checked = refl

pub last_status_checked : judge (read_signature 0) (0x1B ∷ 0x00 ∷ 0x1E ∷ 0x80 ∷ []) ≡ Err (Status 0x80)
last_status_checked = refl

-- bytes without a name
pub no_command_unnamed : name_in command_names 0x04 ≡ None
no_command_unnamed = refl

pub no_status_unnamed : name_in status_names 0xC2 ≡ None
no_status_unnamed = refl
