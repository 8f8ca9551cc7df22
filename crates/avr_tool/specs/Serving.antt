-- An emulated programmer that replies to what it receives on a link.
use Rattle.std.specs.Prelude.{ℕ, List, [], ◌∷◌, ◌++◌, ◌+◌, ◌≡◌, ◌≢◌, ◌<◌, ◌≤◌, length}
use Rattle.std.specs.List.{AllByRecursion}
use Rattle.stk_frame.specs.Cut.{frames}
use Rattle.stk_host.specs.declared.link.Item.TheVariants.{End}
use Rattle.stk_host.specs.Tape.{Tape, bytes_on_tape}
use Rattle.stk_host.specs.Transcript.{Transcript, LinkState, Sent, Taken, Got, NoneTaken, sent, heard, Grows, HasFailed}
use Rattle.stk_host.specs.Play.{IsBytePrefixOf}
use Rattle.stk_emu.specs.Programmer.{Programmer}
use Rattle.stk_emu.specs.Device.{device, replies, reply_frame, after_frames}
use Rattle.stk_emu.specs.Emulator.{EmulatorState, WasFedText, emulate}
use Rattle.avr_tool.specs.declared.serving_link.Served.{Served}
use Rattle.avr_tool.specs.declared.serving_link.Served.TheVariants.{Ended, RecvFailed, SendFailed, TooManyReads}

-- The link's end is not on the tape.
abbrev pub HasNoEnd : Tape → Type 0
HasNoEnd tape = AllByRecursion (λ item. item ≢ End) tape

-- How many reads there were: of pieces, timeouts and ends.
abbrev pub reads : Transcript → ℕ
reads [] = 0
reads (Got tape ∷ transcript) = reads transcript + 1
reads (other ∷ transcript) = reads transcript

-- What was received in at most `most_reads` reads: an end only as its last item, and only if serving ended with it.
abbrev pub ReceivesUntil : Served → ℕ → Transcript → Type 0
ReceivesUntil Ended most_reads transcript = (before : Tape) × HasNoEnd before × (heard transcript ≡ before ++ End ∷ [])
    × (reads transcript ≤ most_reads)
ReceivesUntil RecvFailed most_reads transcript = HasNoEnd (heard transcript) × (reads transcript < most_reads)
ReceivesUntil SendFailed most_reads transcript = HasNoEnd (heard transcript) × (reads transcript ≤ most_reads)
ReceivesUntil TooManyReads most_reads transcript = HasNoEnd (heard transcript) × (reads transcript ≡ most_reads)

-- Unless serving ended because a send failed, no send did.
abbrev pub NoSendFailed : Served → Transcript → Type 0
NoSendFailed SendFailed transcript = Unit {0}
NoSendFailed _ transcript = NoneTaken transcript

-- Before each piece received, all replies to what was fed before had been sent. After a send that failed nothing
-- passes. The programmer was fed `text` and had sent `replied` when the transcript began.
abbrev pub RepliesInTurn : Programmer → List ℕ → List ℕ → Transcript → Type 0
RepliesInTurn p text replied [] = Unit {0}
RepliesInTurn p text replied (Sent bytes ∷ transcript) = RepliesInTurn p text (replied ++ bytes) transcript
RepliesInTurn p text replied (Taken bytes ∷ transcript) = transcript ≡ []
RepliesInTurn p text replied (Got tape ∷ transcript) =
    (replied ≡ emulate p text) × RepliesInTurn p (text ++ bytes_on_tape tape) replied transcript

-- An emulator that was fed `text` was fed these bytes, and `out` is exactly its replies to them.
pub record RepliesToAll (p : Programmer) (text bytes out : List ℕ) (now : EmulatorState) : Type 0 where
  pub fed : WasFedText p (text ++ bytes) now
  pub replied : emulate p (text ++ bytes) ≡ emulate p text ++ out

-- The emulator was fed a prefix of these bytes, and sending the reply to the last frame in it failed. All replies to
-- the frames before were sent, and a part of this one. It was sent whole only if the send that failed had taken its
-- end.
pub record LastReplyFailed (p : Programmer) (text bytes : List ℕ) (transcript : Transcript)
    (now : EmulatorState) : Type 0 where
  pub used : List ℕ
  pub unused : List ℕ
  pub bytes_are : bytes ≡ used ++ unused
  pub fed : WasFedText p (text ++ used) now
  pub earlier : List (List ℕ)
  pub last : List ℕ
  pub frames_are : frames (text ++ used) ≡ earlier ++ last ∷ []
  pub part : List ℕ
  pub unsent : List ℕ
  pub reply_is : reply_frame device last (after_frames device earlier p) ≡ part ++ unsent
  pub not_whole : NoneTaken transcript → 0 < length unsent
  pub sent_is : emulate p text ++ sent transcript ≡ replies device earlier p ++ part

-- What was sent, and the emulator after it. If a send failed, only a prefix of all replies was sent.
abbrev pub ServingLeaves : Served → Programmer → List ℕ → Transcript → EmulatorState → Type 0
ServingLeaves SendFailed p text transcript now =
    IsBytePrefixOf (emulate p text ++ sent transcript) (emulate p (text ++ bytes_on_tape (heard transcript)))
    × LastReplyFailed p text (bytes_on_tape (heard transcript)) transcript now
ServingLeaves _ p text transcript now = RepliesToAll p text (bytes_on_tape (heard transcript)) (sent transcript) now

-- An emulator served a link between these states, in at most `most_reads` reads, and ended like this. This holds
-- whatever programmer it began with and whatever text it was fed before.
pub record Serves (old : EmulatorState) (most_reads : ℕ) (served : Served) (before after : LinkState)
    (now : EmulatorState) : Type 0 where
  pub during : Transcript
  pub grows : Grows before.transcript during after.transcript
  pub receives : ReceivesUntil served most_reads during
  pub sends : NoSendFailed served during
  pub in_turn : (p : Programmer) (text : List ℕ) → WasFedText p text old → RepliesInTurn p text (emulate p text) during
  pub leaves : (p : Programmer) (text : List ℕ) → WasFedText p text old → ServingLeaves served p text during now

-- If the link failed, its count of failures rose or is at its end. Otherwise the count is what it was.
abbrev pub FailsBy : Served → LinkState → LinkState → Type 0
FailsBy Ended before after = after.failures ≡ before.failures
FailsBy TooManyReads before after = after.failures ≡ before.failures
FailsBy served before after = HasFailed before after
