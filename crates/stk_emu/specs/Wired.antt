-- A wire as a link: its fates decide what arrives.
use Rattle.std.specs.Prelude.{ℕ, List, [], ◌∷◌, ◌++◌, ◌≡◌, ◌≢◌, length, take, drop, ◌<◌, filter}
use Rattle.stk_frame.specs.Cut.{frames, is_frame}
use Rattle.stk_frame.specs.Reader.{MayHaveBeenFed, Fed}
use Rattle.stk_host.specs.declared.link.Item.TheVariants.{Silence}
use Rattle.stk_host.specs.Tape.{Tape}
use Rattle.stk_host.specs.Transcript.{Transcript, LinkState, Sent, Got, sent, heard}
use Rattle.stk_emu.specs.declared.fate.Fate.{Fate}
use Rattle.stk_emu.specs.Programmer.{Programmer, fresh_programmer}
use Rattle.stk_emu.specs.Device.{device}
use Rattle.stk_emu.specs.Wire.{Wire, AreLawful, fresh_wire, tape_of, wire_after_frames}

-- The bytes of the frame that is arriving, the wire, the items that wait, the transcript, and the number of failures.
pub record WiredState : Type 0 where
  pub held : List ℕ
  pub wire : Wire Programmer
  pub waits : Tape
  pub transcript : Transcript
  pub failures : ℕ

-- What contracts of links see of a wire.
abbrev pub wired_link : WiredState → LinkState
wired_link wired = record { transcript = wired.transcript; failures = wired.failures }

-- What the frames of these bytes bring over a fresh wire.
abbrev pub brought : Programmer → List Fate → List ℕ → Tape
brought p fates bytes = tape_of device (frames bytes) (fresh_wire p fates)

-- The host received only when something waited.
abbrev pub NeverIdle : Programmer → List Fate → Transcript → Type 0
NeverIdle p fates transcript = (before after : Transcript) (items : Tape) → transcript ≡ before ++ Got items ∷ after
    → brought p fates (sent before) ≢ heard before

-- A wire that began with this programmer and these fates, as the frames sent have left it. If the host received only
-- when something waited, the items received and those that wait are what these frames bring.
pub record FollowsFates (p : Programmer) (fates : List Fate) (w : WiredState) : Type 0 where
  pub held : MayHaveBeenFed w.held (sent w.transcript)
  pub stands : w.wire ≡ wire_after_frames device (frames (sent w.transcript)) (fresh_wire p fates)
  pub brings : NeverIdle p fates w.transcript → brought p fates (sent w.transcript) ≡ heard w.transcript ++ w.waits

-- The programmer of a wire at its start, and the fates of its frames.
pub record Start : Type 0 where
  pub programmer : Programmer
  pub fates : List Fate

-- `started_as` of a wire.
abbrev pub ComesOf : Start → WiredState → Type 0
ComesOf start w = FollowsFates start.programmer start.fates w

-- Nothing has passed over the wire: no part of a frame is held, and nothing waits to be received or is late. Its
-- programmer has done nothing yet, and noise in place of a reply has no good frame.
pub record IsFresh (w : WiredState) : Type 0 where
  pub silent : w.transcript ≡ []
  pub held : MayHaveBeenFed w.held []
  pub waits : w.waits ≡ []
  pub wire : w.wire ≡ fresh_wire (fresh_programmer w.wire.programmer.chip) w.wire.fates
  pub lawful : AreLawful w.wire.fates

-- Bytes were sent in which these frames ended, and what they bring waits behind what waited before.
pub record PassesBytes (old new : WiredState) (used : List ℕ) : Type 0 where
  pub found : List (List ℕ)
  pub are_frames : filter is_frame found ≡ found
  pub fed : Fed old.held used new.held found
  pub waits : new.waits ≡ old.waits ++ tape_of device found old.wire
  pub wire : new.wire ≡ wire_after_frames device found old.wire
  pub transcript : new.transcript ≡ old.transcript ++ Sent used ∷ []

-- These items were received.
abbrev pub after_receiving : Tape → WiredState → WiredState
after_receiving items w = record w { transcript = w.transcript ++ Got items ∷ []; waits = drop (length items) w.waits }

-- What is received next: some of the first items that wait, or a timeout if nothing waits.
abbrev pub IsReceivedNext : Tape → Tape → Type 0
IsReceivedNext items [] = items ≡ Silence ∷ []
IsReceivedNext items (item ∷ waits) = (0 < length items) × (items ≡ take (length items) (item ∷ waits))
