-- A faulty wire to a programmer.
use Rattle.std.specs.Prelude.{ℕ, zero, suc, Bool, true, false, List, [], ◌∷◌, ◌++◌, if◌then◌else◌, All, map}
use Rattle.stk_frame.specs.Frame.{frame}
use Rattle.stk_frame.specs.Cut.{seq_of}
use Rattle.stk_host.specs.declared.link.Item.TheVariants.{Silence}
use Rattle.stk_host.specs.Tape.{Tape, on_tape}
use Rattle.stk_emu.specs.declared.fate.Fate.{Fate}
use Rattle.stk_emu.specs.declared.fate.Fate.TheVariants.{Good, LostCommand, LateAnswer, HeldAnswer, Reset, CommandRefused, AnswerSpoiled}
use Rattle.stk_emu.specs.Lawful.{IsLawful, Late, no_late_replies, with_late_reply, waiting}
use Rattle.stk_emu.specs.Exchange.{Exchange, Execution, execution_in, NotExecuted, Executed, ThenRestarted, Refusal, NoReply, AsIntended, Disturbed, after_exchange}
use Rattle.stk_emu.specs.Device.{Device, refusal, reply_frame, after_frame}

-- If the fate is noise in place of a reply, the noise is lawful.
abbrev pub IsLawfulFate : Fate → Type 0
IsLawfulFate (AnswerSpoiled noise) = IsLawful noise.items
IsLawfulFate _ = Unit {0}

abbrev pub AreLawful : List Fate → Type 0
AreLawful = All IsLawfulFate

-- After the list all fates are good.
abbrev pub first_fate : List Fate → Fate
first_fate [] = Good
first_fate (fate ∷ fates) = fate

abbrev pub other_fates : List Fate → List Fate
other_fates [] = []
other_fates (fate ∷ fates) = fates

-- The exchange that a fate makes of a frame.
abbrev pub exchange_of_fate : Fate → Exchange
exchange_of_fate Good = AsIntended
exchange_of_fate LostCommand = Disturbed NotExecuted NoReply
exchange_of_fate Reset = Disturbed (ThenRestarted NotExecuted) NoReply
exchange_of_fate CommandRefused = Disturbed NotExecuted Refusal
exchange_of_fate _ = Disturbed Executed NoReply

abbrev pub exchanges_of_fates : List Fate → List Exchange
exchanges_of_fates = map exchange_of_fate

-- What becomes of the command in each of the next `k` frames.
abbrev pub executions_of_fates : ℕ → List Fate → List Execution
executions_of_fates zero fates = []
executions_of_fates (suc k) fates = execution_in (exchange_of_fate (first_fate fates))
    ∷ executions_of_fates k (other_fates fates)

-- What a fate brings back, given the frames of the reply and of the refusal.
abbrev pub brought_by_fate : Fate → List ℕ → List ℕ → Tape
brought_by_fate Good reply refused = on_tape reply
brought_by_fate CommandRefused reply refused = on_tape refused
brought_by_fate (AnswerSpoiled noise) reply refused = on_tape noise.items ++ Silence ∷ []
brought_by_fate _ reply refused = Silence ∷ []

-- The fate keeps the late replies waiting.
abbrev pub holds_replies : Fate → Bool
holds_replies HeldAnswer = true
holds_replies _ = false

-- The late replies that arrive before what this frame brings.
abbrev pub released_replies : Fate → Late → List ℕ
released_replies fate late = if holds_replies fate then [] else waiting late

-- The late replies that wait after it.
abbrev pub late_after : Fate → List ℕ → Late → Late
late_after LateAnswer reply late = with_late_reply no_late_replies reply
late_after HeldAnswer reply late = with_late_reply late reply
late_after _ reply late = no_late_replies

-- The programmer, the fates to come, and the late replies that wait.
pub record Wire (P : Type 0) : Type 0 where
  pub programmer : P
  pub fates : List Fate
  pub late : Late

-- What arrives for a frame: the late replies, then what its fate brings.
abbrev pub arrival : {P : Type 0} → Device P → List ℕ → Wire P → Tape
arrival m piece w =
    on_tape (released_replies (first_fate w.fates) w.late)
    ++ brought_by_fate (first_fate w.fates) (reply_frame m piece w.programmer) (frame (seq_of piece) refusal)

-- The wire after a frame.
abbrev pub wire_after_frame : {P : Type 0} → Device P → List ℕ → Wire P → Wire P
wire_after_frame m piece w = record {
  programmer = after_exchange (exchange_of_fate (first_fate w.fates)) (after_frame m piece w.programmer)
      w.programmer m.reset;
  fates = other_fates w.fates;
  late = late_after (first_fate w.fates) (reply_frame m piece w.programmer) w.late;
}

-- The arrivals of whole frames, joined; below, the wire after them.
abbrev pub tape_of : {P : Type 0} → Device P → List (List ℕ) → Wire P → Tape
tape_of m [] w = []
tape_of m (piece ∷ pieces) w = arrival m piece w ++ tape_of m pieces (wire_after_frame m piece w)

abbrev pub wire_after_frames : {P : Type 0} → Device P → List (List ℕ) → Wire P → Wire P
wire_after_frames m [] w = w
wire_after_frames m (piece ∷ pieces) w = wire_after_frames m pieces (wire_after_frame m piece w)

-- A wire over which nothing has passed.
abbrev pub fresh_wire : {P : Type 0} → P → List Fate → Wire P
fresh_wire p fates = record { programmer = p; fates = fates; late = no_late_replies }
