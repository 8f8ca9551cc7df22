-- What calls over a link ensure: listening, conversations, and the calls of `Host`.
use Rattle.std.specs.Prelude.{ℕ, Bool, true, List, [], ◌∷◌, ◌++◌, ◌≡◌, ◌<◌, ◌≤◌, length, Option, None, Some, Result, Ok, Err, IfOk, IfErr, IfSome, IsOkAnd, ◌⊎◌}
use Rattle.stk_frame.specs.declared.protocol.TheConstants.{LARGEST_BODY, LARGEST_FRAME}
use Rattle.stk_frame.specs.declared.command.Command.{Command}
use Rattle.stk_frame.specs.declared.answer.Shape.{Shape}
use Rattle.stk_frame.specs.declared.answer.Shape.TheVariants.{Name, Bytes, Closed}
use Rattle.stk_frame.specs.Commands.{body, shape, FitsShape}
use Rattle.stk_frame.specs.Cut.{body_of}
use Rattle.stk_frame.specs.Names.{command_names, name_in, status_names}
use Rattle.ghosts.specs.Preserves.{Preserves}
use Rattle.stk_host.specs.declared.link.Link.{Ghosts}
use Rattle.stk_host.specs.declared.link.Heard.{Heard}
use Rattle.stk_host.specs.declared.link.Heard.TheVariants as heard
use Rattle.stk_host.specs.declared.link.Item.TheVariants as item
use Rattle.stk_host.specs.declared.listen.Reading.{Reading}
use Rattle.stk_host.specs.declared.listen.Reading.TheVariants as read
use Rattle.stk_host.specs.declared.conversation.Reply.{Reply}
use Rattle.stk_host.specs.declared.conversation.Reply.TheVariants as in_code
use Rattle.stk_host.specs.declared.fault.StepFault.{StepFault}
use Rattle.stk_host.specs.declared.fault.HostFault.{HostFault}
use Rattle.stk_host.specs.declared.fault.HostFault.TheVariants.{NoAnswer, LinkEnded, SendFailed, Babble, Refused, BadAnswer, WrongSignature, Differs, ReadOnly, Memory, RecvFailed}
use Rattle.stk_host.specs.Tape as tape
use Rattle.stk_host.specs.Tape.{on_tape}
use Rattle.stk_host.specs.Steps as steps
use Rattle.stk_host.specs.Steps.{play}
use Rattle.stk_host.specs.Operations.{host_fault, signature_checked}
use Rattle.stk_host.specs.Transcript.{LinkState, Got, Grows}
use Rattle.stk_host.specs.Dialog.{Dialog}
use Rattle.stk_host.specs.Play.{Progress, RunsOverLink, BreaksOverLink}
use Rattle.stk_host.specs.Reach.{Reaches}
use Rattle.stk_host.specs.State.{ConversationState, HostState, data_held, lasting_fault}

-- At most 281 bytes are unread: those of one piece.
abbrev pub HasFewUnread : Progress → Type 0
HasFewUnread progress = length progress.unread ≤ LARGEST_FRAME

-- What was received, and is the end of the transcript. Bytes received are unread.
abbrev pub ReceivesPiece : Heard → List ℕ → LinkState → LinkState → Type 0
ReceivesPiece (heard.Bytes n) unread old new =
    (0 < length unread) × Grows old.transcript (Got (on_tape unread) ∷ []) new.transcript
ReceivesPiece heard.Silence unread old new =
    (unread ≡ []) × Grows old.transcript (Got (item.Silence ∷ []) ∷ []) new.transcript
ReceivesPiece heard.End unread old new = (unread ≡ []) × Grows old.transcript (Got (item.End ∷ []) ∷ []) new.transcript

-- How listening ended, with the body of the reply that the reader holds.
abbrev pub reading_of : Reading → List ℕ → tape.Reading
reading_of read.Replied held = tape.Replied (body_of held)
reading_of read.Silent held = tape.Silent
reading_of read.Ended held = tape.Ended
reading_of read.Babbled held = tape.Babbled

-- A reply of the code, with its data, as a reply of a dialog.
abbrev pub reply_of : Reply → List ℕ → steps.Reply
reply_of in_code.Data bytes = steps.Data bytes
reply_of (in_code.Again fault) bytes = steps.Again fault
reply_of (in_code.Stop fault) bytes = steps.Stop fault

-- These steps stopped with this fault: the link failed, or the dialog returned the step's fault of the same name.
abbrev pub StopsSteps : Dialog ⊥ steps.StepOutcome → Progress → LinkState → LinkState → HostFault → Progress → Type 0
StopsSteps dialog before old new fault after =
    BreaksOverLink fault dialog before old new
    ⊎ ((of : StepFault) × (fault ≡ host_fault of) × RunsOverLink dialog before old new (Err of) after)

-- These steps ended: the dialog returned these data, or it stopped.
abbrev pub EndsSteps : {A : Type 0} → Dialog ⊥ steps.StepOutcome → (A → List ℕ) → Progress → LinkState → LinkState
    → Result A HostFault → Progress → Type 0
EndsSteps dialog bytes before old new (Ok a) after = RunsOverLink dialog before old new (Ok (bytes a)) after
EndsSteps dialog bytes before old new (Err fault) after = StopsSteps dialog before old new fault after

-- All of these steps were run and brought these data, or they stopped.
abbrev pub RunsSteps : List (List Command) → List ℕ → Progress → LinkState → LinkState → Result (Unit {0}) HostFault
    → Progress → Type 0
RunsSteps these brought = EndsSteps (play these []) (λ done. brought)

-- These steps were run, and then any others may follow, with all data so far. If these stop, all stop.
abbrev pub CompletesStepsWithData : List (List Command) → List ℕ → List ℕ → Progress → LinkState → LinkState
    → Result (Unit {0}) HostFault → Progress → Type 0
CompletesStepsWithData these given brought before old new (Ok done) after =
    (steps : List (List Command)) → Reaches (play (these ++ steps) given) before old (play steps brought) after new
CompletesStepsWithData these given brought before old new (Err fault) after =
    (steps : List (List Command)) → StopsSteps (play (these ++ steps) given) before old new fault after

-- The same of steps that bring no data.
abbrev pub CompletesSteps : List (List Command) → Progress → LinkState → LinkState → Result (Unit {0}) HostFault
    → Progress → Type 0
CompletesSteps these = CompletesStepsWithData these [] []

-- The data bytes that a reply of this shape brings, if the shape fixes them.
abbrev pub data_count : Shape → ℕ
data_count Name = 0
data_count (Bytes n) = n
data_count (Closed n) = n

-- The shape fixes how many bytes a reply brings.
abbrev pub IsSizedShape : Shape → Type 0
IsSizedShape Name = ⊥
IsSizedShape _ = Unit {0}

-- What each call of a conversation ensures: it ends as `Ends` states, and at most one piece stays unread.
pub record Converses {A L : Type 0} (link : Ghosts L)
    (Ends : Progress → LinkState → LinkState → Result A HostFault → Progress → Type 0)
    (before after : ConversationState) (old new : L) (result : Result A HostFault) : Type 0 where
  pub played : Ends before.progress (link.view old) (link.view new) result after.progress
  pub counted : (link.view old).failures ≤ (link.view new).failures
  pub bound : HasFewUnread before.progress → HasFewUnread after.progress
  pub comes : Preserves link.started_as old new

-- What `exchange` and `attempt` ensure: the dialog returned this reply, or it broke off because the link failed. The
-- data have the size that the last command asks for.
pub record ReturnsReply {L : Type 0} (link : Ghosts L) (dialog : Dialog ⊥ steps.Reply) (last : Command)
    (before after : ConversationState) (old new : L) (result : Result Reply HostFault) : Type 0 where
  pub ok : IfOk result (λ reply. RunsOverLink dialog before.progress (link.view old) (link.view new)
      (reply_of reply (data_held last after.held)) after.progress)
  pub err : IfErr result (λ fault. BreaksOverLink fault dialog before.progress (link.view old) (link.view new))
  pub sized : IsOkAnd result (λ reply. reply ≡ in_code.Data) → FitsShape (shape last) (data_held last after.held)
  pub counted : (link.view old).failures ≤ (link.view new).failures
  pub bound : HasFewUnread after.progress
  pub comes : Preserves link.started_as old new

-- How a call of a host ends. Its dialog broke off if and only if the link failed, while sending or while receiving.
-- If `allocates` is true, the call allocates. If that fails, nothing was sent or received. Else the dialog ran to its
-- end.
abbrev pub EndsCall : {A : Type 0} → Bool → Dialog ⊥ (Result A HostFault) → Progress → LinkState → LinkState
    → Result A HostFault → Progress → Type 0
EndsCall allocates dialog before old new (Err SendFailed) after = BreaksOverLink SendFailed dialog before old new
EndsCall allocates dialog before old new (Err RecvFailed) after = BreaksOverLink RecvFailed dialog before old new
EndsCall allocates dialog before old new (Err Memory) after = (allocates ≡ true) × (new ≡ old) × (after ≡ before)
EndsCall allocates dialog before old new result after = RunsOverLink dialog before old new result after

-- The command's body fits a frame.
abbrev pub FitsFrame : Command → Type 0
FitsFrame command = length (body command) ≤ LARGEST_BODY

-- The command fits a frame, and its reply brings no data.
pub record BringsNoData (command : Command) : Type 0 where
  pub fits : FitsFrame command
  pub quiet : shape command ≡ Bytes 0

-- A step whose first command brings no data, and whose last brings as many bytes as its shape fixes.
pub record IsSizedStep (first : Option Command) (last : Command) : Type 0 where
  pub quiet : IfSome first BringsNoData
  pub fits : FitsFrame last
  pub counted : IsSizedShape (shape last)

-- What each call of `Host` ensures: it runs this dialog, or a prefix of it if the link fails.
pub record Calls {A : Type 0} (allocates : Bool) (dialog : Dialog ⊥ (Result A HostFault)) (old new : HostState)
    (before after : LinkState) (result : Result A HostFault) : Type 0 where
  -- After a lasting fault each call returns that fault and changes nothing.
  pub stays : (fault : HostFault) → old.broken ≡ Some fault → (result ≡ Err fault) × (new ≡ old) × (after ≡ before)
  pub played : old.broken ≡ None → EndsCall allocates dialog old.progress before after result new.progress
  pub lasts : old.broken ≡ None → new.broken ≡ lasting_fault result
  pub part : new.part ≡ old.part
  pub counted : before.failures ≤ after.failures
  pub bound : old.broken ≡ None → HasFewUnread new.progress

-- The number of a fault, which never changes.
abbrev pub host_fault_number : HostFault → ℕ
host_fault_number NoAnswer = 1
host_fault_number LinkEnded = 2
host_fault_number SendFailed = 3
host_fault_number Babble = 4
host_fault_number (Refused command status) = 5
host_fault_number (BadAnswer command) = 6
host_fault_number (WrongSignature found) = 7
host_fault_number (Differs mem addr want found) = 8
host_fault_number (ReadOnly mem) = 9
host_fault_number Memory = 10
host_fault_number RecvFailed = 11

-- AVR068's names of the command and the status of a fault.
abbrev pub command_named : HostFault → Option (List ℕ)
command_named (Refused command status) = name_in command_names command
command_named (BadAnswer command) = name_in command_names command
command_named fault = None

abbrev pub status_named : HostFault → Option (List ℕ)
status_named (Refused command status) = name_in status_names status
status_named fault = None

-- The result of `Host::open`: the signature found if it is accepted, or a fault.
abbrev pub opening_result : List ℕ → Bool → Result (List ℕ) HostFault → Result (List ℕ) HostFault
opening_result wanted force (Ok found) = signature_checked wanted force found
opening_result wanted force (Err fault) = Err fault
