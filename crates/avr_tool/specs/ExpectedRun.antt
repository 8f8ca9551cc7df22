-- The expected run: what a run over a perfect link outputs, returns and leaves in the memories.
use Rattle.std.specs.Prelude.{ℕ, zero, suc, List, [], ◌∷◌, ◌++◌, Result, Ok, ⊤}
use Rattle.avr_plan.specs.declared.settings.Switches.{Switches}
use Rattle.avr_io.specs.OutputEvents.{OutputEvent}
use Rattle.avr_part.specs.Part.{Part}
use Rattle.avr_plan.specs.Plan.{Plan}
use Rattle.stk_host.specs.declared.fault.HostFault.{HostFault}
use Rattle.stk_host.specs.Operations.{comparison}
use Rattle.stk_emu.specs.Effect.{Memories, Erase, Write, effect, memory_in}
use Rattle.avr_session.specs.Actions.{Action, OpenSession, EraseChip, WriteImage, CompareImage, SaveMemory, SkipAction, actions}
use Rattle.avr_session.specs.Session.{standing, fault_line_or, opening_output, skipped_output, erased_output, written_output, verified_output, closing_output, read_output, status_of}

-- What a run outputs, its status, and what it leaves in the memories. The same of its first actions: their status is 0
-- as long as there is no fault.
pub record Expected : Type 0 where
  pub output_events : List OutputEvent
  pub status : ℕ
  pub memories : Memories

-- An operation with this outcome, which leaves these memories.
abbrev pub reported_expected : {A : Type 0} → (Result A HostFault → List OutputEvent) → Result A HostFault → Memories
    → Expected
reported_expected outcome_output outcome m =
    record { output_events = outcome_output outcome; status = status_of (standing outcome); memories = m }

-- The first actions, which have this status, and then the next ones, which a fault skips.
abbrev pub next_unless_fault : Expected → ℕ → (Memories → Expected) → Expected
next_unless_fault first zero next =
    record (next first.memories) { output_events = first.output_events ++ (next first.memories).output_events }
next_unless_fault first (suc fault) next = first

-- What each action leads to; the signature is the part's.
abbrev pub action_expected : Part → Switches → Action → Memories → Expected
action_expected part s OpenSession m = reported_expected (opening_output s.quiet part) (Ok part.signature) m
action_expected part s EraseChip m = reported_expected (erased_output s.quiet part) (Ok tt) (effect part Erase m)
action_expected part s (WriteImage mem image) m =
    reported_expected (written_output s.quiet part mem image) (Ok tt) (effect part (Write mem image) m)
action_expected part s (CompareImage mem image) m =
    reported_expected (verified_output s.quiet part mem image) (comparison mem image (memory_in part mem m)) m
action_expected part s (SaveMemory mem format file) m =
    reported_expected (fault_line_or part (read_output s mem format file)) (Ok (memory_in part mem m)) m
action_expected part s (SkipAction what) m = reported_expected {A = ⊤} (λ _. skipped_output s.quiet what) (Ok tt) m

-- What actions lead to, in order.
abbrev pub actions_expected : Part → Switches → List Action → Memories → Expected
actions_expected part s [] m = reported_expected {A = ⊤} (λ _. []) (Ok tt) m
actions_expected part s (action ∷ actions) m = let first = action_expected part s action m in
    next_unless_fault first first.status (actions_expected part s actions)

-- The output at the end of a session with this status: nothing after a fault, because a second fault is not reported.
abbrev pub ending_output : Plan → ℕ → List OutputEvent
ending_output plan zero = closing_output plan.switches.quiet plan.part (Ok tt)
ending_output plan (suc fault) = []

-- The run of a plan over a perfect link to a chip with these memories.
abbrev pub expected_run : Plan → Memories → Expected
expected_run plan m = let worked = actions_expected plan.part plan.switches (actions plan) m in
    record worked { output_events = worked.output_events ++ ending_output plan worked.status }
