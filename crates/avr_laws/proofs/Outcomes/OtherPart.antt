-- A plan on a chip that has another id and signature: what differs is printed lines alone.
use Rattle.std.proofs.Common.{◌≡◌, ◌∙◌, ◌⊎◌, inl, inr, sym, ap, subst, refl, ℕ, All, Bool, true, false, List, [], ◌∷◌, ◌++◌, map, Option, Result, Ok, Err, rules}
use Rattle.std.proofs.lemmas.Bool.{cases_Bool}
use Rattle.std.proofs.lemmas.List.{map-append}
use Rattle.std.specs.Prelude.{if◌then◌else◌}
use Rattle.avr_plan.specs.declared.settings.Switches.{Switches}
use Rattle.avr_io.specs.OutputEvents.{OutputEvent, PrintsLine}
use Rattle.avr_io.specs.Record.{Bytes, Record}
use Rattle.avr_part.specs.Part.{Part, size_of}
use Rattle.avr_part.specs.declared.part.Mem.{Mem}
use Rattle.avr_plan.specs.Plan.{Plan, IsFitted}
use Rattle.avr_plan.specs.declared.planned.Task.{Task}
use Rattle.avr_session.specs.Actions.{Action, OpenSession, actions}
use Rattle.avr_session.specs.Session.{standing, reported, unless_fault, fault_line_or, opening_output, action_dialog, actions_dialog, ending, session, status_of}
use Rattle.avr_session.specs.Standing.{Standing, NoFault}
use Rattle.stk_emu.specs.Effect.{Memories}
use Rattle.stk_host.specs.declared.fault.HostFault.{HostFault}
use Rattle.stk_host.specs.Dialog.{Dialog, Done, lifted, Emitted}
use Rattle.stk_host.specs.Operations.{checked_by, signature_checked, opening, writing}
use Rattle.stk_host.specs.ReadSteps.{read_steps}
use Rattle.stk_host.specs.Steps.{StepOutcome}
use Rattle.avr_laws.specs.Kept.{HasGeometryOf, Keeps, KeepsOnPart, on_part}
use Rattle.avr_laws.proofs.Outcomes.Alike.{lines_of_append, AreAlike, SameButLines, alike, alike_bind, alike_emits, alike_ends}

-- ---- a chip of the plan's own part

-- a part has its own geometry
pub same_geometry : (other part : Part) → part ≡ other → HasGeometryOf other part
same_geometry other part same = subst (HasGeometryOf other) (sym same) refl

-- what is kept on the plan's own part
pub kept_on_plan : (plan : Plan) (part : Part) (before after : Memories) (old now : Record) → part ≡ plan.part
    → KeepsOnPart part plan before after old now → Keeps plan before after old now
kept_on_plan plan part before after old now same kept = search rules

-- ---- output of printed lines alone

-- no output
none_printed : SameButLines [] []
none_printed = record { is = refl }

-- a printed line
line_printed : (bytes : Bytes) → SameButLines (PrintsLine bytes ∷ []) []
line_printed bytes = record { is = refl }

-- output that a test leaves out
printed_unless : (is_left_out : Bool) (these : List OutputEvent) → SameButLines these []
    → SameButLines (if is_left_out then [] else these) []
printed_unless is_left_out these are = search (rules, none_printed)

-- one output after the other
printed_append : (a b : List OutputEvent) → SameButLines a [] → SameButLines b [] → SameButLines (a ++ b) []
printed_append a b first second = record {
  is = rw (map-append Emitted a b, lines_of_append (map Emitted a) (map Emitted b), first.is) second.is;
}

-- what opening a session reports
opening_printed : (quiet : ℕ) (part : Part) (outcome : Result Bytes HostFault)
    → SameButLines (opening_output quiet part outcome) []
opening_printed quiet part outcome = search (rules, printed_append, printed_unless, line_printed)

-- two outputs of printed lines alone
same_printed : (a b : List OutputEvent) → SameButLines a [] → SameButLines b [] → SameButLines a b
same_printed a b first second = record { is = first.is ∙ sym second.is }

-- the line of a fault, for one part or another
fault_printed : {A : Type 0} (part other : Part) (good : A → List OutputEvent) (outcome : Result A HostFault)
    → SameButLines (fault_line_or part good outcome) (fault_line_or other good outcome)
fault_printed part other good outcome = search rules

-- ---- operations

-- operations that are reported
reported_alike : {A : Type 0} (a b : Dialog ⊥ (Result A HostFault))
    (these those : Result A HostFault → List OutputEvent)
    → AreAlike (lifted a) (lifted b) → ((outcome : Result A HostFault) → SameButLines (these outcome) (those outcome))
    → AreAlike (reported a these) (reported b those)
reported_alike a b these those first same = search (rules, alike_bind, alike_emits)

-- The part has another id and signature; if -F isn't given, the same signature.
module _ (part : Part) (id signature : Bytes) where
  abbrev other : Part
  other = record part { id = id; signature = signature }

  -- memories, writes and reads are the same for both parts
  same_size : (mem : Mem) → size_of mem part ≡ size_of mem other
  same_size mem = search rules

  same_writing : (mem : Mem) (image : List (Option ℕ)) → writing part mem image ≡ writing other mem image
  same_writing mem image = refl

  same_reading : (mem : Mem) → read_steps part mem ≡ read_steps other mem
  same_reading mem = search rules

  -- tasks that fit one part fit the other
  fits_other : (task : Task) → IsFitted part task → IsFitted other task
  fits_other task fits = search (rules, same_size)

  module _ (s : Switches) (accepted : (s.force ≡ true) ⊎ (part.signature ≡ signature)) where
    -- both parts' signatures are checked alike
    same_check : (outcome : StepOutcome) → checked_by (signature_checked part.signature s.force) outcome
        ≡ checked_by (signature_checked signature s.force) outcome
    same_check outcome = elim accepted [
      | inl forced ↦ rw forced (forcibly outcome)
      | inr same ↦ ap (λ (wanted : Bytes). checked_by (signature_checked wanted s.force) outcome) same
    ]
      where
        forcibly : (outcome : StepOutcome) → checked_by (signature_checked part.signature true) outcome
            ≡ checked_by (signature_checked signature true) outcome
        forcibly (Ok found) = refl
        forcibly (Err fault) = refl

    -- a session opens alike
    opening_alike : AreAlike (action_dialog part s OpenSession) (action_dialog other s OpenSession)
    unfolding opening
    opening_alike = search (rules, reported_alike, alike_ends, same_check, same_printed, opening_printed)

    -- each action is alike
    action_alike : (action : Action) → AreAlike (action_dialog part s action) (action_dialog other s action)
    action_alike action = search (rules, opening_alike, reported_alike, alike, fault_printed, same_writing, same_reading)

    -- dialogs that a fault leaves out
    unless_alike : (a b : Dialog OutputEvent Standing) → AreAlike a b → (standing : Standing)
        → AreAlike (unless_fault a standing) (unless_fault b standing)
    unless_alike a b are standing = search (rules, alike)

    -- all actions
    actions_alike : (all : List Action) → AreAlike (actions_dialog part s all) (actions_dialog other s all)
    actions_alike [] = alike (Done NoFault)
    actions_alike (action ∷ all) = alike_bind (action_alike action)
        (unless_alike (actions_dialog part s all) (actions_dialog other s all) (actions_alike all))

    -- and the end of a session
    ending_alike : (standing : Standing) → AreAlike (ending part s standing) (ending other s standing)
    ending_alike standing = search (rules, reported_alike, alike, fault_printed)

-- ---- the whole session, and the tasks, on a part of the same geometry

module _ (plan : Plan) (part : Part) (fits : HasGeometryOf plan.part part) where
  -- a session on the other part differs in printed lines alone
  pub session_alike : (plan.switches.force ≡ false → part.signature ≡ plan.part.signature)
      → AreAlike (session plan) (session (on_part part plan))
  unfolding session
  session_alike own =
      let accepted : (plan.switches.force ≡ true) ⊎ (plan.part.signature ≡ part.signature) =
      search (rules, cases_Bool) in
      subst (λ (other : Part). AreAlike (session plan) (session (on_part other plan))) (sym fits)
      (alike_bind
      (alike_bind (actions_alike plan.part part.id part.signature plan.switches accepted (actions plan))
      (ending_alike plan.part part.id part.signature plan.switches accepted))
      (λ standing. alike (Done (status_of standing))))

  -- tasks that fit the plan's part fit this one
  pub tasks_fit : All (IsFitted plan.part) plan.tasks → All (IsFitted part) plan.tasks
  tasks_fit fitted = search (rules, fits_other)
