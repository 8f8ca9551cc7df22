-- A run that ended anywhere, and then one with status 0, leave what one run leaves.
use Rattle.std.proofs.Common.{◌≡◌, ℕ, true, false, List, [], All, refl, subst, sym, rules}
use Rattle.avr_io.specs.Record.{Record}
use Rattle.avr_part.specs.Part.{Part, IsPart}
use Rattle.avr_part.specs.Sound.{IsSoundChip}
use Rattle.avr_part.specs.declared.part.Mem.{Mem}
use Rattle.avr_plan.specs.Plan.{Plan, IsFitted}
use Rattle.avr_session.specs.Session.{session}
use Rattle.stk_emu.specs.Device.{Device, device}
use Rattle.stk_emu.specs.Effect.{Memories, effects, erase_keeps_eeprom, memories_of, memory_in}
use Rattle.stk_emu.specs.Programmer.{Programmer}
use Rattle.stk_emu.specs.Exchange.{Execution}
use Rattle.stk_emu.specs.Settled.{FitsPart}
use Rattle.stk_frame.specs.Cut.{frames}
use Rattle.stk_host.specs.Dialog.{bytes_sent, played}
use Rattle.stk_host.specs.Play.{IsBytePrefixOf}
use Rattle.stk_host.specs.Transcript.{Transcript, heard, sent}
use Rattle.stk_emu.specs.StepData.{HoldsImage}
use Rattle.avr_tool.specs.Items.{asked_items, has_erase, items}
use Rattle.avr_tool.specs.Outcome.{HasFirstOperations}
use Rattle.avr_tool.specs.Written.{written_to}
use Rattle.avr_tool.proofs.OverExchanges.{its_sizes}
use Rattle.avr_laws.specs.Again.{ItemsKeepEeprom}
use Rattle.avr_laws.specs.AnyLink.{ReportsOverExchanges}
use Rattle.avr_laws.specs.AnyTape.{after_sent_frames, exchanges_on_tape}
use Rattle.avr_laws.specs.BegunByPort.{IsBegunByAny}
use Rattle.avr_laws.specs.KeptByAny.{IsKeptByAny}
use Rattle.avr_laws.specs.Sheet.{IsVouched, SuitsPlan}
use Rattle.avr_laws.specs.Table.{IsProgrammer}
use Rattle.avr_laws.specs.Kept.{HasGeometryOf, IsKept, KeepsOnPart, NoneForged, on_part}
use Rattle.avr_laws.specs.NoForgedFrame.{ForgesNoFrame}
use Rattle.avr_laws.proofs.AnyLink.{end_sent}
use Rattle.avr_laws.proofs.Outcomes.Alike.{AreAlike, same_bytes}
use Rattle.avr_laws.proofs.Outcomes.ByTasks.{is_done}
use Rattle.avr_laws.proofs.Outcomes.Kept.{alike_forges_none}
use Rattle.avr_laws.proofs.Outcomes.OtherPart.{session_alike, tasks_fit}
use Rattle.avr_laws.proofs.SecondRun.Status.{done_again}

-- one run leaves this, and its images if it was verified
abbrev AsOne : Plan → Part → Memories → Memories → Type 0
AsOne plan part before after = (after ≡ effects part (items plan) before) × (plan.switches.no_verify ≡ false
    → (mem : Mem) → HoldsImage (written_to part mem (asked_items plan)) (memory_in part mem after))

-- what both left, on a chip of this part
module _ (plan : Plan) (part : Part) (sound : IsPart part) (fits : HasGeometryOf plan.part part)
    (fitted : All (IsFitted plan.part) plan.tasks) (before left after : Memories) (sizes : FitsPart part before)
    (keeping : has_erase (items plan) ≡ true → erase_keeps_eeprom part before ≡ true
    → ItemsKeepEeprom part (items plan)) (old now : Record) (there : KeepsOnPart part plan left after old now)
    (begun : HasFirstOperations (on_part part plan) before left) where
  -- the second run repaired what the first one left
  as_one : AsOne plan part before after
  as_one = (
    done_again (on_part part plan) before left after sound (tasks_fit plan part fits fitted) sizes keeping begun
        (is_done (on_part part plan) left after old now there.keeps),
    λ verified mem. (there.keeps.images verified).images mem,
  )

-- ---- at any programmer that keeps the rows

module _ {P : Type 0} (part : Part) (m : Device P) (view : P → Memories) (IsIn IsReady : P → Type 0)
    (becomes : Mem → ℕ → ℕ) where
  -- so it is if the second run starts where the first one ended
  pub as_one_by_any : (plan : Plan) (first second : Transcript) (old now : Record) (p q : P)
      → IsBegunByAny part m view IsIn IsReady becomes plan first
      → IsKeptByAny part m view IsIn IsReady becomes plan second old now
      → All (IsFitted plan.part) plan.tasks → IsPart part → HasGeometryOf plan.part part
      → IsProgrammer part m view IsIn IsReady (IsVouched becomes part)
      → (has_erase (items plan) ≡ true → erase_keeps_eeprom part (view p) ≡ true
      → ItemsKeepEeprom part (items plan))
      → (executions : List Execution) → IsIn p → FitsPart part (view p)
      → SuitsPlan becomes (on_part part plan) (view p)
      → NoneForged m (frames (sent first)) (heard first) p executions []
      → (others : List Execution) → IsIn q
      → view q ≡ view (after_sent_frames m (frames (sent first)) executions p) → FitsPart part (view q)
      → SuitsPlan becomes (on_part part plan) (view q)
      → NoneForged m (frames (sent second)) (heard second) q others []
      → AsOne plan part (view p) (view (after_sent_frames m (frames (sent second)) others q))
  as_one_by_any plan first second old now p q begun kept fitted sound fits meets keeping executions is_in sizes
      suits none others is_in_then left sizes_then suits_then none_then =
      let there = kept sound fits meets q others is_in_then sizes_then suits_then none_then in
      as_one plan part sound fits fitted (view p) (view q)
      (view (after_sent_frames m (frames (sent second)) others q)) sizes keeping old now there
      (subst (HasFirstOperations (on_part part plan) (view p)) (sym left)
      (begun sound fits there.signature meets p executions is_in sizes suits none))

-- ---- at the emulated one

module _ (plan : Plan) (first second : Transcript) (old now : Record) (p q : Programmer)
    (fitted : All (IsFitted plan.part) plan.tasks) (sound : IsSoundChip p.chip)
    (fits : HasGeometryOf plan.part p.chip.part)
    (keeping : has_erase (items plan) ≡ true → erase_keeps_eeprom p.chip.part (memories_of p.chip) ≡ true
    → ItemsKeepEeprom p.chip.part (items plan)) where
  -- the plan on the chip's own part
  abbrev its_plan : Plan
  its_plan = on_part p.chip.part plan

  its_tasks : All (IsFitted p.chip.part) plan.tasks
  its_tasks = tasks_fit plan p.chip.part fits fitted

  -- what the two runs left
  module _ (executions : List Execution)
      (prefix : IsBytePrefixOf (sent first) (bytes_sent (played (session plan) 1 (heard first)).events))
      (none : ForgesNoFrame device (session plan) 1 (heard first) p executions [])
      (others : List Execution) (sound_then : IsSoundChip q.chip) (part_then : q.chip.part ≡ p.chip.part)
      (left : memories_of q.chip ≡ memories_of (after_sent_frames device (frames (sent first)) executions p).chip)
      (kept : IsKept plan second old now)
      (none_then : NoneForged device (frames (sent second)) (heard second) q others []) where
    abbrev after : Memories
    after = memories_of (after_sent_frames device (frames (sent second)) others q).chip

    -- the second run kept its plan
    there : KeepsOnPart p.chip.part plan (memories_of q.chip) after old now
    there = search rules

    -- so the first run, too, differs in printed lines alone from one for the chip's own part
    are_alike : AreAlike (session plan) (session its_plan)
    are_alike = session_alike plan p.chip.part fits there.signature

    -- what the first run left
    ended : ReportsOverExchanges its_plan p (after_sent_frames device (frames (sent first)) executions p)
        (exchanges_on_tape (session its_plan) 1 (heard first) executions) (sent first)
        (played (session its_plan) 1 (heard first)).events
    ended = end_sent its_plan p sound refl its_tasks (sent first) executions (heard first)
        (alike_forges_none device (session plan) (session its_plan) 1 (heard first) p executions [] are_alike none)
        (subst (IsBytePrefixOf (sent first)) (same_bytes are_alike 1 (heard first)) prefix)

    -- so both left what one run leaves
    pub emulated_as_one : AsOne plan p.chip.part (memories_of p.chip) after
    emulated_as_one = as_one plan p.chip.part sound.part fits fitted (memories_of p.chip) (memories_of q.chip) after
        (its_sizes its_plan p sound refl its_tasks) keeping old now there
        (subst (HasFirstOperations its_plan (memories_of p.chip)) (sym left) ended.leaves.write_operations.made)
