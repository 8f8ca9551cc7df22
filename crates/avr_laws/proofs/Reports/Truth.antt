-- What a run reports is true at that moment, action by action.
use Rattle.std.proofs.Common.{◌≡◌, ℕ, suc, List, [], ◌∷◌, ◌++◌, length, append_assoc, refl, sym, ap, ◌∙◌, subst, arith, inl, inr, Ok, Err, Result, Bool, true, false, rules}
use Rattle.std.proofs.lemmas.List.{append-nil}
use Rattle.std.proofs.lemmas.List.Elements.{Contains-append_right}
use Rattle.std.specs.Prelude.{All, Contains, ⊤, codes, nat_lt, if◌then◌else◌}
use Rattle.std.specs.Str.{bytes_eq}
use Rattle.avr_io.specs.Record.{Bytes}
use Rattle.avr_plan.specs.declared.update.Format.{Format}
use Rattle.avr_image.specs.Image.{byte_count}
use Rattle.avr_io.specs.Lines.{information, warning}
use Rattle.avr_io.specs.OutputEvents.{OutputEvent, PrintsLine, CreatesFile, WritesFile, WritesOutput}
use Rattle.avr_part.specs.Part.{IsPart}
use Rattle.avr_part.specs.declared.part.Mem.{Mem}
use Rattle.avr_plan.specs.Plan.{Plan, IsFitted}
use Rattle.avr_session.specs.Actions.{SkippedErase, SkippedWrite, Action, OpenSession, EraseChip, WriteImage, CompareImage, SaveMemory, SkipAction, actions}
use Rattle.avr_session.specs.FileText.{file_text}
use Rattle.avr_session.specs.Lines.{informs, fault_line}
use Rattle.avr_session.specs.Session.{opening_output, saving_output, bytes_output, written_output, verified_output, read_output, standing, session}
use Rattle.stk_host.specs.Dialog.{Dialog, Emit, Ask}
use Rattle.stk_host.specs.Operations.{difference_from, comparison, host_fault}
use Rattle.stk_host.specs.declared.fault.HostFault.{HostFault}
use Rattle.stk_host.specs.declared.fault.StepFault.{StepFault}
use Rattle.stk_emu.specs.Exchange.{Exchange}
use Rattle.stk_emu.specs.Device.{Device, device}
use Rattle.stk_emu.specs.Effect.{Memories, Image, Item, Write, effects, memories_of, memory_in}
use Rattle.stk_emu.specs.Programmer.{Programmer}
use Rattle.stk_emu.specs.Settled as of_emulated
use Rattle.stk_emu.specs.Settled.{FitsPart}
use Rattle.avr_tool.proofs.StepData.Comparisons.{no_difference}
use Rattle.avr_tool.proofs.WriteOperations.Pages.{effects_on}
use Rattle.avr_tool.specs.Items.{action_items, actions_items, items}
use Rattle.avr_laws.specs.TrueReports.{ReportsTrue, count_line, saved_bytes, IsTrueReport, BytesWritten, BytesVerified, Differed, BytesSaved, BytesRead, EraseLeftOut, WriteLeftOut, StepFailed, SessionDone}
use Rattle.stk_host.specs.ReadSteps.{signature_steps}
use Rattle.avr_tool.proofs.Emulated.{actions_work, all_work, emulated}
use Rattle.avr_tool.proofs.Real.{ActionsWork, AllWork, HasMemories, Real, Settled}
use Rattle.avr_tool.proofs.OverFaultyLink.EachAction.{ActionTrue, ActionsTrue, opening_comes}
use Rattle.avr_tool.proofs.OverFaultyLink.Sessions.{AtMoment, AtEnd, anyhow, session_prints}
use Rattle.avr_laws.proofs.Memories.Bytes.{bytes_same, no_difference_if_fine}
use Rattle.avr_tool.proofs.Hosts.OneLink.{Spot, on_link, this_link}
use Rattle.avr_tool.proofs.Hosts.Outputs.{AllTrue, End, Moment, Prints, PrintsFrom}
use Rattle.stk_host.proofs.Dialogs.Logic.{World}
use Rattle.avr_tool.proofs.Plans.Fits.{FitsAction, AllFitActions, work, work_fits}
use Rattle.avr_tool.proofs.Plans.Items.{items_on}
use Rattle.avr_laws.proofs.Plans.Items.{erase_first}

module _ {P : Type 0} (m : Device P) where
  abbrev link : World (Spot P) ⊤
  link = this_link m

  -- each output event of a dialog that prints what is true is true at that moment
  all_true : (True : OutputEvent → P → Type 0) {R : Type 0} (Now : Moment P) (After : End P R) (k : ℕ)
      (d : Dialog OutputEvent R) (z : Spot P) → PrintsFrom m True Now After d z
      → ReportsTrue m (λ q event. True event q) k d z.0 z.1
  all_true True Now After k (Emit event d) z h =
      (h.0, all_true True (λ x. Now (event ∷ x)) (λ r x. After r (event ∷ x)) k d z h.1)
  all_true True Now After (suc k) (Ask bytes go_on) z h =
      all_true True Now After k (go_on _) (link.after bytes z tt) h.1
  all_true z0 z1 z2 k z4 z h = tt

module _ {P : Type 0} (Claim : OutputEvent → P → Type 0) where
  -- what is claimed of each of two lists of output events
  both_true : (xs ys : List OutputEvent) (q : P) → AllTrue Claim xs q → AllTrue Claim ys q → AllTrue Claim (xs ++ ys) q
  both_true [] ys q f g = g
  both_true (x ∷ xs) ys q f g = (f.0, both_true xs ys q f.1 g)

  -- an output event that a test leaves out
  unless_true : (b : Bool) (x : OutputEvent) (q : P) → Claim x q → AllTrue Claim (if b then [] else x ∷ []) q
  unless_true b x q t = search rules

module _ (plan : Plan) (sound : IsPart plan.part) (real : Real plan.part) (m0 : Memories)
    (f0 : FitsPart plan.part m0) where
  abbrev pub Holds : OutputEvent → real.P → Type 0
  Holds event q = IsTrueReport plan m0 (real.memories q) event

  -- an informing line
  informs_hold : (quiet : ℕ) (pieces : List Bytes) (q : real.P) → Holds (PrintsLine (information pieces)) q
      → AllTrue Holds (informs quiet pieces) q
  informs_hold quiet pieces q t = unless_true Holds (nat_lt 0 quiet) (PrintsLine (information pieces)) q t

  -- the line of a count of bytes
  counts_hold : (mem : Mem) (count : ℕ) (done_text : Bytes) (q : real.P) → Holds (count_line mem count done_text) q
      → AllTrue Holds (bytes_output plan.switches.quiet mem count done_text) q
  counts_hold mem count done_text q t = search (rules, informs_hold)

  -- the line of a fault
  fails : (fault : StepFault) (q : real.P) → AllTrue Holds (PrintsLine (fault_line plan.part (host_fault fault)) ∷ []) q
  fails fault q = (StepFailed fault refl, tt)

  -- ---- the opening

  -- what opening a session reports
  opening_true : (quiet : ℕ) (q : real.P) → AllTrue Holds (opening_output quiet plan.part (Ok plan.part.signature)) q
  opening_true quiet q = search (rules, both_true, informs_hold, bytes_same)

  -- ---- the actions after it

  -- what a comparison reports
  compared_now : (mem : Mem) (image : Image) (q : real.P) → Contains (actions plan) (CompareImage mem image)
      → (r : Result ⊤ HostFault) → comparison mem image (memory_in plan.part mem (real.memories q)) ≡ r
      → AllTrue Holds (verified_output plan.switches.quiet plan.part mem image r) q
  compared_now mem image q has (Ok a) e = counts_hold mem (byte_count image) (codes " bytes verified") q
      (BytesVerified mem image has refl
      (no_difference 0 image (memory_in plan.part mem (real.memories q))
      (no_difference_if_fine mem (difference_from 0 image (memory_in plan.part mem (real.memories q)))
      (ap standing e))))
  compared_now mem image q has (Err fault) e = (Differed mem image fault has refl e, tt)

  -- what the save of a memory puts out
  saved_now : (b : Bool) (mem : Mem) (format : Format) (file : Bytes) (q : real.P)
      → Contains (actions plan) (SaveMemory mem format file) → (text : Bytes)
      → text ≡ file_text format (saved_bytes plan mem (real.memories q))
      → AllTrue Holds (if b then WritesOutput text ∷ [] else CreatesFile file ∷ WritesFile text ∷ []) q
  saved_now true mem format file q has text e = (BytesSaved mem format file has (inr (inr (ap WritesOutput e))), tt)
  saved_now false mem format file q has text e =
      (BytesSaved mem format file has (inl refl), (BytesSaved mem format file has (inr (inl (ap WritesFile e))), tt))

  -- what a write reports
  written_now : (mem : Mem) (image : Image) (first later : List Item) (q : real.P)
      → items plan ≡ first ++ Write mem image ∷ later
      → real.memories q ≡ effects plan.part (Write mem image ∷ []) (effects plan.part first m0)
      → AllTrue Holds (written_output plan.switches.quiet plan.part mem image (Ok tt)) q
  written_now mem image first later q order is = counts_hold mem (byte_count image) (codes " bytes written") q
      (BytesWritten mem image first later refl order
      (is ∙ sym (effects_on plan.part first (Write mem image ∷ []) m0)))

  -- what an action of the plan puts out is true at that moment
  action_true : (action : Action) (done later : List Action) → FitsAction plan.part action
      → actions plan ≡ done ++ action ∷ later
      → ActionTrue plan.part real plan.switches Holds action (effects plan.part (actions_items done) m0)
  action_true action done later fits order = by_kind action fits here among
    where
      here : Contains (actions plan) action
      here = subst (λ all. Contains all action) (sym order)
          (Contains-append_right done (action ∷ later) action (0, omega arith, refl))

      among : items plan ≡ actions_items done ++ (action_items action ++ actions_items later)
      among = ap actions_items order ∙ items_on done (action ∷ later)

      m : Memories
      m = effects plan.part (actions_items done) m0

      by_kind : (a : Action) → FitsAction plan.part a → Contains (actions plan) a
          → items plan ≡ actions_items done ++ (action_items a ++ actions_items later)
          → ActionTrue plan.part real plan.switches Holds a m
      by_kind OpenSession fits has order = absurd fits
      by_kind EraseChip fits has order = search (rules, informs_hold, erase_first)
      by_kind (WriteImage mem image) fits has order = λ q is.
          written_now mem image (actions_items done) (actions_items later) q order is
      by_kind (CompareImage mem image) fits has order = search (rules, compared_now)
      by_kind (SaveMemory mem format file) fits has order = λ q is.
          subst (λ z. AllTrue Holds (read_output plan.switches mem format file (memory_in plan.part mem z)) q) is
          (both_true Holds (saving_output file (file_text format (saved_bytes plan mem (real.memories q))))
          (bytes_output plan.switches.quiet mem (length (saved_bytes plan mem (real.memories q)))
          (codes " bytes read")) q
          (saved_now (bytes_eq file (codes "-")) mem format file q has
          (file_text format (saved_bytes plan mem (real.memories q))) refl)
          (counts_hold mem (length (saved_bytes plan mem (real.memories q))) (codes " bytes read") q
          (BytesRead mem format file has refl)))
      by_kind (SkipAction SkippedErase) fits has order = λ q is.
          unless_true Holds (nat_lt 1 plan.switches.quiet) (PrintsLine (warning (codes "chip not erased because of -n"
          ∷ []))) q (EraseLeftOut has refl)
      by_kind (SkipAction (SkippedWrite mem image)) fits has order = λ q is.
          counts_hold mem (byte_count image) (codes " bytes not written") q (WriteLeftOut mem image has refl)

  -- the memories after one more action
  one_more_action : (done : List Action) (action : Action) → effects plan.part (actions_items (done ++ action ∷ [])) m0
      ≡ effects plan.part (action_items action) (effects plan.part (actions_items done) m0)
  one_more_action done action = search (rules, items_on, append-nil, effects_on)

  -- so it is for all actions
  actions_true : (later done : List Action) → AllFitActions plan.part later → actions plan ≡ done ++ later
      → ActionsTrue plan.part real plan.switches Holds later (effects plan.part (actions_items done) m0)
  actions_true [] done fit order = tt
  actions_true (action ∷ later) done fit order = (
    action_true action done later fit.0 order,
    subst (ActionsTrue plan.part real plan.switches Holds later) (one_more_action done action)
        (actions_true later (done ++ action ∷ []) fit.1 (order ∙ sym (append_assoc done (action ∷ []) later))),
  )

  -- ---- a session

  -- so it is for a session
  pub session_reports : All (IsFitted plan.part) plan.tasks → AllWork real signature_steps m0
      → ActionsWork real (work plan) m0 → (k : ℕ) (p : real.P) (exchanges : List Exchange) → HasMemories real m0 p
      → ReportsTrue real.device (λ q event. IsTrueReport plan m0 (real.memories q) event) k (session plan) p exchanges
  session_reports fitted signs works k p exchanges idle =
      all_true real.device Holds (AtMoment plan real m0) (AtEnd plan real m0 ⊤) k (session plan) (p, exchanges)
      prints.holds
    where
      prints : Prints real.device Holds (AtMoment plan real m0) (AtEnd plan real m0 ⊤) (session plan) (p, exchanges)
      prints = session_prints plan sound real fitted Holds fails
          (λ q. informs_hold plan.switches.quiet (codes "done" ∷ []) q (SessionDone refl))
          (λ m z. Settled real m z.0) ⊤ (anyhow plan.part sound real plan.switches) m0 f0 works
          (λ q is. opening_true plan.switches.quiet q)
          (actions_true (work plan) (OpenSession ∷ []) (work_fits plan fitted) refl) (p, exchanges)
          (on_link real.device (opening_comes plan.part sound real plan.switches m0 f0 signs p idle))

-- so at the emulated programmer
pub emulated_reports : (plan : Plan) → IsPart plan.part → All (IsFitted plan.part) plan.tasks → (m : Memories)
    → FitsPart plan.part m → (k : ℕ) (p : Programmer) (exchanges : List Exchange)
    → of_emulated.HasMemories plan.part m p
    → ReportsTrue device (λ q event. IsTrueReport plan m (memories_of q.chip) event) k (session plan) p exchanges
emulated_reports plan sound fitted m f k p exchanges idle =
    session_reports plan sound (emulated plan.part sound) m f fitted (all_work plan.part sound signature_steps m)
    (actions_work plan.part sound (work plan) m) k p exchanges idle
