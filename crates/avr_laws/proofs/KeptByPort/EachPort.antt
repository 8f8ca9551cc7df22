-- Status 0 of the program means that its plan was kept, whatever its port.
use Rattle.std.proofs.Common.{◌≡◌, ◌⊎◌, ◌∙◌, inl, inr, refl, sym, ap, subst, ℕ, [], ◌∷◌, Option, Some}
use Rattle.avr_plan.specs.declared.settings.Port.{Port}
use Rattle.avr_plan.specs.declared.settings.Port.TheVariants.{Stdio, Emulated, Network, Served}
use Rattle.avr_plan.specs.declared.settings.Settings.{Settings}
use Rattle.avr_io.specs.Record.{Bytes, DeskState, Record}
use Rattle.avr_plan.specs.Plan.{Plan}
use Rattle.avr_session.specs.Run.{RunsSession, WithPlan}
use Rattle.avr_session.specs.Runs.{Devices, devices}
use Rattle.avr_tool.proofs.Runs.Joined.{session_is_run}
use Rattle.avr_tool.specs.Emulated.{RunsEmulator}
use Rattle.avr_tool.specs.Headline.{IsRun, IsStopped}
use Rattle.avr_tool.specs.OverNet.{RunsOverNet, new_link}
use Rattle.avr_tool.specs.Program.{ActsAtPort, StartsProgram}
use Rattle.avr_tool.specs.Sockets.{Peers}
use Rattle.avr_tool.specs.declared.command_line.CommandLine.{Ghosts as CommandLine}
use Rattle.stk_host.specs.Transcript.{LinkState, Transcript}
use Rattle.avr_laws.proofs.KeptByPort.InFile.{file_kept, zero_is_not_one}
use Rattle.avr_laws.proofs.Asked.Settings.{serves_or_asks}
use Rattle.avr_laws.specs.AskedSettings.{NamesPort}
use Rattle.avr_laws.specs.FilesRead.{read_whole}
use Rattle.avr_laws.specs.KeptByPort.{IsKeptInFile, KeepsPlanAt, KeepsPlan, KeepsCommandLine}

-- `run` with status 0 keeps so much of its plan
module _ (Kept : Plan → Transcript → Record → Record → Type 0)
    (promised : (s : Settings) (x y : Devices) (status : ℕ) → (IsRun s x y status ⊎ IsStopped s x y status)
    → status ≡ 0 → x.link.transcript ≡ []
    → KeepsPlan s x.desk.kept y.desk.kept [] (λ plan. Kept plan y.link.transcript x.desk.kept y.desk.kept)) where
  -- ---- a connection

  -- a session over a connection keeps its plan
  link_kept : (s : Settings) (old new : DeskState) (link : LinkState)
      → WithPlan s old (λ plan desk. RunsSession plan (devices new_link desk) (devices link new) 0)
      → KeepsPlan s old.kept new.kept [] (λ plan. Kept plan link.transcript old.kept new.kept)
  link_kept s old new link with =
      elim (session_is_run s with.plan (devices new_link old) with.between (devices link new) 0 with.made
      with.then_is).1 [
        | inl ran ↦ promised s (devices new_link old) (devices link new) 0 (inl ran.0) refl refl
        | inr stopped ↦ absurd (zero_is_not_one stopped.1)
      ]

  -- so does a run over the network
  net_kept : (peers : Peers) (s : Settings) (address : Bytes) (old new : DeskState)
      → RunsOverNet peers.unused (peers.at_address address) s address old new 0
      → (link : LinkState) × peers.at_address address (Some link)
      × KeepsPlan s old.kept new.kept [] (λ plan. Kept plan link.transcript old.kept new.kept)
  net_kept peers s address old new (inl (link, over, with)) = (link, over, link_kept s old new link with)
  net_kept peers s address old new (inr (inl (over, with, one))) = absurd (zero_is_not_one one)
  net_kept peers s address old new (inr (inr (lacks, unused))) = absurd (zero_is_not_one lacks.goes.0)

  -- ---- the emulator

  -- a run over the emulator keeps its plan for the chip of its file
  emulator_kept : (s : Settings) (file : Bytes) (old new : DeskState) → RunsEmulator s file old new 0
      → (found : Option Bytes) × KeepsPlan s old.kept new.kept (read_whole file found ∷ [])
      (λ plan. IsKeptInFile file found plan old.kept new.kept)
  emulator_kept s file old new (inl r) = file_kept s file old new r
  emulator_kept s file old new (inr (inl with)) = elim with.then_is [
    | inl (own, one, told) ↦ absurd (zero_is_not_one one)
    | inr (apart, inl (inl unheld)) ↦ absurd (zero_is_not_one unheld.0)
    | inr (apart, inl (inr vain)) ↦ absurd (zero_is_not_one vain.1.loaded.0)
    | inr (apart, inr then) ↦ absurd (zero_is_not_one then.then_is.2.0)
  ]
  emulator_kept s file old new (inr (inr lacks)) = absurd (zero_is_not_one lacks.goes.0)

  -- ---- each port

  -- nothing passed over standard streams
  none_passed : (old new : Devices) → old.link.transcript ≡ [] → new.link ≡ old.link → new.link.transcript ≡ []
  none_passed old new silent same = ap (λ (link : LinkState). link.transcript) same ∙ silent

  -- each port but a service's
  port_kept : (peers : Peers) (text : Bytes) (port : Port) (s : Settings) (old new : Devices) → NamesPort text port
      → old.link.transcript ≡ [] → ActsAtPort peers port s old new 0
      → KeepsPlanAt Kept peers.at_address port s new.link.transcript old.desk.kept new.desk.kept
  port_kept peers text Stdio s old new names silent acts = promised s old new 0 acts.0 refl silent
  port_kept peers text (Emulated file) s old new names silent acts =
      (none_passed old new silent acts.1, emulator_kept s file old.desk new.desk acts.0)
  port_kept peers text (Network address) s old new names silent acts =
      (none_passed old new silent acts.1, net_kept peers s address old.desk new.desk acts.0)
  port_kept peers text (Served port file) s old new names silent acts = absurd names

  -- a service passes nothing over standard streams
  served : (peers : Peers) (port file : Bytes) (s : Settings) (old new : Devices) → old.link.transcript ≡ []
      → ActsAtPort peers (Served port file) s old new 0 → new.link.transcript ≡ []
  served peers port file s old new silent acts = none_passed old new silent acts.1

  -- ---- the whole program

  -- so each accepted command line is kept
  pub words_kept : {C : Type 0} (line : CommandLine C) (peers : Peers) (old new : Devices) (status : ℕ)
      → StartsProgram line peers old new status → status ≡ 0 → old.link.transcript ≡ []
      → KeepsCommandLine Kept line.is_words peers.at_address new.link.transcript old.desk.kept new.desk.kept
  words_kept line peers old new status (inl (words, are, inl (inl took))) zero silent = (
    words,
    are,
    λ takes.
        let s = took.settings in
        let acts : ActsAtPort peers s.port s old new 0 =
        subst (λ (k : ℕ). ActsAtPort peers s.port s old new k) zero took.then_is in
        elim (serves_or_asks words s took.asked) [
          | inl (serves, (port, file, is)) ↦ inl (
            serves,
            served peers port file s old new silent (subst (λ (p : Port). ActsAtPort peers p s old new 0) is acts),
          )
          | inr asks ↦ inr (s, asks, port_kept peers asks.port.0 s.port s old new asks.port.2 silent acts)
        ],
  )
  words_kept line peers old new status (inl (words, are, inl (inr refuses))) zero silent =
      absurd (zero_is_not_one (sym zero ∙ refuses.status_is))
  words_kept line peers old new status (inl (words, are, inr usage)) zero silent =
      (words, are, λ taken. absurd (usage.leaves.not_taken taken))
  words_kept line peers old new status (inr (unread, one, notice, same, unused)) zero silent =
      absurd (zero_is_not_one (sym zero ∙ one))
