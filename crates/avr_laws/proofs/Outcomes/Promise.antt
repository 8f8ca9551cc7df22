-- Status 0 means the images, over any link that forges no frame.
use Rattle.std.proofs.Common.{◌≡◌, ℕ, length, All, List, [], ◌++◌, map, Some, refl, sym, ap, ◌∙◌, subst, rules}
use Rattle.std.proofs.lemmas.List.{append-nil, take_all}
use Rattle.avr_plan.specs.declared.settings.Settings.{Settings}
use Rattle.avr_io.specs.Record.{ChangesRecord}
use Rattle.avr_io.specs.OutputEvents.{OutputEvent, after_events}
use Rattle.avr_io.specs.Stage.{Produced, StageOutcome, events_with_refusal}
use Rattle.avr_plan.specs.Plan.{Plan, IsFitted}
use Rattle.avr_plan.specs.Planning.{planned}
use Rattle.avr_session.specs.Runs.{Devices}
use Rattle.avr_session.specs.Session.{session}
use Rattle.avr_laws.specs.AnyTape.{GoesAlongExchanges, after_sent_frames, exchanges_on_tape}
use Rattle.avr_tool.specs.ExpectedRun.{expected_run}
use Rattle.avr_laws.specs.NoForgedFrame.{ForgesNoFrame}
use Rattle.stk_emu.specs.Effect.{Memories}
use Rattle.stk_emu.specs.Exchange.{Execution}
use Rattle.stk_frame.specs.Cut.{frames}
use Rattle.stk_host.specs.Dialog.{Done, Event, Played, Emitted, frames_in, prepend_events, bytes_sent, outputs, played}
use Rattle.stk_host.specs.Tape.{Tape, on_tape}
use Rattle.stk_host.specs.Transcript.{Transcript, heard, sent}
use Rattle.avr_tool.specs.Headline.{run_after_planning, IsRun}
use Rattle.avr_tool.proofs.Runs.Joined.{emitted_bytes, emitted_outputs}
use Rattle.avr_laws.specs.Kept.{FilesAreSaved, Keeps, saved_files}
use Rattle.avr_laws.specs.KeptByPort.{KeepsPlan}
use Rattle.avr_laws.specs.OnlyReading.{OnlyReadsAndPrints}
use Rattle.avr_laws.proofs.Outcomes.Alike.{AreAlike, same_bytes, same_events, same_outcome}
use Rattle.avr_laws.proofs.Outcomes.ByTasks.{made_by_tasks, tasks_agree}
use Rattle.avr_laws.proofs.Outcomes.Openings.{run_keeps}
use Rattle.avr_laws.proofs.Outcomes.Saved.{WritesFiles, both_write, expected_writes, reading_writes, these_saved, writes_alike}
use Rattle.avr_laws.proofs.Plans.OnlyReading.{only_reads}
use Rattle.avr_part.specs.Part.{IsPart}
use Rattle.stk_host.specs.ReadSteps.{signature_steps}
use Rattle.avr_tool.proofs.Plans.Fits.{work}
use Rattle.avr_tool.proofs.Real.{ActionsWork, AllWork, Real, HasMemories}
use Rattle.avr_tool.proofs.OverFaultyLink.Outcomes.{session_leaves, session_succeeds}
use Rattle.stk_emu.specs.Settled.{FitsPart}
use Rattle.stk_emu.specs.Exchange.{Exchange}
use Rattle.stk_emu.specs.DialogOverExchanges.{state_after, outputs_after, SendsValidBodies}
use Rattle.avr_tool.specs.Outcome.{IsDone, IsExpectedRun}
use Rattle.avr_tool.proofs.OverFaultyLink.FrameSizes.{session_asks}
use Rattle.avr_tool.proofs.Lines.InTurn.{sends_whole, frames_sent}
use Rattle.avr_tool.proofs.Memories.VerifiedRuns.{run_written}
use Rattle.avr_laws.proofs.Lines.AnyTape.{goes_as}
use Rattle.avr_laws.proofs.Lines.NoForgedFrame.{no_forged_frame_authentic}

module _ (s : Settings) (old new : Devices) (r : IsRun s old new 0) where
  abbrev pub tape : Tape
  tape = heard r.during

  abbrev pub left_over : Tape
  left_over = on_tape r.left ++ []

  abbrev before : List (Event OutputEvent)
  before = map Emitted (planned s r.openings).output_events

  -- the run over exactly what was opened and received
  over : prepend_events before (run_after_planning (planned s r.openings).stage_outcome tape)
      ≡ record { events = r.events; outcome = Some (0, r.next, left_over) }
  over = search (rules, append-nil r.openings, append-nil tape)

  -- planning made a plan
  pub made : (plan : Plan) × ((planned s r.openings).stage_outcome ≡ Produced plan)
  made = search (rules, over)

  module _ (plan : Plan) (made_is : (planned s r.openings).stage_outcome ≡ Produced plan) (silent : old.link.transcript
      ≡ []) where
    -- all that passed, passed during the run
    pub same : new.link.transcript ≡ r.during
    same = r.grows ∙ ap (λ (t : Transcript). t ++ r.during) silent

    abbrev pub done : List (Event OutputEvent)
    done = (played (session plan) 1 tape).events

    -- the session's part of the run
    over_plan : prepend_events before (played (session plan) 1 tape)
        ≡ record { events = r.events; outcome = Some (0, r.next, left_over) }
    over_plan = search (rules, over)

    -- so the session ended with status 0
    pub played_is : played (session plan) 1 tape ≡ record { events = done; outcome = Some (0, r.next, left_over) }
    played_is = ap (λ (p : Played OutputEvent ℕ). record { events = done; outcome = p.outcome }) over_plan

    -- the session's frames are those that were sent
    pub sent_is : bytes_sent done ≡ sent r.during
    sent_is = search (rules, emitted_bytes, over_plan)

    -- the run put out what planning and the session put out
    outputs_are : outputs r.events ≡ (planned s r.openings).output_events ++ outputs done
    outputs_are = search (rules, over_plan, emitted_outputs)

    -- planning only reads and reports
    only_read : OnlyReadsAndPrints (planned s r.openings).output_events
    only_read = subst (λ (stage_outcome : StageOutcome Plan). OnlyReadsAndPrints
        (events_with_refusal (planned s r.openings).output_events stage_outcome)) made_is (only_reads s r.openings)

    -- so the plan is the one that the settings and the files that were opened ask for
    pub keeps_plan : (IsSo : Plan → Type 0) → IsSo plan → KeepsPlan s old.desk.kept new.desk.kept [] IsSo
    keeps_plan IsSo so = search (rules, run_keeps, outputs_are)

    -- A plan whose session differs from this one in printed lines alone was kept: this plan on a chip of another
    -- signature.
    module _ (other : Plan) (are_alike : AreAlike (session plan) (session other)) where
      abbrev pub done_other : List (Event OutputEvent)
      done_other = (played (session other) 1 tape).events

      -- the other session has the same result
      other_played : played (session other) 1 tape
          ≡ record { events = done_other; outcome = Some (0, r.next, left_over) }
      other_played = search (rules, same_outcome, played_is)

      -- it sends the same bytes
      pub other_sent : bytes_sent done_other ≡ sent r.during
      other_sent = sym (same_bytes are_alike 1 tape) ∙ sent_is

      -- and saves the same files
      keeps_files : (m : Memories) → (expected_run other m).status ≡ 0
          → outputs done_other ≡ (expected_run other m).output_events
          → FilesAreSaved (saved_files other m) old.desk.kept new.desk.kept
      keeps_files m zero emitted =
          these_saved ((planned s r.openings).output_events ++ outputs done) (saved_files other m) old.desk new.desk
          (both_write (planned s r.openings).output_events (outputs done) [] (saved_files other m)
          (reading_writes (planned s r.openings).output_events only_read)
          (writes_alike done_other done (saved_files other m) (sym (same_events are_alike 1 tape))
          (subst (λ (output_events : List OutputEvent). WritesFiles output_events (saved_files other m)) (sym emitted)
          (expected_writes other m zero))))
          (subst (λ (output_events : List OutputEvent). ChangesRecord (after_events output_events) old.desk new.desk)
          outputs_are r.kept)

      module _ (fitted : All (IsFitted other.part) other.tasks) (real : Real other.part) (sound : IsPart other.part)
          (p : real.P) (sizes : FitsPart other.part (real.memories p)) (idle : HasMemories real (real.memories p) p)
          (signs : AllWork real signature_steps (real.memories p))
          (works : ActionsWork real (work other) (real.memories p)) (executions : List Execution)
          (none : ForgesNoFrame real.device (session other) 1 tape p executions []) where
        abbrev m0 : Memories
        m0 = real.memories p

        abbrev q : real.P
        q = after_sent_frames real.device (frames (sent r.during)) executions p

        abbrev exchanges : List Exchange
        exchanges = exchanges_on_tape (session other) 1 tape executions

        abbrev count : ℕ
        count = length (frames_in done_other)

        bodies : SendsValidBodies (session other)
        bodies = session_asks other sound fitted

        -- it goes along the exchanges of its tape
        goes : GoesAlongExchanges real.device (session other) 1 tape p executions
        goes = search (rules, goes_as, bodies, no_forged_frame_authentic)

        -- its frames are those that were sent
        frames_are : frames_in done_other ≡ frames (sent r.during)
        frames_are = sym (frames_sent done_other (sends_whole (session other) 1 tape bodies)) ∙ ap frames other_sent

        -- they leave this programmer
        stands : (state_after real.device count (session other) p exchanges).programmer ≡ q
        stands = search (rules, take_all, frames_are, goes.programmer)

        -- after them the session has ended with status 0
        ended : ((state_after real.device count (session other) p exchanges).dialog ≡ Done 0)
            × (outputs done_other ≡ outputs_after real.device count (session other) p exchanges)
        ended = goes.outcome 0 r.next left_over (ap (λ (o : Played OutputEvent ℕ). o.outcome) other_played)

        -- so all write operations were done
        done_there : IsDone other m0 (real.memories q)
        done_there = subst (λ (z : real.P). IsDone other m0 (real.memories z)) stands
            ((session_leaves other sound real m0 sizes fitted signs works p exchanges idle).after count 0 ended.0 refl)

        -- and the output is that of the expected run
        expected_there : IsExpectedRun other m0
            (real.memories (state_after real.device count (session other) p exchanges).programmer)
            (outputs_after real.device count (session other) p exchanges) 0
        expected_there = search (rules, session_succeeds, ended.0)

        -- so the plan is kept
        pub promise_for : Keeps other m0 (real.memories q) old.desk.kept new.desk.kept
        promise_for = record {
          made = made_by_tasks other m0 (real.memories q) done_there;
          agrees = tasks_agree other m0 done_there.agrees;
          images = λ verified. run_written other m0 (real.memories q) fitted verified done_there sound sizes;
          saved = keeps_files m0 (sym expected_there.status_is) (ended.1 ∙ expected_there.emitted);
        }
