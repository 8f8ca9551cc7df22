-- Outcomes that no run over a wire has.
use Rattle.std.proofs.Common.{◌≡◌, ◌<◌, ◌*◌, ℕ, List, [], ◌++◌, flat_map, map, sum_by, ap, sym, ◌∙◌, subst, refl, Option, Some, rules}
use Rattle.avr_io.specs.Record.{DeskState, ChangesRecord}
use Rattle.avr_io.specs.declared.record.Opening.{Opening}
use Rattle.avr_io.specs.OutputEvents.{after_events}
use Rattle.avr_plan.specs.Plan.{Plan}
use Rattle.avr_session.specs.Runs.{devices}
use Rattle.avr_session.specs.Session.{session}
use Rattle.avr_session.specs.Stopping.{link_state}
use Rattle.stk_frame.specs.Commands.{body}
use Rattle.stk_frame.specs.Cut.{body_of, frames}
use Rattle.stk_host.specs.Dialog.{bytes_sent, outputs}
use Rattle.stk_host.specs.Operations.{handshake, opening, closing, operation}
use Rattle.stk_host.specs.Steps.{exchange, attempt, attempts_or_fault, play}
use Rattle.stk_host.specs.Transcript.{Transcript, sent, heard}
use Rattle.stk_host.specs.Tape.{answer, on_tape}
use Rattle.stk_emu.specs.Effect.{effects}
use Rattle.stk_emu.specs.Wired.{WiredState}
use Rattle.avr_tool.specs.OverFaultyLink.{SessionOverWire, memories}
use Rattle.avr_session.specs.PlanSteps.{run_steps}
use Rattle.avr_tool.specs.ExpectedRun.{expected_run}
use Rattle.avr_tool.specs.Items.{items}
use Rattle.avr_laws.proofs.AnyWire.{came_to, untouched}
use Rattle.avr_tool.specs.Headline.{run, IsRun}
use Rattle.avr_laws.specs.Worked.{worked_settings, worked_replies, worked_frames, worked_lines}

-- equal options have equal values
some_is : {A : Type 0} (a b : A) → ◌≡◌ {A = Option A} (Some a) (Some b) → a ≡ b
some_is a b e = cc

-- a run that sends more than four times its commands
pub too_much : (plan : Plan) (w v : WiredState) (d e : DeskState) (status : ℕ) (weight : List ℕ → ℕ)
    → 4 * sum_by weight (flat_map (map body) (run_steps plan)) < sum_by weight
    (map body_of (frames (sent v.transcript))) → SessionOverWire plan w v d e status → ⊥
too_much plan w v d e status weight more over = search rules

-- memories other than those that the plan's items leave, with status 0
pub not_all_written : (plan : Plan) (w v : WiredState) (d e : DeskState)
    → (memories v ≡ effects plan.part (items plan) (memories w) → ⊥) → SessionOverWire plan w v d e 0 → ⊥
not_all_written plan w v d e other over = other ((came_to plan w v d e 0 over refl).0.done refl).memories

-- output other than that of the expected run, with status 0
pub output_otherwise : (plan : Plan) (w v : WiredState) (d e : DeskState)
    → (ChangesRecord (after_events (expected_run plan (memories w)).output_events) d e → ⊥)
    → SessionOverWire plan w v d e 0 → ⊥
output_otherwise plan w v d e other over = search rules

-- a chip that changed though no frame was sent
pub touched_in_silence : (plan : Plan) (w v : WiredState) (d e : DeskState) (status : ℕ)
    → frames (sent v.transcript) ≡ [] → (memories v ≡ memories w → ⊥) → SessionOverWire plan w v d e status → ⊥
touched_in_silence plan w v d e status none other over = other (untouched plan w v d e status over none)

-- ---- the worked run

-- the worked run, over all its replies, has this status
pub status_due : (openings : List Opening) → (run worked_settings openings worked_replies).outcome ≡ Some (0, 7, [])
unfolding session opening handshake operation closing play attempts_or_fault attempt exchange answer
status_due openings = refl

-- it sends these frames
pub sent_due : (openings : List Opening) → bytes_sent (run worked_settings openings worked_replies).events
    ≡ worked_frames
unfolding session opening handshake operation closing play attempts_or_fault attempt exchange answer
sent_due openings = refl

-- it prints these lines
pub emitted_due : (openings : List Opening) → outputs (run worked_settings openings worked_replies).events
    ≡ worked_lines
unfolding session opening handshake operation closing play attempts_or_fault attempt exchange answer
emitted_due openings = refl

module _ (transcript : Transcript) (a b : ℕ) (d e : DeskState) (status : ℕ) (all : heard transcript ≡ worked_replies)
    (x : IsRun worked_settings (devices (link_state [] a) d) (devices (link_state transcript b) e) status) where
  passed : x.during ≡ transcript
  passed = sym x.grows

  played_over : run worked_settings (x.openings ++ []) (worked_replies ++ [])
      ≡ record { events = x.events; outcome = Some (status, x.next, on_tape x.left ++ []) }
  played_over = subst (λ tape. run worked_settings (x.openings ++ []) (tape ++ [])
      ≡ record { events = x.events; outcome = Some (status, x.next, on_tape x.left ++ []) }) (ap heard passed ∙ all)
      (x.is [] [])

  -- its status is 0
  pub worked_status : status ≡ 0
  worked_status = ap (λ z. z.0) (some_is (status, x.next, on_tape x.left ++ []) (0, 7, [])
      (sym (ap (λ p. p.outcome) played_over) ∙ status_due (x.openings ++ [])))

  -- it sent the worked frames
  pub worked_sent : sent transcript ≡ worked_frames
  worked_sent = ap sent (sym passed) ∙ (sym x.all_sent
      ∙ (sym (ap (λ p. bytes_sent p.events) played_over) ∙ sent_due (x.openings ++ [])))

  -- it printed the worked lines
  worked_emitted : outputs x.events ≡ worked_lines
  worked_emitted = sym (ap (λ p. outputs p.events) played_over) ∙ emitted_due (x.openings ++ [])

-- so another status is refused
pub another_status : (transcript : Transcript) (a b : ℕ) (d e : DeskState) → heard transcript ≡ worked_replies
    → IsRun worked_settings (devices (link_state [] a) d) (devices (link_state transcript b) e) 1 → ⊥
another_status transcript a b d e all x = search (rules, worked_status transcript a b d e 1 all x)

-- so are other frames
pub another_frame : (transcript : Transcript) (a b : ℕ) (d e : DeskState) (status : ℕ)
    → heard transcript ≡ worked_replies → (sent transcript ≡ worked_frames → ⊥)
    → IsRun worked_settings (devices (link_state [] a) d) (devices (link_state transcript b) e) status → ⊥
another_frame transcript a b d e status all other x = other (worked_sent transcript a b d e status all x)

-- so are other lines
pub another_line : (transcript : Transcript) (a b : ℕ) (d e : DeskState) (status : ℕ)
    → heard transcript ≡ worked_replies → (ChangesRecord (after_events worked_lines) d e → ⊥)
    → IsRun worked_settings (devices (link_state [] a) d) (devices (link_state transcript b) e) status → ⊥
another_line transcript a b d e status all other x = search (rules, worked_emitted, x.kept)
