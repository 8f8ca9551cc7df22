-- A run that came to its end is the same over a longer tape.
use Rattle.std.proofs.Common.{◌≡◌, ℕ, ap, refl, List, [], ◌∷◌, ◌++◌, Option, Some, None, rules}
use Rattle.avr_plan.specs.declared.settings.Settings.{Settings}
use Rattle.avr_io.specs.declared.record.Opening.{Opening}
use Rattle.avr_tool.proofs.StepData.LongerTape.{reading_extends}
use Rattle.stk_frame.specs.Frame.{frame}
use Rattle.stk_host.specs.Dialog.{Dialog, Done, Emit, Ask, Frame, Emitted, played, prepend_events, continue_with_reading, next}
use Rattle.stk_host.specs.Tape.{Tape, Reading, answer}
use Rattle.avr_tool.specs.Headline.{run}

-- ---- more of a tape doesn't change a run that came to its end

ended_more : {E R : Type 0} (d : Dialog E R) (seq : ℕ) (t u : Tape) (r : R) (n : ℕ) (left : Tape)
    → (played d seq t).outcome ≡ Some (r, n, left)
    → played d seq (t ++ u) ≡ record { events = (played d seq t).events; outcome = Some (r, n, left ++ u) }
ended_more (Done a) seq t u r n left is = search rules
ended_more (Emit emitted d) seq t u r n left is =
    ap (prepend_events (Emitted emitted ∷ [])) (ended_more d seq t u r n left is)
ended_more {E = E} {R = R} (Ask body resume) seq t u r n left is =
    by_reading (answer seq t) (λ reading rest ended. ended_more (resume reading) (next seq) rest u r n left ended)
    refl is
  where
    by_reading : (o : Option (Reading × Tape))
        → ((reading : Reading) (rest : Tape) → (played (resume reading) (next seq) rest).outcome ≡ Some (r, n, left)
        → played (resume reading) (next seq) (rest ++ u)
        ≡ record { events = (played (resume reading) (next seq) rest).events; outcome = Some (r, n, left ++ u) })
        → answer seq t ≡ o → (continue_with_reading (λ reading. played (resume reading) (next seq)) o).outcome
        ≡ Some (r, n, left) → prepend_events (Frame (frame seq body)
        ∷ []) (continue_with_reading (λ reading. played (resume reading) (next seq)) (answer seq (t ++ u)))
        ≡ record {
          events = Frame (frame seq body)
              ∷ (continue_with_reading (λ reading. played (resume reading) (next seq)) (answer seq t)).events;
          outcome = Some (r, n, left ++ u);
        }
    by_reading None behind_it found ended = search rules
    by_reading (Some (reading, rest)) behind_it found ended = search (rules, reading_extends)

-- so it is with a run
pub run_more : (s : Settings) (openings : List Opening) (t u : Tape) (status n : ℕ) (left : Tape)
    → (run s openings t).outcome ≡ Some (status, n, left)
    → run s openings (t ++ u) ≡ record { events = (run s openings t).events; outcome = Some (status, n, left ++ u) }
run_more s openings t u status n left is = search (rules, ended_more)
