-- Whatever the status, the plan's first write operations were made and each report was true, at any programmer that
-- keeps the rows that a sheet vouches for.
use Rattle.std.proofs.Common.{◌≡◌, ℕ, List, refl, subst}
use Rattle.std.specs.Prelude.{All}
use Rattle.avr_part.specs.declared.part.Mem.{Mem}
use Rattle.avr_part.specs.Part.{Part, IsPart}
use Rattle.avr_plan.specs.Plan.{Plan, IsFitted}
use Rattle.avr_session.specs.Session.{session}
use Rattle.stk_emu.specs.Device.{Device}
use Rattle.stk_emu.specs.Effect.{Memories}
use Rattle.stk_emu.specs.Exchange.{Exchange}
use Rattle.stk_emu.specs.Settled.{FitsPart}
use Rattle.stk_host.specs.Dialog.{bytes_sent, played}
use Rattle.stk_host.specs.Play.{IsBytePrefixOf}
use Rattle.stk_host.specs.ReadSteps.{signature_steps}
use Rattle.stk_host.specs.Transcript.{Transcript, heard, sent}
use Rattle.avr_tool.proofs.Plans.Fits.{work}
use Rattle.avr_laws.specs.BegunByPort.{IsBegunByAny, IsSparedByAny}
use Rattle.avr_laws.specs.Kept.{on_part}
use Rattle.avr_laws.specs.Sheet.{IsVouched, SuitsPlan}
use Rattle.avr_laws.specs.Table.{IsProgrammer}
use Rattle.avr_laws.specs.TrueReports.{IsTrueReport, ReportsTrue}
use Rattle.avr_laws.proofs.Table.ByTasks.{plan_works, signature_works}
use Rattle.avr_laws.proofs.Table.RealOf.{actions_work, real_of, steps_work}
use Rattle.avr_laws.proofs.Outcomes.Begun.{first_made}
use Rattle.avr_laws.proofs.Outcomes.Spared.{spared}
use Rattle.avr_laws.proofs.Reports.Truth.{session_reports}

-- the plan's first write operations
pub begun_by_any : {P : Type 0} (part : Part) (m : Device P) (view : P → Memories) (IsIn IsReady : P → Type 0)
    (becomes : Mem → ℕ → ℕ) (plan : Plan) → All (IsFitted plan.part) plan.tasks → (passed : Transcript)
    → IsBytePrefixOf (sent passed) (bytes_sent (played (session plan) 1 (heard passed)).events)
    → IsBegunByAny part m view IsIn IsReady becomes plan passed
unfolding real_of
begun_by_any part m view IsIn IsReady becomes plan fitted passed prefix sound fits own meets p executions is_in
    sizes suits none =
    let V = IsVouched becomes part in
    first_made plan part sound fits own (real_of part sound m view IsIn IsReady V meets) fitted (heard passed)
    (sent passed) prefix p sizes (record { memories = refl; is = is_in })
    (steps_work part sound m view IsIn IsReady V meets signature_steps (view p)
    (signature_works becomes part (view p)))
    (actions_work part sound m view IsIn IsReady V meets (work (on_part part plan)) (view p)
    (plan_works becomes (on_part part plan) (view p) suits)) executions none

-- without -F a chip of another signature
pub spared_by_any : {P : Type 0} (part : Part) (m : Device P) (view : P → Memories) (IsIn IsReady : P → Type 0)
    (becomes : Mem → ℕ → ℕ) (plan : Plan) → All (IsFitted plan.part) plan.tasks → (passed : Transcript)
    → IsBytePrefixOf (sent passed) (bytes_sent (played (session plan) 1 (heard passed)).events)
    → IsSparedByAny part m view IsIn IsReady becomes plan passed
unfolding real_of
spared_by_any part m view IsIn IsReady becomes plan fitted passed prefix here sound unforced other meets p executions
    is_in sizes none =
    let V = IsVouched becomes part in
    spared plan fitted here passed prefix part sound (real_of part sound m view IsIn IsReady V meets) unforced other p
    sizes (record { memories = refl; is = is_in })
    (steps_work part sound m view IsIn IsReady V meets signature_steps (view p)
    (signature_works becomes part (view p))) executions none

-- the reports
pub reports_by_any : {P : Type 0} (part : Part) (m : Device P) (view : P → Memories) (IsIn IsReady : P → Type 0)
    (becomes : Mem → ℕ → ℕ) (plan : Plan) (k : ℕ) (p : P) (exchanges : List Exchange) → IsPart part
    → part ≡ plan.part → All (IsFitted plan.part) plan.tasks
    → IsProgrammer part m view IsIn IsReady (IsVouched becomes part) → IsIn p → FitsPart part (view p)
    → SuitsPlan becomes plan (view p)
    → ReportsTrue m (λ q event. IsTrueReport plan (view p) (view q) event) k (session plan) p exchanges
unfolding real_of
reports_by_any part m view IsIn IsReady becomes plan k p exchanges sound same fitted meets is_in sizes suits =
    let V = IsVouched becomes plan.part in
    let here : IsPart plan.part = subst IsPart same sound in
    let keeps : IsProgrammer plan.part m view IsIn IsReady V =
    subst (λ (part : Part). IsProgrammer part m view IsIn IsReady (IsVouched becomes part)) same meets in
    session_reports plan here (real_of plan.part here m view IsIn IsReady V keeps) (view p)
    (subst (λ (part : Part). FitsPart part (view p)) same sizes) fitted
    (steps_work plan.part here m view IsIn IsReady V keeps signature_steps (view p)
    (signature_works becomes plan.part (view p)))
    (actions_work plan.part here m view IsIn IsReady V keeps (work plan) (view p)
    (plan_works becomes plan (view p) suits)) k p exchanges (record { memories = refl; is = is_in })
