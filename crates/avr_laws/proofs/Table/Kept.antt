-- With status 0 the plan is kept, at any programmer that keeps the rows that a sheet vouches for.
use Rattle.std.proofs.Common.{◌≡◌, ◌⊎◌, ℕ, inl, inr, refl, subst, arith, []}
use Rattle.avr_io.specs.Stage.{Produced}
use Rattle.avr_part.specs.declared.part.Mem.{Mem}
use Rattle.avr_part.specs.Part.{Part}
use Rattle.avr_plan.specs.Plan.{Plan}
use Rattle.avr_plan.specs.Planning.{planned}
use Rattle.avr_plan.specs.declared.settings.Settings.{Settings}
use Rattle.avr_session.specs.Runs.{Devices}
use Rattle.stk_emu.specs.Device.{Device}
use Rattle.stk_emu.specs.Effect.{Memories}
use Rattle.stk_host.specs.ReadSteps.{signature_steps}
use Rattle.avr_tool.specs.Headline.{IsRun, IsStopped}
use Rattle.avr_tool.proofs.Plans.Fits.{work}
use Rattle.avr_laws.specs.Kept.{on_part}
use Rattle.avr_laws.specs.KeptByAny.{IsKeptByAny}
use Rattle.avr_laws.specs.KeptByPort.{KeepsPlan}
use Rattle.avr_laws.specs.Sheet.{IsVouched}
use Rattle.avr_laws.proofs.Table.ByTasks.{plan_works, signature_works}
use Rattle.avr_laws.proofs.Table.RealOf.{actions_work, real_of, steps_work}
use Rattle.avr_laws.proofs.Outcomes.Kept.{kept_on_part}
use Rattle.avr_laws.proofs.Outcomes.Promise.{keeps_plan, made}

module _ {P : Type 0} (part : Part) (m : Device P) (view : P → Memories) (IsIn IsReady : P → Type 0)
    (becomes : Mem → ℕ → ℕ) where
  -- so the plan is kept at any programmer
  pub kept_by_any : (s : Settings) (plan : Plan) (old new : Devices) (r : IsRun s old new 0)
      → (planned s r.openings).stage_outcome ≡ Produced plan → old.link.transcript ≡ []
      → IsKeptByAny part m view IsIn IsReady becomes plan new.link.transcript old.desk.kept new.desk.kept
  unfolding real_of
  kept_by_any s plan old new r made_is silent sound fits meets p executions is_in sizes suits none =
      let V = IsVouched becomes part in
      kept_on_part s plan old new r made_is silent part sound fits (real_of part sound m view IsIn IsReady V meets) p
      executions sizes (record { memories = refl; is = is_in })
      (steps_work part sound m view IsIn IsReady V meets signature_steps (view p)
      (signature_works becomes part (view p)))
      (actions_work part sound m view IsIn IsReady V meets (work (on_part part plan)) (view p)
      (plan_works becomes (on_part part plan) (view p) suits)) none

  -- whatever a call over a link and a desk came to, as avr_tool's `run` states it
  pub promised_by_any : (s : Settings) (x y : Devices) (status : ℕ) → (IsRun s x y status ⊎ IsStopped s x y status)
      → status ≡ 0 → x.link.transcript ≡ [] → KeepsPlan s x.desk.kept y.desk.kept []
      (λ plan. IsKeptByAny part m view IsIn IsReady becomes plan y.link.transcript x.desk.kept y.desk.kept)
  promised_by_any s x y status (inl ran) zero silent =
      let r : IsRun s x y 0 = subst (λ (k : ℕ). IsRun s x y k) zero ran in
      let plan : Plan = (made s x y r).0 in
      let made_is : (planned s r.openings).stage_outcome ≡ Produced plan = (made s x y r).1 in
      keeps_plan s x y r plan made_is silent
      (λ plan. IsKeptByAny part m view IsIn IsReady becomes plan y.link.transcript x.desk.kept y.desk.kept)
      (kept_by_any s plan x y r made_is silent)
  promised_by_any s x y status (inr stopped) zero silent = absurd (let one = stopped.1 in omega (arith, one, zero))
