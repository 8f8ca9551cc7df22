-- Over any link that forges no frame whatever is reported is true.
use Rattle.stk_frame.proofs.Laws.{body_of_frame, frame_is_good}
use Rattle.std.proofs.lemmas.Bool.{cond-true}
use Rattle.std.proofs.Common.{◌≡◌, ℕ, zero, suc, List, [], ◌∷◌, ◌++◌, length, refl, ap, subst, Option, Some, None, rules}
use Rattle.stk_frame.specs.Frame.{frame}
use Rattle.stk_host.specs.Tape.{Tape, Reading, answer}
use Rattle.stk_host.specs.Dialog.{Dialog, Done, Emit, Ask, Event, Frame, Emitted, Played, played, continue_with_reading, next, frames_in}
use Rattle.stk_emu.specs.declared.fate.Fate.{Fate}
use Rattle.stk_emu.specs.Device.{Device, after_frame}
use Rattle.stk_emu.specs.Lawful.{IsFrameBody}
use Rattle.stk_emu.specs.DialogOverExchanges.{SendsValidBodies}
use Rattle.stk_emu.specs.Exchange.{Exchange, Execution, NotExecuted, Executed, ThenRestarted, ThenRestarts, execution_in, after_execution, after_exchange, first_exchange, later_exchanges, IsAuthentic}
use Rattle.stk_emu.specs.Wire.{exchanges_of_fates, executions_of_fates}
use Rattle.avr_laws.specs.AnyTape.{exchange_by, exchange_with_reply, exchanges_from, exchanges_on_tape}
use Rattle.avr_tool.specs.Authentic.{first_execution, later_executions, on_reading, RepliesAreAuthentic}
use Rattle.avr_laws.proofs.Lines.AnyTape.{authentic_exchange}
use Rattle.avr_laws.specs.TrueReports.{ReportsTrue, EmittedTrue}

-- ---- what happened to the programmer at the first frames, and their exchanges

abbrev pub ByExchanges : ℕ → List Execution → List Exchange → Type 0
ByExchanges zero executions exchanges = Unit {0}
ByExchanges (suc k) executions exchanges =
    (first_execution executions ≡ execution_in (first_exchange exchanges)) × ByExchanges k (later_executions executions)
    (later_exchanges exchanges)

-- an exchange leaves the programmer as its execution does
by_execution : {P : Type 0} (one_exchange : Exchange) (executed kept : P) (reset : P → P)
    → after_exchange one_exchange executed kept reset ≡ after_execution (execution_in one_exchange) executed kept reset
by_execution (ThenRestarts one_exchange) executed kept reset = ap reset (by_execution one_exchange executed kept reset)
by_execution z0 executed kept reset = refl

-- the fates of frames give executions and exchanges that fit each other
pub by_fates : (k : ℕ) (fates : List Fate) → ByExchanges k (executions_of_fates k fates) (exchanges_of_fates fates)
by_fates zero fates = tt
by_fates (suc k) [] = (refl, by_fates k [])
by_fates (suc k) (fate ∷ fates) = (refl, by_fates k fates)

-- the exchange that is made of an execution and a reply has this execution
of_reply : (execution : Execution) (came : List ℕ) → execution ≡ execution_in (exchange_with_reply execution came)
of_reply NotExecuted came = refl
of_reply Executed came = search rules
of_reply (ThenRestarted execution) came = ap ThenRestarted (of_reply execution came)

of_reading : (execution : Execution) (reading : Reading) → execution ≡ execution_in (exchange_by execution reading)
of_reading execution reading = search (rules, of_reply)

by_what_is_read : {E R : Type 0} (executions : List Execution) (go_on : Reading → Tape → Played E R)
    (more : Reading → Tape → List Exchange) (o : Option (Reading × Tape)) → ((reading : Reading) (left : Tape)
    → ByExchanges (length (frames_in (go_on reading left).events)) (later_executions executions) (more reading left))
    → ByExchanges (suc (length (frames_in (continue_with_reading go_on o).events))) executions
    (exchanges_from (first_execution executions) more o)
by_what_is_read executions go_on more o each = search (rules, of_reading)

-- so do the exchanges of a tape
pub by_tape : {E R : Type 0} (d : Dialog E R) (n : ℕ) (tape : Tape) (executions : List Execution)
    → ByExchanges (length (frames_in (played d n tape).events)) executions (exchanges_on_tape d n tape executions)
by_tape (Done r) n tape executions = tt
by_tape (Emit e d) n tape executions = by_tape d n tape executions
by_tape (Ask bytes go_on) n tape executions = by_what_is_read executions (λ reading. played (go_on reading) (next n))
    (λ reading left. exchanges_on_tape (go_on reading) (next n) left (later_executions executions)) (answer n tape)
    (λ reading left. by_tape (go_on reading) (next n) left (later_executions executions))

module _ {P : Type 0} (m : Device P) where
  -- whatever exchanges its commands have, a dialog reports what is true
  abbrev AlwaysTrue : {E R : Type 0} → (P → E → Type 0) → Dialog E R → P → Type 0
  AlwaysTrue T d p = (k : ℕ) (exchanges : List Exchange) → ReportsTrue m T k d p exchanges

  -- by what is read for the first command
  asked_true : {E R : Type 0} (T : P → E → Type 0) (bytes : List ℕ) (go_on : Reading → Dialog E R) (n : ℕ) (tape : Tape)
      (p : P) (executions : List Execution) (exchanges : List Exchange) (o : Option (Reading × Tape)) → answer n tape
      ≡ o → IsFrameBody bytes → AlwaysTrue T (Ask bytes go_on) p
      → ((reading : Reading) (left : Tape) (q : P) → AlwaysTrue T (go_on reading) q
      → RepliesAreAuthentic m (go_on reading) (next n) left q (later_executions executions)
      → ByExchanges (length (frames_in (played (go_on reading) (next n) left).events)) (later_executions executions)
      (later_exchanges exchanges)
      → EmittedTrue m T (played (go_on reading) (next n) left).events (later_exchanges exchanges) q)
      → on_reading (λ reading left. IsAuthentic m bytes p (first_execution executions) reading
      × RepliesAreAuthentic m (go_on reading) (next n) left (after_execution (first_execution executions)
      (m.after bytes p) p m.reset) (later_executions executions)) o
      → ByExchanges (suc (length (frames_in (continue_with_reading (λ reading. played (go_on reading) (next n))
      o).events))) executions exchanges → EmittedTrue m T (Frame (frame n bytes)
      ∷ (continue_with_reading (λ reading. played (go_on reading) (next n)) o).events) exchanges p
  asked_true T bytes go_on n tape p executions exchanges None is_read b is_reported each h same = tt
  asked_true T bytes go_on n tape p executions exchanges (Some (reading, left)) is_read b is_reported each h same =
      let execution = first_execution executions in
      let q = after_execution execution (m.after bytes p) p m.reset in
      let t = authentic_exchange m bytes p execution reading h.0 in
      let inner : AlwaysTrue T (go_on reading) q =
      λ k exchanges. subst (λ r. ReportsTrue m T k (go_on reading) r exchanges) t.1
      (subst (λ x. ReportsTrue m T k (go_on x) (after_exchange (exchange_by execution reading) (m.after bytes p) p
      m.reset) exchanges) t.0 (is_reported (suc k) (exchange_by execution reading ∷ exchanges))) in
      search (rules, cond-true, frame_is_good, body_of_frame, by_execution)

  -- over an authentic tape each output event was true when it was put out
  pub reported_any : {E R : Type 0} (T : P → E → Type 0) (d : Dialog E R) (n : ℕ) (tape : Tape) (p : P)
      (executions : List Execution) (exchanges : List Exchange) → SendsValidBodies d → AlwaysTrue T d p
      → RepliesAreAuthentic m d n tape p executions → ByExchanges (length (frames_in (played d n tape).events))
      executions exchanges → EmittedTrue m T (played d n tape).events exchanges p
  reported_any T (Done r) n tape p executions exchanges asks is_reported h same = tt
  reported_any T (Emit e d) n tape p executions exchanges asks is_reported h same = (
    (is_reported 0 []).0,
    reported_any T d n tape p executions exchanges asks (λ k exchanges. (is_reported k exchanges).1) h same,
  )
  reported_any T (Ask bytes go_on) n tape p executions exchanges asks is_reported h same =
      asked_true T bytes go_on n tape p executions exchanges (answer n tape) refl asks.0 is_reported
      (λ reading left q inner is_authentic alike. reported_any T (go_on reading) (next n) left q
      (later_executions executions) (later_exchanges exchanges) (asks.1 reading) inner is_authentic alike) h same

  -- so of a prefix of the events
  pub results_prefix : {E : Type 0} (T : P → E → Type 0) (x y : List (Event E)) (exchanges : List Exchange) (p : P)
      → EmittedTrue m T (x ++ y) exchanges p → EmittedTrue m T x exchanges p
  results_prefix T [] y exchanges p all = tt
  results_prefix T (Frame bytes ∷ x) y exchanges p all = results_prefix T x y (later_exchanges exchanges)
      (after_exchange (first_exchange exchanges) (after_frame m bytes p) p m.reset) all
  results_prefix T (Emitted e ∷ x) y exchanges p all = (all.0, results_prefix T x y exchanges p all.1)
