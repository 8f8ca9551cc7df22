-- A device behind a link that may make any exchange of any command, in the logic of dialogs: attempts and steps of a
-- host.
use Rattle.std.proofs.Common.{◌≡◌, ℕ, zero, suc, List, [], ◌∷◌, ◌++◌, length, refl, sym, subst, ◌⊎◌, inl, inr, Ok, Err, rules}
use Rattle.stk_frame.specs.declared.command.Command.{Command}
use Rattle.stk_frame.specs.Commands.{body}
use Rattle.stk_host.specs.declared.fault.StepFault.{StepFault}
use Rattle.stk_host.specs.declared.fault.StepFault.TheVariants.{LinkEnded, NoAnswer}
use Rattle.stk_host.specs.Tape.{Reading}
use Rattle.stk_host.specs.Dialog.{Dialog, Done, Emit, Ask}
use Rattle.stk_host.specs.Steps.{Reply, Data, Again, Stop, reply_from_reading, with_data, exchange, attempt, StepOutcome, step}
use Rattle.stk_host.proofs.Dialogs.Logic.{World, HoldsFrom, Upholds, NoOutput, OnReply, OnOutcome, done, ask, wider, attempts}
use Rattle.stk_emu.specs.Exchange.{Exchange, Execution, NotExecuted, Executed, ThenRestarted, AsIntended, Disturbed, ThenRestarts}
use Rattle.stk_emu.specs.Exchange.{after_execution, after_exchange, reading_of_exchange, first_exchange, later_exchanges}
use Rattle.stk_emu.specs.Device.{Device}
use Rattle.stk_emu.specs.DialogOverExchanges.{state_after}
use Rattle.stk_emu.proofs.Repeatable.{on_data, joined_reply, reply_to, after_commands, AreReplied, FailsAt, FailOnceRestarted, Unbroken, IsRepeatable}
use Rattle.avr_tool.proofs.Leads.{Leads, IsDataOfAttempt}

-- What holds at each move holds along all links, so no list of exchanges and no count of commands is needed.
abbrev pub over_any_exchange : {P : Type 0} → Device P → World P Exchange
over_any_exchange m = record {
  reads = λ bytes p one_exchange. reading_of_exchange one_exchange (m.reply bytes p);
  after = λ bytes p one_exchange. after_exchange one_exchange (m.after bytes p) p m.reset;
}

-- two dialogs that are done alike have one result
pub done_is : {E R : Type 0} (a b : R) → ◌≡◌ {A = Dialog E R} (Done a) (Done b) → a ≡ b
done_is a b e = cc

-- a dialog that asks is not done
pub asks≢done : {E R : Type 0} (bytes : List ℕ) (go_on : Reading → Dialog E R) (r : R)
    → ◌≡◌ {A = Dialog E R} (Ask bytes go_on) (Done r) → ⊥
asks≢done bytes go_on r e = cc

-- data come of a reply that has some
pub data_in : (reply : Reply) (go_on : List ℕ → Reply) (got : List ℕ) → on_data reply go_on ≡ Data got
    → (bytes : List ℕ) × ((reply ≡ Data bytes) × (go_on bytes ≡ Data got))
data_in reply go_on got e = search rules

module _ {P : Type 0} (m : Device P) where
  -- the data of all commands are those of each
  pub all_replied : (commands : List Command) (before got : List ℕ) (p : P)
      → joined_reply m commands before p ≡ Data got → AreReplied m (length commands) commands p
  all_replied (command ∷ next ∷ commands) before got p has =
      let first = data_in (reply_to m command p) (λ bytes. joined_reply m (next ∷ commands) (before ++ bytes)
      (m.after (body command) p)) got has in
      ((first.0, first.1.0), all_replied (next ∷ commands) (before ++ first.0) got (m.after (body command) p) first.1.1)
  all_replied commands before got p has = tt

  -- what a dialog upholds holds along each link
  module _ {E R : Type 0} (During : P → Type 0) (MayEmit : E → P → Type 0) (After After' : R → P → Type 0)
      (at_end : (r : R) (q : P) → After r q → During q × After' r q) where
    -- at each count of commands: the condition holds, and at the end the result has what was upheld
    holds_along : (d : Dialog E R) (k : ℕ) (p : P) (exchanges : List Exchange)
        → HoldsFrom (over_any_exchange m) (λ bytes q. During q) MayEmit After d p
        → During (state_after m k d p exchanges).programmer × ((r : R) → (state_after m k d p exchanges).dialog ≡ Done r
        → After' r (state_after m k d p exchanges).programmer)
    holds_along (Done a) k p exchanges h = search (rules, done_is)
    holds_along (Emit e d) k p exchanges h = holds_along d k p exchanges h.1
    holds_along (Ask bytes go_on) zero p exchanges h = (h.0, λ r e. absurd (asks≢done bytes go_on r e))
    holds_along (Ask bytes go_on) (suc k) p exchanges h =
        holds_along (go_on _) k _ (later_exchanges exchanges) (h.1 (first_exchange exchanges))

  -- the same as a record, which other proofs take
  pub leads : {E R : Type 0} {During : P → Type 0} {MayEmit : E → P → Type 0} {After After' : R → P → Type 0}
      {d : Dialog E R} {p : P} {exchanges : List Exchange} → ((r : R) (q : P) → After r q → During q × After' r q)
      → Upholds (over_any_exchange m) (λ bytes q. During q) MayEmit After d p → Leads m d p exchanges During After'
  leads {d = d} {p = p} {exchanges = exchanges} at_end l =
      let each = λ (k : ℕ). holds_along _ _ _ _ at_end d k p exchanges l.holds in
      record { during = λ k. (each k).0; after = λ k. (each k).1 }

  -- what a call upholds if one condition holds throughout
  abbrev pub Keeps : {R : Type 0} → (P → Type 0) → (R → P → Type 0) → Dialog ⊥ R → P → Type 0
  Keeps During After d p = Upholds (over_any_exchange m) (λ bytes q. During q) NoOutput After d p

  -- An attempt. If a condition holds after each prefix of its commands, also after a restart, it holds throughout. Its
  -- data are those of all commands, each executed and replied to.
  module _ (Stands : P → Type 0) (After : StepOutcome → P → Type 0) (restart_keeps : (q : P) → Stands q
      → Stands (m.reset q))
      (failed : (fault : StepFault) (q : P) → Stands q → After (Err fault) q)
      (data_kept : (got : List ℕ) (q : P) → After (Ok got) q → After (Ok got) (m.reset q)) where
    -- an attempt under the one condition: at its end a fault or data have what `After` states
    abbrev AttemptKeeps : Dialog ⊥ Reply → P → Type 0
    AttemptKeeps d p = Keeps Stands (OnReply Stands After) d p

    -- the reply to a command: data go on with the rest of the attempt, anything else ends it
    replied : (reply : Reply) (joined : List ℕ → Reply) (go_on : List ℕ → Dialog ⊥ Reply) (q : P)
        (All : List ℕ → Type 0) → Stands q
        → ((bytes : List ℕ) → reply ≡ Data bytes → ((got : List ℕ) → joined bytes ≡ Data got → All got)
        → AttemptKeeps (go_on bytes) q)
        → ((got : List ℕ) → on_data reply joined ≡ Data got → All got) → AttemptKeeps (with_data go_on reply) q
    replied reply joined go_on q All stands each whole = search rules

    -- whatever became of a command, the condition holds after it
    stands_after_execution : (execution : Execution) (executed p : P) → Stands executed → Stands p
        → Stands (after_execution execution executed p m.reset)
    stands_after_execution NotExecuted executed p o s = s
    stands_after_execution Executed executed p o s = o
    stands_after_execution (ThenRestarted execution) executed p o s =
        restart_keeps _ (stands_after_execution execution executed p o s)

    -- after some restarts
    abbrev restarted : ℕ → P → P
    restarted zero q = q
    restarted (suc n) q = restarted n (m.reset q)

    -- of several restarts the last one may be counted apart
    last_restart : (n : ℕ) (q : P) → restarted (suc n) q ≡ m.reset (restarted n q)
    last_restart zero q = refl
    last_restart (suc n) q = last_restart n (m.reset q)

    -- the condition outlives restarts
    stands_restarted : (n : ℕ) (q : P) → Stands q → Stands (restarted n q)
    stands_restarted zero q s = s
    stands_restarted (suc n) q s = stands_restarted n (m.reset q) (restart_keeps q s)

    -- what holds with data outlives restarts
    data_restarted : (n : ℕ) (got : List ℕ) (q : P) → After (Ok got) q → After (Ok got) (restarted n q)
    data_restarted zero got q a = a
    data_restarted (suc n) got q a = data_restarted n got (m.reset q) (data_kept got q a)

    -- whatever was read, and after any restarts
    by_exchange : (one_exchange : Exchange) (n : ℕ) (command : Command) (go_on : List ℕ → Dialog ⊥ Reply) (p : P)
        → Stands (m.after (body command) p) → Stands p
        → ((i : ℕ) → AttemptKeeps (with_data go_on (reply_to m command p)) (restarted i (m.after (body command) p)))
        → AttemptKeeps (with_data go_on (reply_from_reading command (reading_of_exchange one_exchange
        (m.reply (body command) p)))) (restarted n (after_exchange one_exchange (m.after (body command) p) p m.reset))
    by_exchange AsIntended n command go_on p o s right = right n
    by_exchange (Disturbed execution with) n command go_on p o s right =
        search (rules, done, stands_restarted, stands_after_execution)
    by_exchange (ThenRestarts one_exchange) n command go_on p o s right =
        by_exchange one_exchange (suc n) command go_on p o s right

    -- a command that fails ends the attempt
    failing : (command : Command) (commands : List Command) (before : List ℕ) (q : P) → Stands q
        → FailsAt m Stands command q → AttemptKeeps (attempt (command ∷ commands) before) q
    unfolding attempt exchange
    failing command commands before q s f =
        ask s (λ one_exchange. by_exchange one_exchange 0 command _ q f.stands s
        (λ i. search (rules, done, stands_restarted, f.none, f.stands)))

    -- the rest of an attempt, after any restarts
    rest_goes : (commands : List Command) (before : List ℕ) (q : P) → Stands q → FailOnceRestarted m Stands commands
        → AttemptKeeps (attempt commands before) q → (n : ℕ) → AttemptKeeps (attempt commands before) (restarted n q)
    unfolding attempt exchange
    rest_goes [] before q s fails rest n = done (data_restarted n before q rest.holds)
    rest_goes (command ∷ commands) before q s fails rest zero = rest
    rest_goes (command ∷ commands) before q s fails rest (suc n) =
        subst (λ (x : P). AttemptKeeps (attempt (command ∷ commands) before) x) (sym (last_restart n q))
        (elim (fails.0 (restarted n q) (stands_restarted n q s)) [
          | inl same ↦ search (rules, rest_goes (command ∷ commands) before q s fails rest n)
          | inr f ↦ search (rules, failing, stands_restarted)
        ])

    -- An attempt goes on as long as the condition holds after each prefix of its commands. With data it ends as `whole`
    -- states.
    attempt_goes : (commands : List Command) (before : List ℕ) (p : P) → Unbroken m Stands commands
        → ((i : ℕ) → AreReplied m i commands p → Stands (after_commands m i commands p))
        → ((got : List ℕ) → joined_reply m commands before p ≡ Data got
        → After (Ok got) (after_commands m (length commands) commands p)) → AttemptKeeps (attempt commands before) p
    unfolding attempt exchange
    attempt_goes [] before p unbroken prefixes whole = done (whole before refl)
    attempt_goes (command ∷ commands) before p unbroken prefixes whole =
        let q = m.after (body command) p in
        let next : Stands q = prefixes 1 tt in
        ask (prefixes 0 tt) (λ one_exchange. by_exchange one_exchange 0 command _ p next (prefixes 0 tt)
        (λ n. replied (reply_to m command p) (λ bytes. joined_reply m commands (before ++ bytes) q) _ (restarted n q)
        (λ got. After (Ok got) (after_commands m (length commands) commands q)) (stands_restarted n q next)
        (λ bytes is each. rest_goes commands (before ++ bytes) q next unbroken
        (attempt_goes commands (before ++ bytes) q (search rules)
        (λ i more. prefixes (suc i) (search rules)) each) n)
        whole))

  -- A step leads from its first condition to its second. With data the second holds, otherwise either.
  module _ (commands : List Command) (Before After : P → Type 0) (fits : IsRepeatable m commands Before After) where
    -- the step began or was done
    abbrev Either : P → Type 0
    Either q = Before q ⊎ After q

    -- After a step: with data its second condition, and the data of one attempt; with a fault either condition.
    abbrev pub AfterStep : StepOutcome → P → Type 0
    AfterStep (Ok got) q = After q × IsDataOfAttempt m commands Before After got
    AfterStep (Err fault) q = Either q

    -- after a prefix of the commands either condition holds
    prefixes : (q : P) → Either q → (i : ℕ) → AreReplied m i commands q → Either (after_commands m i commands q)
    prefixes q either i replied = search (rules, fits.prefix, fits.again)

    -- after all commands, each replied to, the second one holds
    wholes : (q : P) → Either q → (got : List ℕ) → joined_reply m commands [] q ≡ Data got
        → After (after_commands m (length commands) commands q)
    wholes q (inl b) got has = fits.whole q got has b
    wholes q (inr a) got has = fits.again q (length commands) a (all_replied commands [] got q has)

    -- one attempt, from either condition
    pub try_goes : (p : P) → Either p → Keeps Either (OnReply Either AfterStep) (attempt commands []) p
    try_goes p stood =
        attempt_goes Either AfterStep (λ q either. search rules) (λ fault q stands. stands)
        (λ got q x. (fits.restart_keeps_after q x.0, x.1)) commands [] p fits.unbroken (prefixes p stood)
        (λ got has. (wholes p stood got has, record { from = p; stood = stood; is = has }))

    -- four attempts, from the first condition
    step_goes : (p : P) → Before p → Keeps Either AfterStep (step commands) p
    step_goes p before =
        attempts (over_any_exchange m) (λ bytes q. Either q) commands (λ more q. Either q) AfterStep
        (λ more q stood. try_goes q stood) (λ fault q stood. stood) 4 NoAnswer p (inl before)

    -- under one condition throughout, which a fault leaves
    pub step_leads : (During : P → Type 0) (Whole : StepOutcome → P → Type 0) (p : P) → ((q : P) → Before q → During q)
        → ((q : P) → After q → During q) → ((fault : StepFault) (q : P) → During q → Whole (Err fault) q) → Before p
        → Keeps During (OnOutcome (λ got q. After q × IsDataOfAttempt m commands Before After got) Whole)
        (step commands) p
    step_leads During Whole p from to failed before = search (rules, wider, step_goes)

    -- the same of a step along a list of exchanges
    pub step_along : (p : P) (exchanges : List Exchange) → Before p → Leads m (step commands) p exchanges Either
        AfterStep
    step_along p exchanges before = leads (λ o q at_end. search rules) (step_goes p before)
