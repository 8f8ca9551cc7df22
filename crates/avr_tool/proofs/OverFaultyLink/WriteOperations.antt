-- The actions of a session, by the write operations that they make one after another.
use Rattle.std.proofs.lemmas.Grind.{common_steps}
use Rattle.std.proofs.Common.{◌≡◌, ℕ, zero, suc, ◌+◌, ◌-◌, ◌≤◌, List, [], ◌∷◌, ◌++◌, length, refl, sym, ap, ◌∙◌, arith, inl, inr, Result, rules}
use Rattle.std.proofs.lemmas.List.{length-append}
use Rattle.std.specs.Prelude.{min}
use Rattle.avr_io.specs.OutputEvents.{OutputEvent}
use Rattle.avr_part.specs.Part.{Part, IsPart}
use Rattle.stk_frame.specs.declared.command.Command.{Command}
use Rattle.stk_host.specs.declared.fault.HostFault.{HostFault}
use Rattle.stk_host.specs.Dialog.{Dialog, Done, ◌>>=◌}
use Rattle.stk_host.specs.Steps.{step, play}
use Rattle.stk_host.specs.Operations.{operation}
use Rattle.stk_emu.specs.Exchange.{Exchange}
use Rattle.stk_emu.specs.Programmer.{Programmer}
use Rattle.stk_emu.specs.Device.{device}
use Rattle.stk_emu.specs.DialogOverExchanges.{state_after}
use Rattle.avr_tool.proofs.Leads.{Leads, GoesOn, memories_after_steps}
use Rattle.stk_emu.specs.Effect.{Memories, Item, effects}
use Rattle.stk_emu.specs.Settled.{HasMemories, FitsPart}
use Rattle.stk_emu.proofs.Repeatable.{Settled}
use Rattle.stk_emu.specs.WriteOperations.{steps_of_items, AreSteps}
use Rattle.avr_tool.proofs.WriteOperations.Items.{ItemsFit}
use Rattle.avr_tool.specs.Tallies.{Count, with_next, then_count, Tallies}
use Rattle.avr_tool.proofs.Hosts.Attempts.{along_bind, along_next_dialog}
use Rattle.avr_tool.proofs.Hosts.AnyExchange.{done_is}
use Rattle.avr_tool.proofs.WriteOperations.Conditions.{none_left, along_before}
use Rattle.stk_emu.proofs.Replies.Commands.{settled_idle}
use Rattle.avr_tool.proofs.WriteOperations.Counts.{tallies_none, tallies_as, tallies_bind, steps_all, tallies_play}
use Rattle.avr_session.specs.Standing.{Standing, NoFault}
use Rattle.avr_session.specs.Session.{reported, unless_fault}
use Rattle.avr_tool.specs.Completed.{completed_unless_fault, steps_completed}
use Rattle.avr_tool.proofs.Emulated.{emulated}
use Rattle.avr_tool.proofs.OverFaultyLink.FirstSteps.{Rests, changed_min, changed_prefix, changed_behind, all_on, all_changed}
use Rattle.avr_tool.proofs.OverFaultyLink.Calls.{reported_programmer, reported_fine}

-- the memories after `j` first steps of these items
pub record Changed (part : Part) (items : List Item) (m : Memories) (j : ℕ) (q : Programmer) : Type 0 where
  pub few : j ≤ length (steps_of_items part items)
  -- The programmer has made as many steps as are counted.
  pub stands : HasMemories part (memories_after_steps part j (steps_of_items part items) m) q

-- an action that makes the write operations of these items in order; if it is fine, all were completed
pub record Makes (part : Part) (m : Memories) (items : List Item) (d : Dialog OutputEvent Standing)
    (made : Count Programmer)
    (p : Programmer) (exchanges : List Exchange) : Type 0 where
  -- The write operations of both, counted.
  pub tally : Tallies device d made (Changed part items m) p exchanges
  pub complete : (k : ℕ) → (state_after device k d p exchanges).dialog ≡ Done NoFault
      → made k p exchanges ≡ length (steps_of_items part items)

-- No steps change nothing.
no_steps : (part : Part) (count : ℕ) (m : Memories) → memories_after_steps part count [] m ≡ m
no_steps part count m = search rules

-- nothing is made if the memories stay
pub makes_none : (part : Part) (sound : IsPart part) (m : Memories) (d : Dialog OutputEvent Standing) (p : Programmer)
    (exchanges : List Exchange) (After : Standing → Programmer → Type 0)
    → Leads device d p exchanges (Rests (emulated part sound) [] m) After → Makes part m [] d (λ k q fs. 0) p exchanges
makes_none part sound m d p exchanges After l = record {
  tally = tallies_none device d (Changed part [] m) p exchanges (λ k. let r = l.during k in search (rules, no_steps));
  complete = λ k e. refl;
}

-- No more steps are completed than there are.
steps_most : (steps : List (List Command)) (k : ℕ) (p : Programmer) (exchanges : List Exchange)
    → steps_completed device steps k p exchanges ≤ length steps
steps_most [] k p exchanges = omega arith
steps_most (commands ∷ steps) k p exchanges =
    let s = state_after device k (step commands) p exchanges in
    search (rules, steps_most steps s.left s.programmer s.exchanges)

module _ (part : Part) (sound : IsPart part) where
  module _ {A : Type 0} (m : Memories) (items : List Item) (judge : List ℕ → Result A HostFault)
      (outcome_output : Result A HostFault → List OutputEvent) (p : Programmer) (exchanges : List Exchange)
      (are : AreSteps part (steps_of_items part items)) (settled : Settled part m p) where
    -- The steps of these items.
    abbrev steps : List (List Command)
    steps = steps_of_items part items

    -- The action: its steps, the check of their data, and the output.
    abbrev notice : Dialog OutputEvent Standing
    notice = reported (operation steps judge) outcome_output

    -- The write operations of the steps alone, counted.
    played : Tallies device (play steps []) (steps_completed device steps)
        (λ j. Settled part (memories_after_steps part j steps m)) p exchanges
    played = (tallies_play part steps m [] p exchanges sound are settled).0

    -- The output does not change where the programmer is.
    moved : (k : ℕ) → (state_after device k (play steps []) p exchanges).programmer
        ≡ (state_after device k notice p exchanges).programmer
    unfolding operation
    moved k = sym (reported_programmer device judge outcome_output k (play steps []) p exchanges)

    stands : (k : ℕ) (q : Programmer) → Settled part (memories_after_steps part (played.count k) steps m) q
        → Changed part items m (min (played.count k) (length steps)) q
    stands k q at = search (rules, changed_min, settled_idle)

    -- The write operations of the action, counted.
    reported_tally : Tallies device notice (steps_completed device steps) (Changed part items m) p exchanges
    reported_tally = record {
      count = λ k. min (played.count k) (length steps);
      none = let e = played.none in omega (arith, e);
      at_least = λ k. let l = played.at_least k in let most = steps_most steps k p exchanges in omega (arith, l, most);
      at_most = λ k. let l = played.at_most k in omega (arith, l);
      stands = λ k. rw (← moved k) (stands k _ (played.stands k));
    }

    -- An action makes the write operations of its items.
    pub makes_items : Makes part m items notice (steps_completed device steps) p exchanges
    unfolding operation
    makes_items = record {
      tally = reported_tally;
      complete = λ k e.
          let got = reported_fine device judge outcome_output k (play steps []) p exchanges e in
          search (rules, steps_all);
    }

  -- The number of steps of two lists of items.
  size_on : (xs ys : List Item) → length (steps_of_items part (xs ++ ys))
      ≡ length (steps_of_items part xs) + length (steps_of_items part ys)
  size_on xs ys = ap length (all_on part xs ys) ∙ length-append (steps_of_items part xs) (steps_of_items part ys)

  -- Some steps of the first items are some steps of all.
  changed_first : (xs ys : List Item) (m : Memories) (j : ℕ) (q : Programmer) → Changed part xs m j q
      → Changed part (xs ++ ys) m j q
  changed_first xs ys m j q s = search (rules, size_on, all_on, changed_prefix)

  -- All steps of the first items, and then some of the next.
  changed_next : (xs ys : List Item) (m : Memories) (made j : ℕ) (q : Programmer) → ItemsFit part xs → FitsPart part m
      → made ≡ length (steps_of_items part xs) → Changed part ys (effects part xs m) j q
      → Changed part (xs ++ ys) m (made + j) q
  changed_next xs ys m made j q fits f whole s =
      let size = size_on xs ys in
      let steps = steps_of_items part xs in
      let past : made + j ≡ j + length steps = omega (arith, whole) in
      search (rules, all_on, changed_behind, all_changed)

  module _ (m : Memories) (xs ys : List Item) (d next : Dialog OutputEvent Standing)
      (made later : Count Programmer) (p : Programmer) (exchanges : List Exchange)
      (fits : ItemsFit part xs) (f : FitsPart part m)
      (leads : Leads device d p exchanges (Rests (emulated part sound) (steps_of_items part xs) m)
      (λ s q. s ≡ NoFault → Settled part (effects part xs m) q))
      (first : Makes part m xs d made p exchanges)
      (more : (q : Programmer) (fs : List Exchange) → Settled part (effects part xs m) q
      → Makes part (effects part xs m) ys next later q fs) where
    -- The count of what follows.
    abbrev after : Standing → Count Programmer
    after = completed_unless_fault later

    -- The memories after some first steps of both lists.
    abbrev At : ℕ → Programmer → Type 0
    At = Changed part (xs ++ ys) m

    -- if it is fine, it made all its write operations before the last command of what follows
    whole : (k : ℕ) → (state_after device k d p exchanges).dialog ≡ Done NoFault → first.tally.count k
        ≡ length (steps_of_items part xs)
    whole k e = search rules

    -- The same, by what was completed before the last command.
    sharp : (k l : ℕ) → (state_after device k d p exchanges).dialog ≡ Done NoFault
        → (state_after device k d p exchanges).left ≡ suc l → first.tally.count k ≤ made (k - 1) p exchanges
    sharp zero l e n = absurd (omega (arith, none_left device d p exchanges, n))
    sharp (suc k) l e n = search (rules, along_before device k l d p exchanges NoFault e n)

    -- What follows makes its write operations after those already made.
    abbrev GoesFrom : ℕ → Standing → Type 0
    GoesFrom k s = GoesOn device At (state_after device k d p exchanges) (first.tally.count k)
        (made (k - 1) p exchanges) (unless_fault next s) (after s)

    -- After an action without a fault the next one follows.
    goes_fine : (k : ℕ) → (state_after device k d p exchanges).dialog ≡ Done NoFault
        → Settled part (effects part xs m) (state_after device k d p exchanges).programmer → GoesFrom k NoFault
    goes_fine k e settled =
        record {
          rest = tallies_as device next next later later (Changed part ys (effects part xs m)) _ _ _ (λ i. refl)
              (λ i j changed. changed_next xs ys m (first.tally.count k) j _ fits f (whole k e) changed)
              (more _ _ settled).tally;
          sharp = inl (λ l n. sharp k l e n);
        }

    -- After a fault nothing more is made.
    goes_on : (k : ℕ) (s : Standing) → (state_after device k d p exchanges).dialog ≡ Done s → GoesFrom k s
    goes_on k NoFault e = goes_fine k e (leads.after k NoFault e refl)
    goes_on k at e =
        let s = state_after device k d p exchanges in
        record {
          rest = tallies_none device (unless_fault next at) (λ j. At (first.tally.count k + j)) s.programmer s.exchanges
              (λ l. search (rules, changed_first xs ys m (first.tally.count k) s.programmer (first.tally.stands k)));
          sharp = inr (λ l. refl);
        }

    tally : Tallies device (d >>= unless_fault next) (then_count device d made after) At p exchanges
    tally = tallies_bind device d (unless_fault next) made after At p exchanges
        (tallies_as device d d made made (Changed part xs m) At p exchanges (λ k. refl)
        (λ k j changed. changed_first xs ys m j _ changed) first.tally) goes_on

    -- If both are done without a fault, all steps of both lists were completed.
    abbrev Ends : ℕ → Dialog OutputEvent Standing → Type 0
    Ends k x = let s = state_after device k d p exchanges in
        (along_next_dialog device (unless_fault next) s.left s.exchanges s.programmer x).dialog ≡ Done NoFault
        → with_next x (made k p exchanges) (λ a. after a s.left s.programmer s.exchanges)
        ≡ length (steps_of_items part (xs ++ ys))

    -- `Ends` holds once the first action is done.
    complete_fine : (k : ℕ) (s : Standing) → (state_after device k d p exchanges).dialog ≡ Done s → Ends k (Done s)
    complete_fine k NoFault e = λ done.
        let t = state_after device k d p exchanges in
        let all = first.complete k e in
        let rest = (more t.programmer t.exchanges (leads.after k NoFault e refl)).complete t.left done in
        search (rules, size_on)
    complete_fine k at e = λ done. let same : at ≡ NoFault = done_is _ _ done in absurd (cc)

    -- `Ends` holds wherever the first action is.
    complete_from : (k : ℕ) (x : Dialog OutputEvent Standing) → (state_after device k d p exchanges).dialog ≡ x
        → Ends k x
    complete_from k x e = grind (arith, common_steps, complete_fine)

    -- An action and the next ones make the write operations of both.
    pub makes_then : Makes part m (xs ++ ys) (d >>= unless_fault next) (then_count device d made after) p exchanges
    makes_then = record {
      tally = tally;
      complete = λ k e. complete_from k _ refl (rw (along_bind device k d (unless_fault next) p exchanges) at e);
    }
