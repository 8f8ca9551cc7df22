-- Counts of write operations, composed.
use Rattle.std.proofs.Common.{◌≡◌, ℕ, zero, suc, ◌+◌, ◌-◌, ◌≤◌, List, [], ◌∷◌, ◌++◌, length, refl, ap, subst, arith, inl, inr, Ok, rules}
use Rattle.avr_part.specs.Part.{Part, IsPart}
use Rattle.stk_frame.specs.declared.command.Command.{Command}
use Rattle.stk_host.specs.Dialog.{Dialog, Done, ◌>>=◌}
use Rattle.stk_host.specs.Steps.{StepOutcome, step, unless_step_fault, play}
use Rattle.stk_emu.specs.Exchange.{Exchange}
use Rattle.stk_emu.specs.Programmer.{Programmer}
use Rattle.stk_emu.specs.Device.{Device, device}
use Rattle.stk_emu.specs.DialogOverExchanges.{StateAfter, state_after}
use Rattle.stk_emu.specs.Effect.{Memories}
use Rattle.stk_emu.proofs.Repeatable.{Settled}
use Rattle.avr_tool.specs.Completed.{step_count, steps_completed}
use Rattle.avr_tool.proofs.Leads.{Climbs, GoesOn, memories_after_steps}
use Rattle.stk_emu.specs.WriteOperations.{AreSteps}
use Rattle.avr_tool.specs.Tallies.{Count, with_next, then_count, Tallies}
use Rattle.avr_tool.proofs.Hosts.Attempts.{along_bind, along_next_dialog}
use Rattle.avr_tool.proofs.WriteOperations.Conditions.{none_left, along_before}
use Rattle.avr_tool.proofs.StepData.FirstSteps.{steps_climb}

module _ {P : Type 0} (m : Device P) where
  -- A dialog that makes no write operation counts 0.
  abbrev pub tallies_none : {E R : Type 0} (d : Dialog E R) (At : ℕ → P → Type 0) (p : P) (exchanges : List Exchange)
      → ((k : ℕ) → At 0 (state_after m k d p exchanges).programmer) → Tallies m d (λ k q fs. 0) At p exchanges
  tallies_none d At p exchanges at =
      record { count = λ k. 0; none = refl; at_least = λ k. omega arith; at_most = λ k. omega arith; stands = at }

  -- a count in other words, if both count alike
  abbrev pub tallies_as : {E F Q R : Type 0} (d : Dialog E Q) (e : Dialog F R) (made other : Count P)
      (At At' : ℕ → P → Type 0) (p : P) (exchanges : List Exchange) → ((k : ℕ) → made k p exchanges
      ≡ other k p exchanges) → ((k j : ℕ) → At j (state_after m k d p exchanges).programmer
      → At' j (state_after m k e p exchanges).programmer) → Tallies m d made At p exchanges
      → Tallies m e other At' p exchanges
  tallies_as d e made other At At' p exchanges same at t = record {
    count = t.count;
    none = t.none;
    at_least = λ k. subst (λ n. n ≤ t.count k) (same k) (t.at_least k);
    at_most = λ k. subst (λ n. t.count k ≤ suc n) (same (k - 1)) (t.at_most k);
    stands = λ k. at k (t.count k) (t.stands k);
  }

  module _ {E A B : Type 0} (d : Dialog E A) (next : A → Dialog E B) (first : Count P) (more : A → Count P)
      (At : ℕ → P → Type 0) (p : P) (exchanges : List Exchange) (t : Tallies m d first At p exchanges)
      (follow : (k : ℕ) (a : A) → (state_after m k d p exchanges).dialog ≡ Done a
      → GoesOn m At (state_after m k d p exchanges) (t.count k) (first (k - 1) p exchanges) (next a) (more a)) where
    -- The write operations of both dialogs, after `k` commands.
    abbrev total : (k : ℕ) (x : Dialog E A) → (state_after m k d p exchanges).dialog ≡ x → ℕ
    total k (Done a) e = t.count k + (follow k a e).rest.count (state_after m k d p exchanges).left
    total k x e = t.count k

    -- The first count never exceeds the sum.
    with_more : (k : ℕ) (x : Dialog E A) → first k p exchanges ≤ with_next x (first k p exchanges)
        (λ a. more a (state_after m k d p exchanges).left (state_after m k d p exchanges).programmer
        (state_after m k d p exchanges).exchanges)
    with_more k x = search rules

    -- The same, by where the first dialog is.
    first_below : (k : ℕ) → first k p exchanges ≤ then_count m d first more k p exchanges
    first_below k = with_more k (state_after m k d p exchanges).dialog

    -- Without a command none was made.
    none_from : (x : Dialog E A) (e : (state_after m 0 d p exchanges).dialog ≡ x) → total 0 x e ≡ 0
    none_from x e = search (rules, none_left)

    -- At least those completed were made.
    at_least_from : (k : ℕ) (x : Dialog E A) (e : (state_after m k d p exchanges).dialog ≡ x)
        → with_next x (first k p exchanges) (λ a. more a (state_after m k d p exchanges).left
        (state_after m k d p exchanges).programmer (state_after m k d p exchanges).exchanges) ≤ total k x e
    at_least_from k x e = search rules

    -- The upper bound holds if the next dialog made none so far.
    quiet_most : (k n : ℕ) → n ≡ 0 → t.count k + n ≤ suc (then_count m d first more (k - 1) p exchanges)
    quiet_most k n e = let l = t.at_most k in let b = first_below (k - 1) in omega (arith, l, b, e)

    -- The upper bound holds if those of the first dialog were completed before the last command.
    sharp_most : (k l : ℕ) (a : A) (e : (state_after m (suc k) d p exchanges).dialog ≡ Done a)
        → (state_after m (suc k) d p exchanges).left ≡ suc l → t.count (suc k) ≤ first (suc k - 1) p exchanges
        → total (suc k) (Done a) e ≤ suc (then_count m d first more (suc k - 1) p exchanges)
    sharp_most k l a e n exact = search (rules, along_before m k l d p exchanges a e n)

    -- The upper bound holds once the first dialog is done.
    done_most : (k left : ℕ) (a : A) (e : (state_after m k d p exchanges).dialog ≡ Done a)
        → (state_after m k d p exchanges).left ≡ left
        → total k (Done a) e ≤ suc (then_count m d first more (k - 1) p exchanges)
    done_most k zero a e n = search rules
    done_most zero (suc l) a e n = absurd (omega (arith, none_left m d p exchanges, n))
    done_most (suc k) (suc l) a e n = elim (follow (suc k) a e).sharp [
      | inl exact ↦ sharp_most k l a e n (exact l n)
      | inr quiet ↦ search (rules, quiet_most)
    ]

    -- At most one more was made than was completed before the last command.
    at_most_from : (k : ℕ) (x : Dialog E A) (e : (state_after m k d p exchanges).dialog ≡ x)
        → total k x e ≤ suc (then_count m d first more (k - 1) p exchanges)
    at_most_from k x e = search (rules, done_most)

    -- Two dialogs in sequence: their write operations add up.
    pub tallies_bind : Tallies m (d >>= next) (then_count m d first more) At p exchanges
    tallies_bind = record {
      count = λ k. total k (state_after m k d p exchanges).dialog refl;
      none = none_from (state_after m 0 d p exchanges).dialog refl;
      at_least = λ k. at_least_from k (state_after m k d p exchanges).dialog refl;
      at_most = λ k. at_most_from k (state_after m k d p exchanges).dialog refl;
      stands = search (rules, along_bind);
    }

  -- all steps of a completed run are done
  all_on : (left : ℕ) (exchanges : List Exchange) (q : P) (x : Dialog ⊥ StepOutcome) (go_on : List ℕ
      → Dialog ⊥ StepOutcome) (got : List ℕ) (rest total : ℕ)
      → ((bytes : List ℕ) → (state_after m left (go_on bytes) q exchanges).dialog ≡ Done (Ok got) → rest ≡ total)
      → (along_next_dialog m (unless_step_fault go_on) left exchanges q x).dialog ≡ Done (Ok got) → step_count x rest
      ≡ suc total
  all_on left exchanges q x go_on got rest total each e = search rules

  -- If a run of steps gave data, all its steps were completed.
  pub steps_all : (steps : List (List Command)) (k : ℕ) (before : List ℕ) (p : P) (exchanges : List Exchange)
      (got : List ℕ) → (state_after m k (play steps before) p exchanges).dialog ≡ Done (Ok got)
      → steps_completed m steps k p exchanges ≡ length steps
  unfolding play
  steps_all [] k before p exchanges got e = refl
  steps_all (commands ∷ steps) k before p exchanges got e =
      let s = state_after m k (step commands) p exchanges in
      let go_on : List ℕ → Dialog ⊥ StepOutcome = λ bytes. play steps (before ++ bytes) in
      all_on s.left s.exchanges s.programmer s.dialog go_on got (steps_completed m steps s.left s.programmer
      s.exchanges) (length steps)
      (λ bytes f. steps_all steps s.left (before ++ bytes) s.programmer s.exchanges got f)
      (search (rules, along_bind))

module _ (part : Part) (steps : List (List Command)) (m : Memories) (before : List ℕ) (p : Programmer)
    (exchanges : List Exchange) (sound : IsPart part) (are : AreSteps part steps) (s : Settled part m p) where
  -- How far a run of steps has come, by stk_emu's programmer in programming mode.
  climbs : (k : ℕ) → Climbs device (λ j. Settled part (memories_after_steps part j steps m)) k steps p exchanges
      (state_after device k (play steps before) p exchanges)
  climbs k = steps_climb part steps m k before p exchanges sound are s

  -- if it was completed, all its write operations were, before the last command of what follows
  play_sharp : (k l : ℕ) (got : List ℕ) → (state_after device k (play steps before) p exchanges).dialog ≡ Done (Ok got)
      → (state_after device k (play steps before) p exchanges).left ≡ suc l
      → (climbs k).count ≤ steps_completed device steps (k - 1) p exchanges
  play_sharp zero l got e n = absurd (omega (arith, none_left device (play steps before) p exchanges, n))
  play_sharp (suc k) l got e n =
      let then = along_before device k l (play steps before) p exchanges (Ok got) e n in
      let all : steps_completed device steps k p exchanges ≡ length steps =
      steps_all device steps k before p exchanges got (ap (λ (z : StateAfter ⊥ StepOutcome Programmer). z.dialog) then)
      in
      search rules

  -- a run of steps; if it was completed, all its write operations were, before the last command of what follows
  pub tallies_play : (t : Tallies device (play steps before) (steps_completed device steps)
      (λ j. Settled part (memories_after_steps part j steps m)) p exchanges)
      × ((k l : ℕ) (got : List ℕ) → (state_after device k (play steps before) p exchanges).dialog ≡ Done (Ok got)
      → (state_after device k (play steps before) p exchanges).left ≡ suc l
      → t.count k ≤ steps_completed device steps (k - 1) p exchanges)
  tallies_play = (
    record {
      count = λ k. (climbs k).count;
      none = (climbs 0).none refl;
      at_least = λ k. (climbs k).at_least;
      at_most = λ k. (climbs k).at_most;
      stands = λ k. (climbs k).stands;
    },
    λ k l got e n. play_sharp k l got e n,
  )
