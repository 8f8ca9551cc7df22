-- A programmer that keeps the table does what the proofs use.
use Rattle.std.proofs.Common.{◌≡◌, ◌∙◌, ℕ, zero, suc, List, [], ◌∷◌, ◌++◌, map, refl, sym, ap, subst, ◌⊎◌, inl, inr, Option, Some, None, Ok, rules}
use Rattle.avr_part.specs.Part.{Part, IsPart}
use Rattle.stk_frame.specs.declared.command.Command.{Command}
use Rattle.stk_frame.specs.declared.command.Command.TheVariants.{SignOn, LoadAddress}
use Rattle.stk_frame.specs.Commands.{body, judge}
use Rattle.stk_frame.specs.HostCommands.{enter, leave}
use Rattle.stk_host.specs.Steps.{Reply, Data, reply_from_check}
use Rattle.stk_emu.specs.Device.{Device}
use Rattle.stk_emu.specs.Effect.{Memories, effects}
use Rattle.stk_emu.specs.Settled.{FitsPart}
use Rattle.stk_emu.specs.StepData.{data_of_step}
use Rattle.stk_emu.specs.WriteOperations.{IsStep, memories_after_step}
use Rattle.stk_emu.proofs.Repeatable.{AreReplied, FailsAt, IsRepeatable, after_commands, joined_reply, on_data, reply_to}
use Rattle.stk_emu.proofs.Replies.Commands.{executed_none}
use Rattle.avr_session.specs.Actions.{Action}
use Rattle.avr_session.specs.PlanSteps.{action_steps}
use Rattle.avr_tool.specs.Items.{action_items}
use Rattle.avr_tool.proofs.StepData.EachStep.{changed_sizes, data_stays}
use Rattle.avr_tool.proofs.Hosts.AnyExchange.{data_in}
use Rattle.avr_tool.proofs.Real.{ActionsWork, AllWork, Real}
use Rattle.avr_laws.specs.Table.{IsDoneOrNot, IsLoaded, IsProgrammer, RefusesRow, IsRow, Row, Stands, addressed}
use Rattle.avr_laws.proofs.Table.Steps.{IsSent, RowFor, bodies, row_for, bare_reply, no_bytes}
use Rattle.avr_laws.proofs.Table.GoodReplies.{Verdict}

-- ---- data that were brought

-- data come of a good reply alone
judged : (c : Command) (v : Verdict) (bytes : List ℕ) → reply_from_check c v ≡ Data bytes → v ≡ Ok bytes
judged c v bytes is = search rules

-- data after others
data_by : (reply : Reply) (before bytes : List ℕ) → on_data reply (λ b. Data (before ++ b)) ≡ Data bytes
    → (d : List ℕ) × ((reply ≡ Data d) × (before ++ d ≡ bytes))
data_by reply before bytes is = search rules

module _ {P : Type 0} (m : Device P) where
  -- LOAD_ADDRESS had the good reply
  pub loaded_by : (a : ℕ) (p : P) (d : List ℕ) → reply_to m (LoadAddress a) p ≡ Data d
      → IsLoaded m (Some a) p × (d ≡ [])
  loaded_by a p d is = search (rules, bare_reply, judged, no_bytes)

  -- a step of one command
  one_judged : (command : Command) (before bytes : List ℕ) (p : P) → joined_reply m (command ∷ []) before p ≡ Data bytes
      → (d : List ℕ) × ((judge command (m.reply (body command) p) ≡ Ok d) × (before ++ d ≡ bytes))
  one_judged command before bytes p is = search (rules, data_by, reply_to, judged)

  -- of a step's last command
  pub joined_judged : (address : Option ℕ) (c : Command) (commands : List Command) (bytes : List ℕ) (p : P)
      → IsSent address c commands → joined_reply m commands [] p ≡ Data bytes
      → IsLoaded m address p × (judge c (m.reply (body c) (addressed m address p)) ≡ Ok bytes)
  joined_judged None c commands bytes p is e = search (rules, one_judged, joined_reply)
  joined_judged (Some a) c commands bytes p is e =
      let f = data_in (reply_to m (LoadAddress a) p) (λ b. joined_reply m (c ∷ []) ([] ++ b)
      (m.after (body (LoadAddress a)) p)) bytes (subst (λ cs. joined_reply m cs [] p ≡ Data bytes) is e) in
      let loaded = loaded_by a p f.0 f.1.0 in
      let t = one_judged c ([] ++ f.0) bytes (m.after (body (LoadAddress a)) p) f.1.1 in
      (loaded.0, t.1.0 ∙ ap Ok (ap (λ (before : List ℕ). before ++ t.0) (sym loaded.1) ∙ t.1.1))

  -- ---- steps of one command, and of two

  module _ (c : Command) (Before After : P → Type 0) (restart : (p : P) → Before p → Before (m.reset p))
      (restart_after : (p : P) → After p → After (m.reset p)) where
    module _ (either : (p : P) → Before p → Before (m.after (body c) p) ⊎ After (m.after (body c) p))
        (again : (p : P) → After p → After (m.after (body c) p))
        (whole : (p : P) (d : List ℕ) → judge c (m.reply (body c) p) ≡ Ok d → Before p → After (m.after (body c) p))
      where
        prefix : (p : P) (i : ℕ) → Before p → Before (after_commands m i (c ∷ []) p)
            ⊎ After (after_commands m i (c ∷ []) p)
        prefix p i b = search (rules, executed_none)

        agains : (p : P) (i : ℕ) → After p → After (after_commands m i (c ∷ []) p)
        agains p i a = search (rules, executed_none)

        -- a step of one command may be repeated
        pub one_repeats : IsRepeatable m (c ∷ []) Before After
        one_repeats = record {
          prefix = λ p i b replied. prefix p i b;
          again = λ p i a replied. agains p i a;
          whole = λ p bytes has b. whole p bytes (joined_judged None c (c ∷ []) bytes p refl has).1 b;
          restart_keeps = restart;
          restart_keeps_after = restart_after;
          unbroken = tt;
        }

    module _ (a : ℕ) (load : (p : P) → Before p → Before (m.after (body (LoadAddress a)) p))
        (load_after : (p : P) → After p → After (m.after (body (LoadAddress a)) p))
        (either : (p : P) → Before p → IsLoaded m (Some a) p
        → Before (m.after (body c) (m.after (body (LoadAddress a)) p))
        ⊎ After (m.after (body c) (m.after (body (LoadAddress a)) p)))
        (again : (p : P) → After p → IsLoaded m (Some a) p
        → After (m.after (body c) (m.after (body (LoadAddress a)) p)))
        (whole : (p : P) (d : List ℕ) → IsLoaded m (Some a) p
        → judge c (m.reply (body c) (m.after (body (LoadAddress a)) p)) ≡ Ok d → Before p
        → After (m.after (body c) (m.after (body (LoadAddress a)) p)))
        (ends : (p : P) → Before p ⊎ After p
        → (m.reset p ≡ p) ⊎ FailsAt m (λ q. Before q ⊎ After q) c (m.reset p)) where
      abbrev pair : List Command
      pair = LoadAddress a ∷ c ∷ []

      abbrev after_both : P → P
      after_both p = m.after (body c) (m.after (body (LoadAddress a)) p)

      -- after some of two commands the step isn't done, or is
      two_prefix : (p : P) (i : ℕ) → Before p → AreReplied m i pair p → Before (after_commands m i pair p)
          ⊎ After (after_commands m i pair p)
      two_prefix p zero b replied = inl b
      two_prefix p (suc zero) b replied = inl (load p b)
      two_prefix p (suc (suc i)) b replied = search (rules, executed_none, loaded_by)

      -- after it is done, some of them change nothing
      two_again : (p : P) (i : ℕ) → After p → AreReplied m i pair p → After (after_commands m i pair p)
      two_again p zero x replied = x
      two_again p (suc zero) x replied = load_after p x
      two_again p (suc (suc i)) x replied = search (rules, executed_none, loaded_by)

      -- so a step of two commands may be repeated
      pub two_repeats : IsRepeatable m pair Before After
      two_repeats = record {
        prefix = two_prefix;
        again = two_again;
        whole = λ p bytes has b.
            let t = joined_judged (Some a) c pair bytes p refl has in whole p bytes t.0 t.1 b;
        restart_keeps = restart;
        restart_keeps_after = restart_after;
        unbroken = (ends, tt);
      }

-- ---- the steps that are vouched for

-- each row that a host sends by these commands is, also if it is repeated
abbrev pub WorksBy : (part : Part) → ((row : Row) → IsRow part row → Memories → Type 0) → List Command → Memories
    → Type 0
WorksBy part Vouched commands x = (row : Row) (is : IsRow part row) → map body commands ≡ bodies row
    → Vouched row is x × Vouched row is (memories_after_step part commands x)

abbrev pub StepsWork : (part : Part) → ((row : Row) → IsRow part row → Memories → Type 0) → List (List Command)
    → Memories → Type 0
StepsWork part Vouched [] x = Unit {0}
StepsWork part Vouched (commands ∷ steps) x =
    WorksBy part Vouched commands x × StepsWork part Vouched steps (memories_after_step part commands x)

abbrev pub ActionsWorkBy : (part : Part) → ((row : Row) → IsRow part row → Memories → Type 0) → List Action → Memories
    → Type 0
ActionsWorkBy part Vouched [] x = Unit {0}
ActionsWorkBy part Vouched (action ∷ actions) x = StepsWork part Vouched (action_steps part action) x
    × ActionsWorkBy part Vouched actions (effects part (action_items action) x)

module _ {P : Type 0} (part : Part) (sound : IsPart part) (m : Device P) (view : P → Memories)
    (IsIn IsReady : P → Type 0) (Vouched : (row : Row) → IsRow part row → Memories → Type 0)
    (t : IsProgrammer part m view IsIn IsReady Vouched) where
  abbrev pub In : Memories → P → Type 0
  In x p = Stands view IsIn x p

  abbrev pub Ready : Memories → P → Type 0
  Ready x p = Stands view IsReady x p

  -- of equal memories
  over_equal_memories : (Is : P → Type 0) (x y : Memories) (q : P) → x ≡ y → Stands view Is x q → Stands view Is y q
  over_equal_memories Is x y q same stands = record { memories = stands.memories ∙ same; is = stands.is }

  -- a restart keeps the memories
  restart_in : (x : Memories) (p : P) → In x p → In x (m.reset p)
  restart_in x p stands = over_equal_memories IsIn (view p) x (m.reset p) stands.memories (t.restarts p stands.is)

  -- also in programming mode
  restart_ready : (x : Memories) (p : P) → Ready x p → Ready x (m.reset p)
  restart_ready x p stands = record {
    memories = (t.restarts p (t.ready_in p stands.is)).memories ∙ stands.memories;
    is = t.restarted p stands.is;
  }

  -- signing on
  pub signs_repeat : (x : Memories) → IsRepeatable m (SignOn ∷ []) (In x) (In x)
  signs_repeat x =
      let keeps : (p : P) → In x p → In x (m.after (body SignOn) p) =
      λ p s. over_equal_memories IsIn (view p) x (m.after (body SignOn) p) s.memories (t.signs_on p s.is) in
      one_repeats m SignOn (In x) (In x) (restart_in x) (restart_in x) (λ p s. inl (keeps p s)) keeps
      (λ p d e s. keeps p s)

  -- leaving programming mode
  pub leaves_repeat : (x : Memories) → IsRepeatable m (leave ∷ []) (In x) (In x)
  leaves_repeat x =
      let keeps : (p : P) → In x p → In x (m.after (body leave) p) =
      λ p s. over_equal_memories IsIn (view p) x (m.after (body leave) p) s.memories (t.leaves p s.is) in
      one_repeats m leave (In x) (In x) (restart_in x) (restart_in x) (λ p s. inl (keeps p s)) keeps
      (λ p d e s. keeps p s)

  -- entering it
  pub enters_repeat : (x : Memories) → IsRepeatable m (enter ∷ []) (In x) (Ready x)
  enters_repeat x = one_repeats m enter (In x) (Ready x) (restart_in x) (restart_ready x)
      (λ p s. inl (over_equal_memories IsIn (view p) x (m.after (body enter) p) s.memories (t.enters p s.is)))
      (λ p s. record {
        memories = (t.enters p (t.ready_in p s.is)).memories ∙ s.memories;
        is = t.entered_again p s.is;
      })
      (λ p d e s. record {
        memories = (t.enters p s.is).memories ∙ s.memories;
        is = t.entered p s.is (bare_reply enter refl (m.reply (body enter) p) d e).0;
      })

  module _ (commands : List Command) (x : Memories) (step : IsStep part commands) (f : FitsPart part x)
      (w : WorksBy part Vouched commands x) where
    abbrev r : RowFor part commands
    r = row_for part sound commands step

    abbrev pub IsVouched : Memories → Type 0
    IsVouched y = Vouched r.row r.is_row y

    abbrev pub after : Memories
    after = memories_after_step part commands x

    -- the row is vouched for before the step
    now : IsVouched x
    now = (w r.row r.is_row r.sent_as).0

    -- and after it
    then : IsVouched after
    then = (w r.row r.is_row r.sent_as).1

    abbrev at : P → P
    at p = addressed m r.row.address p

    -- the row is done, or not at all
    row_at : (y : Memories) (p : P) → FitsPart part y → IsVouched y → Ready y p
        → IsDoneOrNot m view IsReady part r.row p
    row_at y p fits vouched ready = search rules

    abbrev done : P → P
    done p = m.after (body r.command) (at p)

    -- the row's command is the step's last one
    same_done : (p : P) → m.after r.row.command (at p) ≡ done p
    same_done p = ap (λ (bytes : List ℕ). m.after bytes (at p)) (sym r.body_is)

    -- the memories after the step fit the part
    sizes_after : FitsPart part after
    sizes_after = changed_sizes part commands x sound f

    -- LOAD_ADDRESS changes no memory
    loads_at : (y : Memories) → FitsPart part y → IsVouched y → (p : P) → Ready y p → Ready y (at p)
    loads_at y fits v p s = over_equal_memories IsReady (view p) y (at p) s.memories (row_at y p fits v s).loaded

    -- what the row writes is what the step does
    row_wrote : (y : Memories) (p : P) → view p ≡ y
        → effects part r.row.writes (view p) ≡ memories_after_step part commands y
    row_wrote y p is = ap (effects part r.row.writes) is ∙ r.writes y

    -- after its last command the step is done, or not at all
    either_at : (y : Memories) → FitsPart part y → IsVouched y → (p : P) → Ready y p → IsLoaded m r.row.address p
        → Ready y (done p) ⊎ Ready (memories_after_step part commands y) (done p)
    either_at y fits vouched p s loaded = elim ((row_at y p fits vouched s).either loaded) [
      | inl kept ↦ inl (subst (Ready y) (same_done p) (over_equal_memories IsReady (view p) y _ s.memories kept))
      | inr changed ↦ inr (subst (Ready (memories_after_step part commands y)) (same_done p)
          (over_equal_memories IsReady _ (memories_after_step part commands y) _ (row_wrote y p s.memories) changed))
    ]

    -- a step done twice is a step done once
    after_twice : memories_after_step part commands after ≡ after
    after_twice = sym (r.writes after) ∙ (ap (effects part r.row.writes) (sym (r.writes x)) ∙ (r.twice x ∙ r.writes x))

    -- so it may be repeated
    again_at : (p : P) → Ready after p → IsLoaded m r.row.address p → Ready after (done p)
    again_at p ready loaded = elim (either_at after sizes_after then p ready loaded) [
      | inl kept ↦ kept
      | inr changed ↦ over_equal_memories IsReady _ after (done p) after_twice changed
    ]

    -- a good reply has the step's data
    good_at : (y : Memories) → FitsPart part y → IsVouched y → (p : P) (d : List ℕ) → IsLoaded m r.row.address p
        → judge r.command (m.reply (body r.command) (at p)) ≡ Ok d → Ready y p
        → (d ≡ data_of_step part commands y) × Ready (memories_after_step part commands y) (done p)
    good_at y fits v p d loaded e s =
        let g = r.good (m.reply (body r.command) (at p)) d e in
        let h = (row_at y p fits v s).good loaded d g.1
        (ap (λ (bytes : List ℕ). m.reply bytes (at p)) (sym r.body_is) ∙ g.0) in (
          h.0 ∙ (ap r.row.reads s.memories ∙ r.reads y),
          search (rules, same_done, over_equal_memories, row_wrote),
        )

    -- ---- after a restart

    abbrev Either : P → Type 0
    Either q = Ready x q ⊎ Ready after q

    -- a row that is refused fails
    fails_by : (y : Memories) (q : P) → view q ≡ y → ((z : P) → Ready y z → Either z)
        → RefusesRow m view IsReady r.row q → FailsAt m Either r.command q
    fails_by y q is among refused = record {
      none = λ bytes e.
          let reply = m.reply (body r.command) q in
          let g = r.good reply bytes (judged r.command (judge r.command reply) bytes e) in
          refused.bad bytes g.1 (ap (λ (sent : List ℕ). m.reply sent q) (sym r.body_is) ∙ g.0);
      stands = among (m.after (body r.command) q)
          (subst (Ready y) (ap (λ (sent : List ℕ). m.after sent q) (sym r.body_is))
          (over_equal_memories IsReady (view q) y _ is refused.kept));
    }

    -- after a restart
    by_refused : (y : Memories) (p : P) → Ready y p → ((z : P) → Ready y z → Either z)
        → (m.reset p ≡ p) ⊎ RefusesRow m view IsReady r.row (m.reset p)
        → (m.reset p ≡ p) ⊎ FailsAt m Either r.command (m.reset p)
    by_refused y p s among (inl same) = inl same
    by_refused y p s among (inr refused) = inr (fails_by y (m.reset p) (restart_ready y p s).memories among refused)

    -- by whether the step was done
    ends_at : (a : ℕ) → Some a ≡ r.row.address → (p : P) → Either p
        → (m.reset p ≡ p) ⊎ FailsAt m Either r.command (m.reset p)
    ends_at a is p (inl s) = by_refused x p s (λ z ready. inl ready) ((row_at x p f now s).restarted a (sym is))
    ends_at a is p (inr s) =
        by_refused after p s (λ z ready. inr ready) ((row_at after p sizes_after then s).restarted a (sym is))

    -- ---- each step

    -- by how the row is sent
    by_sent : (address : Option ℕ) → address ≡ r.row.address → IsSent address r.command commands
        → IsRepeatable m commands (Ready x) (Ready after)
    by_sent None is sent =
        let here : (p : P) → at p ≡ p = λ p. ap (λ (o : Option ℕ). addressed m o p) (sym is) in
        let loaded : (p : P) → IsLoaded m r.row.address p = λ p. subst (λ (o : Option ℕ). IsLoaded m o p) is tt in
        subst (λ cs. IsRepeatable m cs (Ready x) (Ready after)) (sym sent)
        (one_repeats m r.command (Ready x) (Ready after) (restart_ready x) (restart_ready after)
        (λ p s. subst (λ q. Ready x (m.after (body r.command) q) ⊎ Ready after (m.after (body r.command) q)) (here p)
        (either_at x f now p s (loaded p)))
        (λ p s. subst (λ q. Ready after (m.after (body r.command) q)) (here p) (again_at p s (loaded p)))
        (λ p d e s. subst (λ q. Ready after (m.after (body r.command) q)) (here p)
        (good_at x f now p d (loaded p) (ap (λ q. judge r.command (m.reply (body r.command) q)) (here p) ∙ e) s).1))
    by_sent (Some a) is sent =
        let here : (p : P) → at p ≡ m.after (body (LoadAddress a)) p =
        λ p. ap (λ (o : Option ℕ). addressed m o p) (sym is) in
        let loaded : (p : P) → IsLoaded m (Some a) p → IsLoaded m r.row.address p =
        λ p l. subst (λ (o : Option ℕ). IsLoaded m o p) is l in
        subst (λ cs. IsRepeatable m cs (Ready x) (Ready after)) (sym sent)
        (two_repeats m r.command (Ready x) (Ready after) (restart_ready x) (restart_ready after) a
        (λ p s. subst (Ready x) (here p) (loads_at x f now p s))
        (λ p s. subst (Ready after) (here p) (loads_at after sizes_after then p s))
        (λ p s l. subst (λ q. Ready x (m.after (body r.command) q) ⊎ Ready after (m.after (body r.command) q)) (here p)
        (either_at x f now p s (loaded p l)))
        (λ p s l. subst (λ q. Ready after (m.after (body r.command) q)) (here p) (again_at p s (loaded p l)))
        (λ p d l e s. subst (λ q. Ready after (m.after (body r.command) q)) (here p)
        (good_at x f now p d (loaded p l) (ap (λ q. judge r.command (m.reply (body r.command) q)) (here p) ∙ e) s).1)
        (ends_at a is))

    -- so the step may be repeated
    pub repeats : IsRepeatable m commands (Ready x) (Ready after)
    repeats = by_sent r.row.address refl r.is_sent

    -- its data are those of the memories
    pub brings : (p : P) (bytes : List ℕ) → Ready x p ⊎ Ready after p → joined_reply m commands [] p ≡ Data bytes
        → bytes ≡ data_of_step part commands x
    brings p bytes (inl s) has =
        let j = joined_judged m r.row.address r.command commands bytes p r.is_sent has in
        (good_at x f now p bytes j.0 j.1 s).0
    brings p bytes (inr s) has =
        let j = joined_judged m r.row.address r.command commands bytes p r.is_sent has in
        (good_at after sizes_after then p bytes j.0 j.1 s).0 ∙ data_stays part sound commands x step

  -- so the programmer does what the proofs use
  unfoldable pub real_of : Real part
  real_of = record {
    P = P;
    device = m;
    memories = view;
    Has = Stands view IsIn;
    HasSettled = Stands view IsReady;
    Works = WorksBy part Vouched;
    has = λ x p s. s.memories;
    idle = λ x p s. record { memories = s.memories; is = t.ready_in p s.is };
    sign_on = signs_repeat;
    enters = enters_repeat;
    leaves = leaves_repeat;
    steps = λ commands x step f w. repeats commands x step f w;
    gives = λ commands x p bytes step f w s has. brings commands x step f w p bytes s has;
  }

  -- steps that are vouched for work
  pub steps_work : (steps : List (List Command)) (x : Memories) → StepsWork part Vouched steps x
      → AllWork real_of steps x
  unfolding real_of
  steps_work [] x v = tt
  steps_work (commands ∷ steps) x v = (v.0, steps_work steps (memories_after_step part commands x) v.1)

  -- so do actions
  pub actions_work : (actions : List Action) (x : Memories) → ActionsWorkBy part Vouched actions x
      → ActionsWork real_of actions x
  actions_work [] x v = tt
  actions_work (action ∷ actions) x v =
      (steps_work (action_steps part action) x v.0, actions_work actions (effects part (action_items action) x) v.1)
