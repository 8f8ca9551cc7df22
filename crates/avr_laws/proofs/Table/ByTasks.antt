-- A plan that suits the sheet takes steps that the sheet vouches for.
use Rattle.std.proofs.Common.{◌<◌, ◌≡◌, ◌⊎◌, ◌∙◌, inl, inr, ℕ, List, [], ◌∷◌, ◌++◌, map, refl, sym, ap, subst, arith, Bool, false, cond, Option, Some, None, rules}
use Rattle.std.specs.Prelude.{not, ◌&&◌, if◌then◌else◌}
use Rattle.byteorder.specs.Endian.{big_bytes}
use Rattle.avr_image.specs.Image.{byte_at}
use Rattle.avr_part.specs.declared.part.Mem.{Mem}
use Rattle.avr_part.specs.declared.part.Mem.TheVariants.{Flash, Eeprom, Lfuse, Hfuse, Efuse, Lock, Signature, Calibration}
use Rattle.avr_part.specs.Part.{Part}
use Rattle.avr_plan.specs.Plan.{Plan}
use Rattle.avr_plan.specs.declared.settings.Switches.{Switches}
use Rattle.avr_plan.specs.declared.planned.Task.{Task}
use Rattle.avr_plan.specs.declared.planned.Task.TheVariants as task
use Rattle.avr_session.specs.Actions.{Action, EraseChip, WriteImage, CompareImage, SkipAction, SkippedErase, SkippedWrite, tasks_actions}
use Rattle.stk_frame.specs.declared.command.Command.{Command}
use Rattle.stk_frame.specs.declared.command.Fuse.{Fuse}
use Rattle.stk_frame.specs.declared.command.Fuse.TheVariants.{Low, High, Extended}
use Rattle.stk_frame.specs.Commands.{body, code}
use Rattle.stk_frame.specs.HostCommands.{erase, program_fuse, program_lock, read_fuse, read_signature, write_address}
use Rattle.stk_host.specs.ReadSteps.{read_count, read_step, read_steps, signature_steps}
use Rattle.stk_host.specs.WriteSteps.{byte_steps, page_steps, run_steps_at, write_steps}
use Rattle.stk_emu.specs.Effect.{Erase, Image, Memories, Write, effect}
use Rattle.stk_emu.specs.WriteOperations.{memories_after_step}
use Rattle.avr_tool.proofs.Each.{Each, each_of}
use Rattle.avr_tool.proofs.Plans.Fits.{work}
use Rattle.avr_tool.proofs.WriteOperations.Steps.{effect_twice}
use Rattle.avr_laws.specs.Kept.{after_task}
use Rattle.avr_laws.specs.Sheet.{IsShown, IsVouched, SuitTasks, SuitsPlan, SuitsReading, SuitsWriting}
use Rattle.avr_laws.specs.Table.{IsRow, Row, fuse_memory}
use Rattle.avr_laws.proofs.Table.RealOf.{ActionsWorkBy, StepsWork, WorksBy}
use Rattle.avr_laws.proofs.Table.Steps.{bodies}

-- the code of the first body, and other bytes of it
abbrev code_in : List (List ℕ) → ℕ
code_in ((c ∷ bytes) ∷ more) = c
code_in sent = 0

abbrev fuse_in : List (List ℕ) → ℕ
fuse_in ((c ∷ d ∷ e ∷ bytes) ∷ more) = e
fuse_in sent = 0

abbrev byte_in : List (List ℕ) → ℕ
byte_in ((c ∷ d ∷ e ∷ f ∷ byte ∷ bytes) ∷ more) = byte
byte_in sent = 0

-- fuses with the same address
same_fuse : (f g : Fuse) → write_address f ≡ write_address g → f ≡ g
same_fuse f g is = grind arith

module _ (becomes : Mem → ℕ → ℕ) (part : Part) where
  -- the lock takes this byte
  abbrev TakesLock : ℕ → Memories → Type 0
  TakesLock byte x = IsShown x.lock ⊎ (effect part (Write Lock (Some byte ∷ [])) x ≡ x)

  -- what the sheet asks of the row with these bodies
  record IsVouchedSent (sent : List (List ℕ)) (x : Memories) : Type 0 where
    flash : (load : List ℕ) (count : ℕ) → sent ≡ load ∷ (0x14 ∷ (big_bytes 2 count ++ 0x20 ∷ [])) ∷ [] → IsShown x.lock
    eeprom : (load : List ℕ) (count : ℕ) → sent ≡ load ∷ (0x16 ∷ (big_bytes 2 count ++ 0xA0 ∷ [])) ∷ [] → IsShown x.lock
    fuse : (fuse : Fuse) (byte : ℕ) → sent ≡ (0x17 ∷ 0xAC ∷ write_address fuse ∷ 0x00 ∷ byte ∷ []) ∷ []
        → becomes (fuse_memory fuse) byte ≡ byte
    lock : (byte : ℕ) → sent ≡ (0x19 ∷ 0xAC ∷ 0xE0 ∷ 0x00 ∷ byte ∷ []) ∷ []
        → TakesLock byte x × (becomes Lock byte ≡ byte)
    known : sent ≡ (0x1C ∷ 4 ∷ 0x38 ∷ 0x00 ∷ 0x00 ∷ 0x00 ∷ []) ∷ [] → ⊥

  -- what is asked of these bodies is asked of their row
  vouched_row : (sent : List (List ℕ)) (x : Memories) → IsVouchedSent sent x → (row : Row) (is : IsRow part row)
      → sent ≡ bodies row → IsVouched becomes part row is x
  vouched_row sent vouched v row is same = grind (arith, bodies)

  abbrev Works : List (List Command) → Memories → Type 0
  Works steps x = StepsWork part (IsVouched becomes part) steps x

  -- a step that is vouched for before it and after it
  works_by : (commands : List Command) (x : Memories) → IsVouchedSent (map body commands) x
      → IsVouchedSent (map body commands) (memories_after_step part commands x)
      → WorksBy part (IsVouched becomes part) commands x
  works_by commands x now later row is same = (
    vouched_row (map body commands) x now row is same,
    vouched_row (map body commands) (memories_after_step part commands x) later row is same,
  )

  -- ---- steps that keep the lock

  -- a step that the sheet vouches for while the lock byte is such, and that keeps the lock
  record Calm (Such : ℕ → Type 0) (commands : List Command) : Type 0 where
    kept : (x : Memories) → (memories_after_step part commands x).lock ≡ x.lock
    vouched : (x : Memories) → Such x.lock → IsVouchedSent (map body commands) x

  -- calm steps work
  calm_steps : (Such : ℕ → Type 0) (steps : List (List Command)) → Each (Calm Such) steps → (x : Memories)
      → Such x.lock → Works steps x
  calm_steps Such [] calm x such = tt
  calm_steps Such (commands ∷ steps) (calm, others) x such =
      let after = memories_after_step part commands x in
      let still : Such after.lock = subst Such (sym (calm.kept x)) such in search (
        rules,
        works_by,
        calm_steps Such
            steps others after still,
      )

  -- of two commands
  calm_two : (l command : Command) → ((x : Memories) → (memories_after_step part (l ∷ command ∷ []) x).lock ≡ x.lock)
      → Calm IsShown (l ∷ command ∷ [])
  calm_two l command kept = record {
    kept = kept;
    vouched = λ x such. record {
      flash = λ load count e. such;
      eeprom = λ load count e. such;
      fuse = λ f byte e. absurd (cc e);
      lock = λ byte e. absurd (cc e);
      known = λ e. cc e;
    };
  }

  abbrev Any : ℕ → Type 0
  Any lock = Unit {0}

  -- one command that is no write of a fuse or lock, and no read of the calibration
  by_code : (c : Command) (n : ℕ) → code c ≡ n → (n ≡ 0x17 → ⊥) → (n ≡ 0x19 → ⊥) → (n ≡ 0x1C → ⊥) → (x : Memories)
      → IsVouchedSent (map body (c ∷ [])) x
  by_code c n is not_fuse not_lock not_known x = record {
    flash = λ load count e. absurd (cc e);
    eeprom = λ load count e. absurd (cc e);
    fuse = λ f byte e. absurd (not_fuse (sym is ∙ ap code_in e));
    lock = λ byte e. absurd (not_lock (sym is ∙ ap code_in e));
    known = λ e. not_known (sym is ∙ ap code_in e);
  }

  -- a write of a fuse
  calm_fuse : (f : Fuse) (v : ℕ) → becomes (fuse_memory f) v ≡ v
      → ((x : Memories) → (memories_after_step part (program_fuse f v ∷ []) x).lock ≡ x.lock)
      → Calm Any (program_fuse f v ∷ [])
  calm_fuse f v stays kept = record {
    kept = kept;
    vouched = λ x such. record {
      flash = λ load count e. absurd (cc e);
      eeprom = λ load count e. absurd (cc e);
      fuse = λ g byte e. subst (λ h. becomes (fuse_memory h) byte ≡ byte) (same_fuse f g (ap fuse_in e))
          (subst (λ b. becomes (fuse_memory f) b ≡ b) (ap byte_in e) stays);
      lock = λ byte e. absurd (let c = ap code_in e in omega (arith, c));
      known = λ e. let c = ap code_in e in omega (arith, c);
    };
  }

  -- ---- the step that writes the lock

  -- a write of the lock
  lock_sent : (v : ℕ) (x : Memories) → becomes Lock v ≡ v → TakesLock v x
      → IsVouchedSent (map body (program_lock v ∷ [])) x
  lock_sent v x stays takes = record {
    flash = λ load count e. absurd (cc e);
    eeprom = λ load count e. absurd (cc e);
    fuse = λ g byte e. absurd (let c = ap code_in e in omega (arith, c));
    lock = λ byte e. (
      subst (λ b. TakesLock b x) (ap byte_in e) takes,
      subst (λ b. becomes Lock b ≡ b) (ap byte_in e) stays,
    );
    known = λ e. let c = ap code_in e in omega (arith, c);
  }

  -- so it works
  lock_works : (byte : Option ℕ) (x : Memories) → SuitsWriting becomes Lock byte x
      → Works (byte_steps program_lock byte) x
  lock_works None x suits = tt
  lock_works (Some v) x suits = (
    works_by (program_lock v ∷ []) x (lock_sent v x suits.1 (inl suits.0))
        (lock_sent v (memories_after_step part (program_lock v ∷ []) x) suits.1
        (inr (effect_twice part (Write Lock (Some v ∷ [])) x))),
    tt,
  )

  -- so does a write of a fuse
  fuse_works : (f : Fuse) (byte : Option ℕ) (x : Memories) → ((v : ℕ) (y : Memories)
      → (memories_after_step part (program_fuse f v ∷ []) y).lock ≡ y.lock)
      → ((v : ℕ) → byte ≡ Some v → becomes (fuse_memory f) v ≡ v) → Works (byte_steps (program_fuse f) byte) x
  fuse_works f byte x kept suits = grind (arith, calm_steps, calm_fuse)

  -- ---- images

  -- a step that a test leaves out
  if_any : (Such : ℕ → Type 0) (b : Bool) (commands : List Command) → Calm Such commands
      → Each (Calm Such) (cond b (commands ∷ []) [])
  if_any Such e commands calm = grind arith

  -- a fuse whose byte the sheet vouches for
  suits_fuse : (mem : Mem) (byte : Option ℕ) (x : Memories)
      → ((v : ℕ) → SuitsWriting becomes mem (Some v) x → becomes mem v ≡ v) → SuitsWriting becomes mem byte x
      → (v : ℕ) → byte ≡ Some v → becomes mem v ≡ v
  suits_fuse mem byte x vouched suits v is = vouched v (subst (λ b. SuitsWriting becomes mem b x) is suits)

  -- a write that suits the sheet works
  write_works : (mem : Mem) (image : Image) (x : Memories) → SuitsWriting becomes mem (byte_at image 0) x
      → Works (write_steps part mem image) x
  write_works Flash image x suits = calm_steps IsShown (write_steps part Flash image)
      (each_of (Calm IsShown) (page_steps part image) 0 _ (λ i. if_any IsShown _ _ (calm_two _ _ (λ y. refl)))) x suits
  write_works Eeprom image x suits = calm_steps IsShown (write_steps part Eeprom image)
      (each_of (Calm IsShown) (run_steps_at part image) 0 _ (λ i. if_any IsShown _ _ (calm_two _ _ (λ y. refl)))) x
      suits
  write_works Lfuse image x suits = grind (arith, fuse_works, suits_fuse)
  write_works Hfuse image x suits = search (rules, fuse_works, suits_fuse)
  write_works Efuse image x suits = fuse_works Extended (byte_at image 0) x (λ v y. refl)
      (suits_fuse Efuse (byte_at image 0) x (λ v s. s) suits)
  write_works Lock image x suits = lock_works (byte_at image 0) x suits
  write_works Signature image x suits = tt
  write_works Calibration image x suits = absurd suits

  -- each step of reading is calm
  reads_calmly : (Such : ℕ → Type 0) (mem : Mem) → ((i : ℕ) → Each (Calm Such) (read_step part mem i)) → (x : Memories)
      → Such x.lock → Works (read_steps part mem) x
  reads_calmly Such mem each x =
      calm_steps Such (read_steps part mem) (each_of (Calm Such) (read_step part mem) 0 (read_count part mem) each) x

  -- one command with a code between these
  calmly : (n : ℕ) → 0x17 < n → n < 0x1C → (n ≡ 0x19 → ⊥) → (command : Command) → code command ≡ n
      → ((x : Memories) → (memories_after_step part (command ∷ []) x).lock ≡ x.lock) → Calm Any (command ∷ [])
  calmly n more less other command is kept = record {
    kept = kept;
    vouched = λ x such. by_code command n is (λ e. omega (arith, e, more)) other (λ e. omega (arith, e, less)) x;
  }

  -- a read of a fuse
  calm_fuse_read : (f : Fuse) → Calm Any (read_fuse f ∷ [])
  calm_fuse_read f = calmly 0x18 (omega arith) (omega arith) (λ e. omega (arith, e)) (read_fuse f) refl (λ y. refl)

  -- a read of a byte of the signature
  calm_signature : (i : ℕ) → Calm Any (read_signature i ∷ [])
  calm_signature i = calmly 0x1B (omega arith) (omega arith) (λ e. omega (arith, e)) (read_signature i) refl (λ y. refl)

  -- a read that suits the sheet works
  read_works : (mem : Mem) (x : Memories) → SuitsReading mem x → Works (read_steps part mem) x
  read_works Flash x suits = reads_calmly IsShown Flash (λ i. (calm_two _ _ (λ y. refl), tt)) x suits
  read_works Eeprom x suits = reads_calmly IsShown Eeprom (λ i. (calm_two _ _ (λ y. refl), tt)) x suits
  read_works Lfuse x suits = reads_calmly Any Lfuse (λ i. (calm_fuse_read Low, tt)) x tt
  read_works Hfuse x suits = reads_calmly Any Hfuse (λ i. (calm_fuse_read High, tt)) x tt
  read_works Efuse x suits = reads_calmly Any Efuse (λ i. (calm_fuse_read Extended, tt)) x tt
  read_works Lock x suits = reads_calmly Any Lock (λ i. (
    calmly 0x1A (omega arith) (omega arith)
        (λ e. omega (arith, e)) _ refl (λ y. refl),
    tt,
  )) x tt
  read_works Signature x suits = reads_calmly Any Signature (λ i. (calm_signature i, tt)) x tt
  read_works Calibration x suits = absurd suits

  -- so do reads of the signature
  pub signature_works : (x : Memories) → Works signature_steps x
  signature_works x = calm_steps Any signature_steps (calm_signature 0, (calm_signature 1, (calm_signature 2, tt))) x tt

  -- so does an erase
  erase_works : (x : Memories) → Works ((erase ∷ []) ∷ []) x
  erase_works x = grind (arith, works_by, by_code)

  -- ---- tasks

  -- what was written can be read back
  read_back : (mem : Mem) (image : Image) (x : Memories) → SuitsWriting becomes mem (byte_at image 0) x
      → SuitsReading mem (effect part (Write mem image) x)
  read_back e is h suits = grind arith

  abbrev Acts : List Action → Memories → Type 0
  Acts actions x = ActionsWorkBy part (IsVouched becomes part) actions x

  -- a write, by the switches `-n` and `-V`
  by_write : (dry no_verify : Bool) (mem : Mem) (image : Image) (rest : List Action) (x : Memories)
      → (dry ≡ false → SuitsWriting becomes mem (byte_at image 0) x)
      → Acts rest (if dry then x else effect part (Write mem image) x)
      → Acts ((if dry then SkipAction (SkippedWrite mem image) ∷ []
      else WriteImage mem image ∷ (if no_verify then [] else CompareImage mem image ∷ [])) ++ rest) x
  by_write dry no_verify e is rest h given other = grind (arith, write_works, read_works, read_back)

  -- so do tasks that suit the sheet
  tasks_work : (s : Switches) (tasks : List Task) (x : Memories) → SuitTasks becomes part s tasks x
      → Acts (tasks_actions s tasks) x
  tasks_work s [] x suits = tt
  tasks_work s (task.Write mem image ∷ tasks) x (suits, more) =
      by_write s.dry s.no_verify mem image (tasks_actions s tasks) x suits
      (tasks_work s tasks (after_task part s (task.Write mem image) x) more)
  tasks_work s (task.Verify mem image ∷ tasks) x (suits, more) = (read_works mem x suits, tasks_work s tasks x more)
  tasks_work s (task.Read mem format file ∷ tasks) x (suits, more) = (read_works mem x suits, tasks_work s tasks x more)

  -- an erase, by the switches `-n` and `-e`
  by_erase : (dry asked due : Bool) (rest : List Action) (x : Memories)
      → Acts rest (if not dry && due then effect part Erase x else x)
      → Acts ((if dry then (if asked then SkipAction SkippedErase ∷ [] else [])
      else if due then EraseChip ∷ [] else []) ++ rest) x
  by_erase dry asked due rest e more = grind (arith, erase_works)

-- so does a plan
pub plan_works : (becomes : Mem → ℕ → ℕ) (plan : Plan) (x : Memories) → SuitsPlan becomes plan x
    → ActionsWorkBy plan.part (IsVouched becomes plan.part) (work plan) x
plan_works becomes plan x suits = grind (arith, by_erase, tasks_work)
