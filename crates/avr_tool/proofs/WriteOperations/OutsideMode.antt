-- Outside programming mode each step fails and changes nothing. So a step leads from its memories to those that it
-- leaves, also if the programmer restarts.
use Rattle.std.proofs.Common.{◌≡◌, ℕ, zero, suc, ◌*◌, ◌<◌, ◌^◌, List, [], ◌∷◌, length, refl, sym, ap, ◌∙◌, subst, ◌⊎◌, inl, inr, arith, true, false, cond, rules}
use Rattle.std.proofs.lemmas.Bool.{cases_Bool, cond-false}
use Rattle.avr_part.specs.Part.{Part, IsPart}
use Rattle.stk_frame.specs.declared.command.Command.{Command}
use Rattle.stk_frame.specs.declared.command.Command.TheVariants.{LoadAddress}
use Rattle.stk_frame.specs.declared.command.Fuse.{Fuse}
use Rattle.stk_frame.specs.declared.command.Fuse.TheVariants.{Low}
use Rattle.stk_frame.specs.Commands.{body}
use Rattle.stk_frame.specs.HostCommands.{erase, program_page, program_eeprom_block, program_fuse, program_lock, read_flash_block, read_eeprom_block, read_fuse, read_lock, read_signature, read_calibration}
use Rattle.stk_host.proofs.ImagePlaces.PagesAndRuns.{page_most}
use Rattle.stk_host.specs.declared.fault.StepFault.{StepFault}
use Rattle.stk_host.specs.declared.fault.StepFault.TheVariants.{Refused}
use Rattle.stk_host.specs.Places.{flash_address}
use Rattle.stk_host.specs.Steps.{Data, Stop, reply_from_reading}
use Rattle.stk_host.specs.Tape.{Replied}
use Rattle.stk_emu.specs.Programmer.{Programmer, Response, execute, execute_command}
use Rattle.stk_emu.specs.Device.{device}
use Rattle.stk_emu.specs.Effect.{Memories}
use Rattle.stk_emu.specs.Settled.{Ready}
use Rattle.avr_tool.proofs.Leads.{AllFit, memories_after_steps}
use Rattle.stk_emu.proofs.Repeatable.{on_data, reply_to, joined_reply, after_commands, AreReplied, FailsAt, Unbroken, IsRepeatable, Settled}
use Rattle.stk_emu.specs.WriteOperations.{memories_after_step, IsStep, Erases, ProgramsPage, ProgramsEepromRun, ProgramsFuse, ProgramsLock, ReadsFlash, ReadsEeprom, ReadsFuse, ReadsLock, ReadsSignature, ReadsCalibration, AreSteps}
use Rattle.stk_emu.proofs.Replies.Commands.{executes_command, executed_none, steady, ready_settled, settled_ready, restart_is_settled}
use Rattle.avr_tool.proofs.WriteOperations.Steps.{step_ready, address_fits}

-- a command that fails and changes nothing
pub record Fails (c : Command) (p : Programmer) : Type 0 where
  pub fault : StepFault
  pub reply : reply_to device c p ≡ Stop fault
  pub after : device.after (body c) p ≡ p

-- A reply that stops a step is not a reply with data.
pub stop_no : (fault : StepFault) (bytes : List ℕ) → Stop fault ≡ Data bytes → ⊥
stop_no fault bytes e = cc

-- A command that replies with the status C0 outside programming mode fails.
fails_by : (c : Command) (code : ℕ) (fault : StepFault) (p : Programmer) (done : Response)
    → execute (body c) p ≡ cond p.mode done (code ∷ 0xC0 ∷ [], p) → reply_from_reading c (Replied (code ∷ 0xC0 ∷ []))
    ≡ Stop fault → p.mode ≡ false → Fails c p
fails_by c code fault p done is stops off =
    let failed : execute (body c) p ≡ (code ∷ 0xC0 ∷ [], p) = is ∙ cond-false p.mode done (code ∷ 0xC0 ∷ [], p) off in
    record { fault = fault; reply = rw failed stops; after = rw failed refl }

-- A command that fails outside programming mode.
abbrev FailsOutside : Command → Type 0
FailsOutside c = (p : Programmer) → p.mode ≡ false → Fails c p

-- An erase fails so.
erase_fails : FailsOutside erase
erase_fails p off = fails_by erase 0x12 (Refused 0x12 0xC0) p _ refl refl off

-- Writing a page of flash fails so.
page_fails : (page : List ℕ) → length page < 65536 → FailsOutside (program_page page)
page_fails page few p off = fails_by (program_page page) 0x13 (Refused 0x13 0xC0) p _
    (executes_command (program_page page) p few) refl off

-- Writing a run of EEPROM bytes fails so.
run_fails : (run : List ℕ) → length run < 65536 → FailsOutside (program_eeprom_block run)
run_fails run few p off = fails_by (program_eeprom_block run) 0x15 (Refused 0x15 0xC0) p _
    (executes_command (program_eeprom_block run) p few) refl off

-- Writing a fuse fails so.
fuse_fails : (f : Fuse) (v : ℕ) → FailsOutside (program_fuse f v)
fuse_fails Low v p off = fails_by (program_fuse Low v) 0x17 (Refused 0x17 0xC0) p _ refl refl off
fuse_fails f v p off = fails_by (program_fuse f v) 0x17 (Refused 0x17 0xC0) p _ refl refl off

-- Writing the lock fails so.
lock_fails : (v : ℕ) → FailsOutside (program_lock v)
lock_fails v p off = fails_by (program_lock v) 0x19 (Refused 0x19 0xC0) p _ refl refl off

-- Reading flash fails so.
flash_read_fails : (count : ℕ) → count < 65536 → FailsOutside (read_flash_block count)
flash_read_fails count few p off = fails_by (read_flash_block count) 0x14 (Refused 0x14 0xC0) p _
    (executes_command (read_flash_block count) p few) refl off

-- Reading EEPROM fails so.
eeprom_read_fails : (count : ℕ) → count < 65536 → FailsOutside (read_eeprom_block count)
eeprom_read_fails count few p off = fails_by (read_eeprom_block count) 0x16 (Refused 0x16 0xC0) p _
    (executes_command (read_eeprom_block count) p few) refl off

-- Reading a fuse fails so.
fuse_read_fails : (f : Fuse) → FailsOutside (read_fuse f)
fuse_read_fails Low p off = fails_by (read_fuse Low) 0x18 (Refused 0x18 0xC0) p _ refl refl off
fuse_read_fails f p off = fails_by (read_fuse f) 0x18 (Refused 0x18 0xC0) p _ refl refl off

-- Reading the lock fails so.
lock_read_fails : FailsOutside read_lock
lock_read_fails p off = fails_by read_lock 0x1A (Refused 0x1A 0xC0) p _ refl refl off

-- Reading a signature byte fails so.
signature_read_fails : (place : ℕ) → FailsOutside (read_signature place)
signature_read_fails place p off = fails_by (read_signature place) 0x1B (Refused 0x1B 0xC0) p _ refl refl off

-- Reading the calibration byte fails so.
calibration_read_fails : FailsOutside read_calibration
calibration_read_fails p off = fails_by read_calibration 0x1C (Refused 0x1C 0xC0) p _ refl refl off

-- A step outside the mode: any prefix of it leaves the programmer settled and outside, and it brings no data.
record Idles (part : Part) (commands : List Command) : Type 0 where
  -- No prefix of the step changes anything.
  keeps : (m : Memories) (p : Programmer) (i : ℕ) → p.mode ≡ false → Settled part m p
      → Settled part m (after_commands device i commands p)
  none : (p : Programmer) (bytes : List ℕ) → p.mode ≡ false → joined_reply device commands [] p ≡ Data bytes → ⊥
  unbroken : (m n : Memories) → Unbroken device (λ p. Settled part m p ⊎ Settled part n p) commands

-- A restart keeps the memories.
either_restarted : (part : Part) (m n : Memories) (p : Programmer) → Settled part m p ⊎ Settled part n p
    → Settled part m (device.reset p) ⊎ Settled part n (device.reset p)
either_restarted part m n p settled = search (rules, restart_is_settled)

-- after a restart the programmer is outside
fails_restarted : (part : Part) (m n : Memories) (c : Command) → FailsOutside c → (p : Programmer)
    → Settled part m p ⊎ Settled part n p → FailsAt device (λ q. Settled part m q ⊎ Settled part n q) c (device.reset p)
fails_restarted part m n c fails p s =
    let f = fails (device.reset p) refl in
    record {
      none = λ bytes e. stop_no f.fault bytes (sym f.reply ∙ e);
      stands = rw f.after (either_restarted part m n p s);
    }

-- A step of one such command idles outside programming mode.
one_idles : (part : Part) (c : Command) → FailsOutside c → Idles part (c ∷ [])
one_idles part c fails = record {
  keeps = λ m p i off s. keeps m p i off s;
  none = λ p bytes off e. stop_no (fails p off).fault bytes
      (sym (ap (λ r. on_data r (λ b. Data b)) (fails p off).reply) ∙ e);
  unbroken = λ m n. tt;
}
  where
    -- No prefix of the step changes anything.
    keeps : (m : Memories) (p : Programmer) (i : ℕ) → p.mode ≡ false → Settled part m p
        → Settled part m (after_commands device i (c ∷ []) p)
    keeps m p zero off s = s
    keeps m p (suc i) off s = let same = (fails p off).after in search (rules, executed_none)

-- LOAD_ADDRESS is executed in any mode.
loaded : (address : ℕ) (p : Programmer) → address < 2 ^ 32
    → device.after (body (LoadAddress address)) p ≡ (execute_command (LoadAddress address) p).1
loaded address p few = ap (λ (z : Response). z.1) (executes_command (LoadAddress address) p few)

-- LOAD_ADDRESS replies OK.
pub load_reply : (address : ℕ) (p : Programmer) → address < 2 ^ 32 → reply_to device (LoadAddress address) p ≡ Data []
load_reply address p few = search rules

-- So does a step of LOAD_ADDRESS and of one such command.
two_idles : (part : Part) (address : ℕ) (c : Command) → address < 2 ^ 32 → FailsOutside c
    → Idles part (LoadAddress address ∷ c ∷ [])
two_idles part address c few fails = record {
  keeps = λ m p i off s. keeps m p i off s;
  none = λ p bytes off e.
      let f = fails (device.after (body (LoadAddress address)) p) (outside p off) in
      search rules;
  unbroken = λ m n. (λ p s. inr (fails_restarted part m n c fails p s), tt);
}
  where
    -- LOAD_ADDRESS does not change the mode.
    outside : (p : Programmer) → p.mode ≡ false → (device.after (body (LoadAddress address)) p).mode ≡ false
    outside p off = ap (λ (q : Programmer). q.mode) (loaded address p few) ∙ off

    -- LOAD_ADDRESS keeps the memories.
    kept : (m : Memories) (p : Programmer) → Settled part m p
        → Settled part m (device.after (body (LoadAddress address)) p)
    kept m p s = search (rules, loaded)

    -- No prefix of the step changes anything.
    keeps : (m : Memories) (p : Programmer) (i : ℕ) → p.mode ≡ false → Settled part m p
        → Settled part m (after_commands device i (LoadAddress address ∷ c ∷ []) p)
    keeps m p zero off s = s
    keeps m p (suc zero) off s = kept m p s
    keeps m p (suc (suc i)) off s =
        let same = (fails (device.after (body (LoadAddress address)) p) (outside p off)).after in
        search (rules, executed_none, kept)

-- if nothing restarts, the commands executed and replied to are the same
executed_steady : (i : ℕ) (commands : List Command) (p : Programmer)
    → after_commands steady i commands p ≡ after_commands device i commands p
executed_steady (suc i) (command ∷ commands) p = executed_steady i commands (device.after (body command) p)
executed_steady i commands p = search rules

-- The same of the commands that were replied to.
replied_steady : (i : ℕ) (commands : List Command) (p : Programmer) → AreReplied device i commands p
    → AreReplied steady i commands p
replied_steady (suc (suc i)) (command ∷ commands) p r =
    (r.0, replied_steady (suc i) commands (device.after (body command) p) r.1)
replied_steady i commands p r = search rules

-- The same of the data that all of them give.
pub joined_steady : (commands : List Command) (before : List ℕ) (p : Programmer)
    → joined_reply steady commands before p ≡ joined_reply device commands before p
joined_steady commands before p = search rules

module _ (part : Part) (sound : IsPart part) where
  -- What idles in one spelling idles in another.
  as_written : (written commands : List Command) → commands ≡ written → Idles part written → Idles part commands
  as_written written commands e idles = subst (Idles part) (sym e) idles

  -- Each step of a part idles outside programming mode.
  idles : (commands : List Command) → IsStep part commands → Idles part commands
  idles commands (Erases e) = as_written _ commands e (one_idles part erase erase_fails)
  idles commands (ProgramsPage number bytes is_page e) =
      let count = is_page.whole in
      let most = sound.flash_most in
      let some = sound.flash_page in
      let short = page_most part.flash_page (omega arith) sound.flash_fits in
      as_written _ commands e (two_idles part (flash_address part (number * part.flash_page)) (program_page bytes)
      (address_fits part sound (number * part.flash_page) (omega arith)) (page_fails bytes (omega arith)))
  idles commands (ProgramsEepromRun address bytes is_run e) = search (rules, as_written, two_idles, run_fails)
  idles commands (ProgramsFuse f v e) = as_written _ commands e (one_idles part (program_fuse f v) (fuse_fails f v))
  idles commands (ProgramsLock v e) = as_written _ commands e (one_idles part (program_lock v) (lock_fails v))
  idles commands (ReadsFlash start count is_block words e) =
      let inside = is_block.inside in
      let most = sound.flash_most in
      let few = is_block.few in
      as_written _ commands e (two_idles part (flash_address part start) (read_flash_block count)
      (address_fits part sound start (omega arith)) (flash_read_fails count (omega arith)))
  idles commands (ReadsEeprom start count is_block e) = search (rules, as_written, two_idles, eeprom_read_fails)
  idles commands (ReadsFuse f e) = as_written _ commands e (one_idles part (read_fuse f) (fuse_read_fails f))
  idles commands (ReadsLock e) = as_written _ commands e (one_idles part read_lock lock_read_fails)
  idles commands (ReadsSignature place few e) = search (rules, as_written, one_idles, signature_read_fails)
  idles commands (ReadsCalibration e) = as_written _ commands e (one_idles part read_calibration calibration_read_fails)

  -- no attempt at a step goes on after a restart
  pub step_ends : (commands : List Command) (m n : Memories) → IsStep part commands
      → Unbroken device (λ p. Settled part m p ⊎ Settled part n p) commands
  step_ends commands m n is = (idles commands is).unbroken m n

  -- a step that brings its data began in programming mode
  pub in_mode_by_data : (commands : List Command) (p : Programmer) (bytes : List ℕ) → IsStep part commands
      → joined_reply device commands [] p ≡ Data bytes → p.mode ≡ true
  in_mode_by_data commands p bytes is has = search rules

  -- What is ready is in programming mode.
  either_settled : (m n : Memories) (q r : Programmer) → q ≡ r → Ready part m q ⊎ Ready part n q
      → Settled part m r ⊎ Settled part n r
  either_settled m n q r same ready = search rules

  -- Each step leads from its memories to those that it leaves, in programming mode or outside.
  pub step_fits : (commands : List Command) (m : Memories) → IsStep part commands
      → IsRepeatable device commands (Settled part m) (Settled part (memories_after_step part commands m))
  step_fits commands m is = record {
    prefix = λ p i s replied. elim (cases_Bool p.mode) [
      | inl on ↦ either_settled m _ _ _ (executed_steady i commands p)
          (ready.prefix p i (settled_ready part m p on s) (replied_steady i commands p replied))
      | inr off ↦ inl ((idles commands is).keeps m p i off s)
    ];
    again = λ p i s replied. elim (cases_Bool p.mode) [
      | inl on ↦ rw (← executed_steady i commands p) (ready_settled part _ _
          (ready.again p i (settled_ready part _ p on s) (replied_steady i commands p replied)))
      | inr off ↦ (idles commands is).keeps (memories_after_step part commands m) p i off s
    ];
    whole = λ p bytes has s.
        rw (← executed_steady (length commands) commands p) (ready_settled part _ _
        (ready.whole p bytes (joined_steady commands [] p ∙ has)
        (settled_ready part m p (in_mode_by_data commands p bytes is has) s)));
    restart_keeps = λ p s. restart_is_settled part m p s;
    restart_keeps_after = λ p s. restart_is_settled part (memories_after_step part commands m) p s;
    unbroken = step_ends commands m (memories_after_step part commands m) is;
  }
    where
      -- The same within programming mode, if nothing restarts.
      ready : IsRepeatable steady commands (Ready part m) (Ready part (memories_after_step part commands m))
      ready = step_ready part sound commands m is

  -- each step of a list, from the memories that those before it leave
  pub all_fit : (steps : List (List Command)) (m : Memories) → AreSteps part steps
      → AllFit device (λ j. Settled part (memories_after_steps part j steps m)) steps
  all_fit [] m are = tt
  all_fit (commands ∷ steps) m are =
      search (rules, step_fits, all_fit steps (memories_after_step part commands m) are.1)
