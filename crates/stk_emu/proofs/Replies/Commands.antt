-- The programmer's state after each command of a host.
use Rattle.std.proofs.Common.{◌≡◌, ℕ, zero, suc, ◌<◌, ◌^◌, [], ◌∷◌, refl, sym, ap, subst, ◌⊎◌, inl, true, cond, rules}
use Rattle.std.proofs.lemmas.List.{length-replicate}
use Rattle.std.proofs.lemmas.Bool.{cond-true}
use Rattle.avr_part.specs.Part.{Part}
use Rattle.stk_frame.specs.declared.command.Command.{Command}
use Rattle.stk_frame.specs.declared.command.Command.TheVariants.{LoadAddress}
use Rattle.stk_frame.specs.declared.command.Fuse.{Fuse}
use Rattle.stk_frame.specs.Commands.{body}
use Rattle.stk_frame.specs.Decoding as decoding
use Rattle.stk_frame.specs.HostCommands.{enter, leave, erase, program_fuse, program_lock, read_fuse, read_lock, read_calibration}
use Rattle.stk_frame.proofs.DecodedBodies.{read_back}
use Rattle.stk_emu.specs.Programmer.{Programmer, Response, execute, execute_command}
use Rattle.stk_emu.specs.Device.{Device, device}
use Rattle.stk_emu.proofs.Repeatable.{after_commands, IsRepeatable, Settled, FailsAt}
use Rattle.stk_emu.specs.Effect.{Memories}
use Rattle.stk_emu.specs.WriteOperations.{memories_after_step}
use Rattle.stk_emu.specs.Settled.{HasMemories, Ready}

-- executing a command's body is executing the command
pub executes_command : (c : Command) (p : Programmer) → decoding.FieldsFit c → execute (body c) p ≡ execute_command c p
executes_command c p fits = rw (execute, read_back c fits) refl

module _ {P : Type 0} (m : Device P) where
  pub executed_none : (i : ℕ) (p : P) → after_commands m i [] p ≡ p
  executed_none i p = search rules

  -- a step of one command
  pub one_fits : (c : Command) (Before After : P → Type 0) → ((p : P) → Before p → After (m.after (body c) p))
      → ((p : P) → After p → After (m.after (body c) p)) → ((p : P) → Before p → Before (m.reset p))
      → ((p : P) → After p → After (m.reset p)) → IsRepeatable m (c ∷ []) Before After
  one_fits c Before After does again restart_keeps restart_keeps_after = search (rules, executed_none)

  -- a step of two commands
  pub two_fits : (c d : Command) (Before After : P → Type 0) → ((p : P) → Before p → Before (m.after (body c) p))
      → ((p : P) → After p → After (m.after (body c) p))
      → ((p : P) → Before p → After (m.after (body d) (m.after (body c) p)))
      → ((p : P) → After p → After (m.after (body d) (m.after (body c) p))) → ((p : P) → Before p → Before (m.reset p))
      → ((p : P) → After p → After (m.reset p))
      → ((p : P) → Before p ⊎ After p → (m.reset p ≡ p) ⊎ FailsAt m (λ q. Before q ⊎ After q) d (m.reset p))
      → IsRepeatable m (c ∷ d ∷ []) Before After
  two_fits c d Before After first first_again does again restart_keeps restart_keeps_after ends =
      search (rules, prefixes, agains)
    where
      prefixes : (p : P) (i : ℕ) → Before p → Before (after_commands m i (c ∷ d ∷ []) p)
          ⊎ After (after_commands m i (c ∷ d ∷ []) p)
      prefixes p zero b = inl b
      prefixes p (suc zero) b = inl (first p b)
      prefixes p (suc (suc i)) b = search (rules, executed_none)

      agains : (p : P) (i : ℕ) → After p → After (after_commands m i (c ∷ d ∷ []) p)
      agains p zero a = a
      agains p (suc zero) a = first_again p a
      agains p (suc (suc i)) a = subst After (sym (executed_none i (m.after (body d) (m.after (body c) p)))) (again p a)

-- the device, if it never restarts
abbrev pub steady : Device Programmer
steady = record { reply = device.reply; after = device.after; reset = λ p. p }

pub one_steady : (c : Command) (Before After : Programmer → Type 0)
    → ((p : Programmer) → Before p → After (device.after (body c) p))
    → ((p : Programmer) → After p → After (device.after (body c) p)) → IsRepeatable steady (c ∷ []) Before After
one_steady c Before After does again = one_fits steady c Before After does again (λ p b. b) (λ p a. a)

pub two_steady : (c d : Command) (Before After : Programmer → Type 0)
    → ((p : Programmer) → Before p → Before (device.after (body c) p))
    → ((p : Programmer) → After p → After (device.after (body c) p))
    → ((p : Programmer) → Before p → After (device.after (body d) (device.after (body c) p)))
    → ((p : Programmer) → After p → After (device.after (body d) (device.after (body c) p)))
    → IsRepeatable steady (c ∷ d ∷ []) Before After
two_steady c d Before After first first_again does again =
    two_fits steady c d Before After first first_again does again (λ p b. b) (λ p a. a) (λ p b. inl refl)

-- a command of programming mode, in that mode
pub in_mode_is : (p : Programmer) (x y : Response) → p.mode ≡ true → (cond p.mode x y).1 ≡ x.1
in_mode_is p x y e = ap (λ z. z.1) (cond-true p.mode x y e)

module _ (part : Part) where
  pub settled_idle : (m : Memories) (p : Programmer) → Settled part m p → HasMemories part m p
  settled_idle m p s = search (rules, length-replicate)

  -- a ready programmer is settled, and a settled one is ready in programming mode
  pub ready_settled : (m : Memories) (p : Programmer) → Ready part m p → Settled part m p
  ready_settled m p s = search rules

  pub settled_ready : (m : Memories) (p : Programmer) → p.mode ≡ true → Settled part m p → Ready part m p
  settled_ready m p mode s = search rules

  pub ready_idle : (m : Memories) (p : Programmer) → Ready part m p → HasMemories part m p
  ready_idle m p s = settled_idle m p (ready_settled m p s)

  -- after a restart the memories are the same, and nothing is loaded
  pub restart_keeps_memories : (m : Memories) (p : Programmer) → HasMemories part m p
      → HasMemories part m (device.reset p)
  restart_keeps_memories m p s = search (rules, length-replicate)

  pub restart_is_settled : (m : Memories) (p : Programmer) → Settled part m p → Settled part m (device.reset p)
  restart_is_settled m p s = search (rules, settled_idle)

  -- CMD_ENTER_PROGMODE_ISP sets programming mode and empties the buffers
  pub enter_does : (m : Memories) (p : Programmer) → HasMemories part m p → Ready part m (device.after (body enter) p)
  enter_does m p s = search rules

  pub leave_keeps : (m : Memories) (p : Programmer) → HasMemories part m p
      → HasMemories part m (device.after (body leave) p)
  leave_keeps m p s = search rules

  pub load_keeps : (address : ℕ) (m : Memories) (p : Programmer) → address < 2 ^ 32 → Ready part m p
      → Ready part m (device.after (body (LoadAddress address)) p)
  load_keeps address m p fits s = search rules

  pub fuse_does : (f : Fuse) (v : ℕ) (m : Memories) (p : Programmer) → Ready part m p
      → Ready part (memories_after_step part (program_fuse f v ∷ []) m) (device.after (body (program_fuse f v)) p)
  fuse_does f v m p s = search rules

  pub lock_does : (v : ℕ) (m : Memories) (p : Programmer) → Ready part m p
      → Ready part (memories_after_step part (program_lock v ∷ []) m) (device.after (body (program_lock v)) p)
  lock_does v m p s = search rules

  -- the EESAVE bit is the part's
  pub erase_does : (m : Memories) (p : Programmer) → Ready part m p
      → Ready part (memories_after_step part (erase ∷ []) m) (device.after (body erase) p)
  erase_does m p s = search rules

-- reading a byte changes nothing
pub fuse_read_after : (f : Fuse) (p : Programmer) → p.mode ≡ true → device.after (body (read_fuse f)) p ≡ p
fuse_read_after f p e = search rules

pub lock_read_after : (p : Programmer) → p.mode ≡ true → device.after (body read_lock) p ≡ p
lock_read_after p e = in_mode_is p _ _ e

pub calibration_read_after : (p : Programmer) → p.mode ≡ true → device.after (body read_calibration) p ≡ p
calibration_read_after p e = in_mode_is p _ _ e
