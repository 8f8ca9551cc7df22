-- Steps that are cut short and repeated, on a device that may restart.
use Rattle.std.specs.Prelude.{ℕ, zero, suc, ◌⊎◌, ◌≡◌, List, [], ◌∷◌, ◌++◌, length, replicate, None}
use Rattle.avr_part.specs.Part.{Part}
use Rattle.stk_frame.specs.declared.command.Command.{Command}
use Rattle.stk_frame.specs.Commands.{body}
use Rattle.stk_host.specs.Tape.{Replied}
use Rattle.stk_host.specs.Steps.{Reply, Data, Again, Stop, reply_from_reading}
use Rattle.stk_emu.specs.Programmer.{Programmer}
use Rattle.stk_emu.specs.Device.{Device}
use Rattle.stk_emu.specs.Effect.{Memories, memories_of}
use Rattle.stk_emu.specs.Settled.{NeedsNoExtendedAddress}

abbrev pub on_data : Reply → (List ℕ → Reply) → Reply
on_data (Data bytes) go_on = go_on bytes
on_data (Again fault) go_on = Again fault
on_data (Stop fault) go_on = Stop fault

abbrev pub reply_to : {P : Type 0} → Device P → Command → P → Reply
reply_to m command p = reply_from_reading command (Replied (m.reply (body command) p))

-- The result of commands that are all executed and replied to: their data joined, after `before`.
abbrev pub joined_reply : {P : Type 0} → Device P → List Command → List ℕ → P → Reply
joined_reply m [] before p = Data before
joined_reply m (command ∷ commands) before p =
    on_data (reply_to m command p) (λ bytes. joined_reply m commands (before ++ bytes) (m.after (body command) p))

-- The device after the first `i` commands.
abbrev pub after_commands : {P : Type 0} → Device P → ℕ → List Command → P → P
after_commands m zero commands p = p
after_commands m (suc i) [] p = p
after_commands m (suc i) (command ∷ commands) p = after_commands m i commands (m.after (body command) p)

-- Each of the first `i` commands brought data, but for the last of them.
abbrev pub AreReplied : {P : Type 0} → Device P → ℕ → List Command → P → Type 0
AreReplied m (suc (suc i)) (command ∷ commands) p =
    ((bytes : List ℕ) × (reply_to m command p ≡ Data bytes)) × AreReplied m (suc i) commands (m.after (body command) p)
AreReplied m i commands p = Unit {0}

-- A command that brings no data, and after which a condition holds.
pub record FailsAt {P : Type 0} (m : Device P) (Stands : P → Type 0) (command : Command) (p : P) : Type 0 where
  pub none : (bytes : List ℕ) → reply_to m command p ≡ Data bytes → ⊥
  pub stands : Stands (m.after (body command) p)

-- Each of these commands fails right after a restart, unless that changes nothing.
abbrev pub FailOnceRestarted : {P : Type 0} → Device P → (P → Type 0) → List Command → Type 0
FailOnceRestarted m Stands [] = Unit {0}
FailOnceRestarted {P} m Stands (command ∷ commands) =
    ((p : P) → Stands p → (m.reset p ≡ p) ⊎ FailsAt m Stands command (m.reset p)) × FailOnceRestarted m Stands commands

-- No attempt at these commands goes on after a restart between two of them.
abbrev pub Unbroken : {P : Type 0} → Device P → (P → Type 0) → List Command → Type 0
Unbroken m Stands [] = Unit {0}
Unbroken m Stands (command ∷ commands) = FailOnceRestarted m Stands commands

-- The commands of a step lead from `Before` to `After`, also if the step is cut short and repeated. A command is sent
-- only if those before it brought data. A prefix of them keeps `After`, and leads from `Before` to either. All of them
-- lead to `After` if each brought its data. A restart keeps both conditions, and between two commands it ends the
-- attempt.
pub record IsRepeatable {P : Type 0} (m : Device P) (commands : List Command) (Before After : P → Type 0) : Type 0 where
  pub prefix : (p : P) (i : ℕ) → Before p → AreReplied m i commands p → Before (after_commands m i commands p)
      ⊎ After (after_commands m i commands p)
  pub again : (p : P) (i : ℕ) → After p → AreReplied m i commands p → After (after_commands m i commands p)
  pub whole : (p : P) (bytes : List ℕ) → joined_reply m commands [] p ≡ Data bytes → Before p
      → After (after_commands m (length commands) commands p)
  pub restart_keeps : (p : P) → Before p → Before (m.reset p)
  pub restart_keeps_after : (p : P) → After p → After (m.reset p)
  pub unbroken : Unbroken m (λ p. Before p ⊎ After p) commands

-- A programmer with empty buffers, in programming mode or restarted. No extended address is set that a step would not
-- set again. Address and parameters don't matter, because each attempt of a step loads its address. Outside
-- programming mode, which no step enters, every attempt fails.
pub record Settled (part : Part) (m : Memories) (p : Programmer) : Type 0 where
  pub memories : memories_of p.chip ≡ m
  pub part_is : p.chip.part ≡ part
  pub flash_buffer : p.chip.flash_buffer ≡ replicate part.flash_page 255
  pub eeprom_buffer : p.chip.eeprom_buffer ≡ replicate part.eeprom_page None
  pub extended : NeedsNoExtendedAddress part → p.chip.extended ≡ 0
