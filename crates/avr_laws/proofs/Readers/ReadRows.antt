-- The steps that read a memory are the rows that do.
use Rattle.std.proofs.Common.{◌≡◌, ◌∙◌, ◌+◌, ◌*◌, ℕ, List, [], ◌∷◌, map, sym, ap, subst, Option, Some, None, rules}
use Rattle.std.specs.Prelude.{◌==◌, slice_index, if◌then◌else◌}
use Rattle.avr_part.specs.Part.{Part}
use Rattle.avr_part.specs.declared.part.Mem.{Mem}
use Rattle.avr_part.specs.declared.part.Mem.TheVariants.{Flash, Eeprom, Lfuse, Hfuse, Efuse, Lock, Signature, Calibration}
use Rattle.stk_emu.specs.Effect.{Memories}
use Rattle.stk_emu.specs.WriteOperations.{memories_after_step}
use Rattle.stk_frame.specs.Commands.{body}
use Rattle.stk_frame.specs.declared.command.Command.{Command}
use Rattle.stk_host.specs.ReadSteps.{read_steps}
use Rattle.avr_tool.proofs.Each.{Each, each_of}
use Rattle.avr_laws.proofs.Table.RealOf.{StepsWork, WorksBy}
use Rattle.avr_laws.proofs.Table.Steps.{bodies}
use Rattle.avr_laws.specs.Reader.{ReadsOneOf}
use Rattle.avr_laws.specs.Table.{IsRow, Row}

-- what tells by which memory a command reads: its code, and of a fuse its instruction
abbrev key_of : List ℕ → ℕ
key_of body = if slice_index body 0 == 0x18 then 0x18 + 256 * (slice_index body 2 + 256 * slice_index body 3)
    else slice_index body 0

-- the same of a step's bodies
abbrev key_in : List (List ℕ) → ℕ
key_in [] = 0
key_in (first ∷ []) = key_of first
key_in (first ∷ second ∷ more) = key_of second

-- the key of each memory
abbrev key : Mem → ℕ
key Flash = 0x14
key Eeprom = 0x16
key Lfuse = 0x005018
key Hfuse = 0x085818
key Efuse = 0x085018
key Lock = 0x1A
key Signature = 0x1B
key Calibration = 0x1C

-- the memory of a key
abbrev memory_by : ℕ → Option Mem
memory_by n = if n == 0x14 then Some Flash else if n == 0x16 then Some Eeprom else if n == 0x005018 then Some Lfuse
    else if n == 0x085818 then Some Hfuse
    else if n == 0x085018 then Some Efuse
    else if n == 0x1A then Some Lock
    else if n == 0x1B then Some Signature
    else if n == 0x1C then Some Calibration
    else None

-- each memory has its own key
by_key : (mem : Mem) → memory_by (key mem) ≡ Some mem
by_key mem = search rules

same_memory : (a b : Mem) → Some a ≡ Some b → a ≡ b
same_memory a b e = cc

no_memory : (a : Mem) → Some a ≡ None → ⊥
no_memory a e = cc

module _ (Reads : Mem → Type 0) (part : Part) (x : Memories) (mem : Mem) (reads : Reads mem) (row : Row)
    (same : key mem ≡ key_in (bodies row)) where
  -- the memory that a row with this key reads
  row_memory : (other : Row) → row ≡ other → Some mem ≡ memory_by (key_in (bodies other))
  row_memory other is = sym (by_key mem) ∙ (ap memory_by same ∙ ap (λ (r : Row). memory_by (key_in (bodies r))) is)

  -- a row that reads this memory may be read
  reads_it : (m : Mem) → Some mem ≡ Some m → Reads m
  reads_it m is = subst Reads (same_memory mem m is) reads

  -- so this row may be read
  pub is_read : (is : IsRow part row) → ReadsOneOf Reads part row is x
  is_read is = search (rules, reads_it, row_memory, no_memory)

module _ (Reads : Mem → Type 0) (part : Part) where
  -- these commands read this memory
  abbrev Has : Mem → List Command → Type 0
  Has mem commands = key mem ≡ key_in (map body commands)

  -- commands that read this memory
  reading_works_by : (mem : Mem) (commands : List Command) → Reads mem → Has mem commands → (x : Memories)
      → WorksBy part (ReadsOneOf Reads part) commands x
  reading_works_by mem commands reads has x row is sent = search (rules, bodies, is_read)

  -- the steps that read a memory
  step_keys : (mem : Mem) → Each (Has mem) (read_steps part mem)
  step_keys Flash = search (rules, each_of)
  step_keys Eeprom = search (rules, each_of)
  step_keys Lfuse = search (rules, each_of)
  step_keys Hfuse = search (rules, each_of)
  step_keys Efuse = search (rules, each_of)
  step_keys Lock = search (rules, each_of)
  step_keys Signature = search (rules, each_of)
  step_keys Calibration = search (rules, each_of)

  -- they all read it
  steps_work_by : (mem : Mem) → Reads mem → (steps : List (List Command)) → Each (Has mem) steps → (x : Memories)
      → StepsWork part (ReadsOneOf Reads part) steps x
  steps_work_by mem reads [] each x = tt
  steps_work_by mem reads (commands ∷ steps) (has, others) x = (
    reading_works_by mem commands reads has x,
    steps_work_by mem reads steps others (memories_after_step part commands x),
  )

  -- so the steps that read this memory may be sent
  pub reading_works : (mem : Mem) → Reads mem → (x : Memories)
      → StepsWork part (ReadsOneOf Reads part) (read_steps part mem) x
  reading_works mem reads x = steps_work_by mem reads (read_steps part mem) (step_keys mem) x
