-- What the steps that read a memory bring.
use Rattle.std.proofs.Common.{◌≡◌, ℕ, ◌+◌, ◌*◌, ◌<◌, ◌≤◌, rules}
use Rattle.std.specs.Prelude.{min}
use Rattle.avr_part.specs.declared.part.Mem.{Mem}
use Rattle.avr_part.specs.Part.{Part, IsPart, size_of}
use Rattle.stk_frame.specs.Commands.{shape}
use Rattle.stk_host.specs.ReadSteps.{read_unit, read_count, load_command_at, read_command_at}
use Rattle.stk_host.specs.Calls.{IsSizedStep, data_count}

-- how many bytes the steps before this number have brought
abbrev pub read_before : Part → Mem → ℕ → ℕ
read_before part mem number = min (number * read_unit mem) (size_of mem part)

-- what one more step brings
pub record BringsMore (part : Part) (mem : Mem) (number : ℕ) : Type 0 where
  pub more : read_before part mem (number + 1) ≡ read_before part mem number + data_count
      (shape (read_command_at part mem number))
  pub within : read_before part mem (number + 1) ≤ size_of mem part

pub brings_more : (part : Part) (mem : Mem) (number : ℕ) → number < read_count part mem → BringsMore part mem number
brings_more part mem number before = search rules

pub all_brought : (part : Part) (mem : Mem) (number : ℕ) → read_count part mem ≤ number
    → read_before part mem number ≡ size_of mem part
all_brought part mem number past = search rules

pub few_reads : (part : Part) (mem : Mem) → IsPart part → read_count part mem ≤ 1024
few_reads part mem is = search rules

pub sized_read : (part : Part) (mem : Mem) (number : ℕ)
    → IsSizedStep (load_command_at part mem number) (read_command_at part mem number)
sized_read part mem number = search rules
