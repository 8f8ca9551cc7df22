-- What all blocks of a memory give.
use Rattle.std.proofs.lemmas.Grind.{common_steps}
use Rattle.std.proofs.Common.{◌≡◌, ℕ, zero, suc, ◌+◌, ◌-◌, ◌*◌, ◌%◌, ◌<◌, List, [], ◌++◌, length, take, drop, sym, ap, ◌∙◌, arith, rules}
use Rattle.std.proofs.lemmas.List.{drop_all, length-drop, take-append-drop, take_min, drop-drop}
use Rattle.std.specs.Prelude.{min}
use Rattle.avr_part.specs.declared.part.Mem.{Mem}
use Rattle.avr_part.specs.declared.part.Mem.TheVariants.{Flash, Eeprom}
use Rattle.avr_part.specs.Part.{Part, IsPart}
use Rattle.stk_host.specs.Places.{each_from}
use Rattle.stk_host.specs.ReadSteps.{read_count, read_step, read_steps}
use Rattle.stk_emu.specs.Effect.{Memories, memory_in}
use Rattle.stk_emu.specs.Settled.{FitsPart}
use Rattle.stk_emu.specs.StepData.{data_of_steps}

-- A block and what follows it are the rest of the memory.
block_join : (xs : List ℕ) (start size : ℕ) → length xs ≡ size
    → take (min 256 (size - start)) (drop start xs) ++ drop (start + 256) xs ≡ drop start xs
block_join xs start size long =
    let left : size - start ≡ length (drop start xs) = ap (λ n. n - start) (sym long) ∙ sym (length-drop start xs) in
    rw (left, take_min 256 (drop start xs), ← drop-drop 256 start xs) (take-append-drop 256 (drop start xs))

-- Three bytes, read one by one, are the three bytes.
pub one_by_one : (xs : List ℕ) → length xs ≡ 3
    → take 1 (drop 0 xs) ++ (take 1 (drop 1 xs) ++ (take 1 (drop 2 xs) ++ [])) ≡ xs
one_by_one xs e = grind (arith, common_steps)

module _ (part : Part) (sound : IsPart part) (m : Memories) (f : FitsPart part m) where
  -- The blocks of flash from a place on give the rest of flash.
  flash_blocks : (n k : ℕ) → n + k ≡ read_count part Flash
      → data_of_steps part (each_from (read_step part Flash) n k) m ≡ drop (n * 256) m.flash
  flash_blocks n zero e = let long = f.flash in sym (drop_all (n * 256) m.flash (omega (arith, e, long)))
  flash_blocks n (suc k) e =
      let most = sound.flash_most in
      let few : n * 256 < 4294967296 = omega (arith, e) in
      let even : n * 256 % 2 ≡ 0 = omega arith in
      let next : (n + 1) * 256 ≡ n * 256 + 256 = omega arith in
      search (rules, block_join, flash_blocks (n + 1) k (let g : n + 1 + k ≡ n + suc k = omega arith in g ∙ e))

  -- The blocks of EEPROM from a place on give the rest of EEPROM.
  eeprom_blocks : (n k : ℕ) → n + k ≡ read_count part Eeprom
      → data_of_steps part (each_from (read_step part Eeprom) n k) m ≡ drop (n * 256) m.eeprom
  eeprom_blocks n zero e = let long = f.eeprom in sym (drop_all (n * 256) m.eeprom (omega (arith, e, long)))
  eeprom_blocks n (suc k) e =
      let next : (n + 1) * 256 ≡ n * 256 + 256 = omega arith in
      search (rules, block_join, eeprom_blocks (n + 1) k (let g : n + 1 + k ≡ n + suc k = omega arith in g ∙ e))

  -- all blocks of a memory are the memory
  pub read_gives : (mem : Mem) → data_of_steps part (read_steps part mem) m ≡ memory_in part mem m
  read_gives mem = grind (arith, common_steps, flash_blocks, eeprom_blocks)
