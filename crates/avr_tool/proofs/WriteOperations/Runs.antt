-- The runs of a write do what the write does.
use Rattle.std.proofs.lemmas.Grind.{common_steps}
use Rattle.std.proofs.Common.{◌≡◌, ℕ, zero, suc, ◌+◌, ◌-◌, ◌*◌, ◌/◌, ◌%◌, ◌≤◌, ◌<◌, List, ◌∷◌, length, refl, ap, ◌∙◌, arith, inl, inr, ◌⊎◌, true, false, Option, Some, None, is_some, unwrap_or, rules}
use Rattle.std.proofs.Math.Nat.{zero-mod}
use Rattle.std.proofs.lemmas.Bool.{cases_Bool, cond-true}
use Rattle.avr_image.specs.Image.{byte_at, filled_bytes, run_end, first_from}
use Rattle.avr_image.specs.Walk.{IsNextHeld}
use Rattle.avr_image.proofs.Lemmas.{filled_is, run_is_longest, next_held, none_held}
use Rattle.avr_part.specs.declared.part.Mem.TheVariants.{Eeprom}
use Rattle.avr_part.specs.Part.{Part, IsPart}
use Rattle.stk_frame.specs.declared.command.Command.{Command}
use Rattle.stk_host.specs.Places.{each_from}
use Rattle.stk_host.specs.WriteSteps.{page_end, run_step, run_steps_at}
use Rattle.stk_host.proofs.ImagePlaces.PagesAndRuns.{IsNextRun, next_run, last_run}
use Rattle.stk_emu.specs.Effect.{Memories, Image, Write, effect, effects, with_image, are_locked}
use Rattle.stk_emu.specs.WriteOperations.{image_at, write_operations_of}
use Rattle.stk_emu.proofs.Memories.LaidImages.{get_laid, length-laid, in_part, some_at}
use Rattle.avr_tool.proofs.WriteOperations.Places.{Written, Changed, changed_first, gap_first, all_laid, placed_before, placed_behind}

-- The write operation of one run changes its bytes alone.
run_changed : (image : Image) (start end : ℕ) (old : List ℕ) → start ≤ end
    → ((k : ℕ) → start ≤ k → k < end → is_some (byte_at image k) ≡ true)
    → Changed (λ b x. unwrap_or b x) image start end old
    (with_image (image_at start (filled_bytes image start (end - start))) old)
run_changed image start end old order held =
    search (rules, filled_is, length-laid, get_laid, placed_before, in_part, some_at, placed_behind)

module _ (part : Part) (sound : IsPart part) (image : Image) where
  -- EEPROM after the write operations of these steps
  pub record Loaded (steps : List (List Command)) (m : Memories) (from : ℕ) (old : List ℕ) : Type 0 where
    pub new : List ℕ
    pub is : effects part (write_operations_of steps) (record m { eeprom = old }) ≡ record m { eeprom = new }
    pub written : Written (λ b x. unwrap_or b x) image from old new

  -- One run and then the others write the image from its place on.
  run_first : (next start end : ℕ) (steps others : List (List Command)) (m : Memories) (old : List ℕ)
      → are_locked m ≡ false → IsNextHeld image next start → start ≤ end
      → end ≡ run_end image start (page_end part.eeprom_page start)
      → ((k : ℕ) → start ≤ k → k < end → is_some (byte_at image k) ≡ true) → steps ≡ run_step part image start ∷ others
      → ((mid : List ℕ) → length mid ≡ length old → Loaded others m end mid) → Loaded steps m next old
  run_first next start end steps others m old free first order end_is held steps_are rest =
      let bytes = filled_bytes image start (end - start) in
      let mid = with_image (image_at start bytes) old in
      let r : Loaded others m end mid = rest mid (length-laid (image_at start bytes) old) in
      record {
        new = r.new;
        is = search rules;
        written = search (rules, gap_first, changed_first, run_changed);
      }

  -- from a border on, by the next byte that is held
  abbrev From : ℕ → Memories → List ℕ → Type 0
  From next m old = Loaded (each_from (run_steps_at part image) next (part.eeprom_size - next)) m next old

  -- All runs from a place on write the image from there, whether one is left or not.
  runs_from : (next : ℕ) (o : Option ℕ) (m : Memories) (old : List ℕ) → are_locked m ≡ false
      → length image ≤ part.eeprom_size → (next % part.eeprom_page ≡ 0) ⊎ (byte_at image next ≡ None)
      → first_from image next ≡ o → ((end : ℕ) (mid : List ℕ) → next < end → next < part.eeprom_size
      → (end % part.eeprom_page ≡ 0) ⊎ (byte_at image end ≡ None) → From end m mid) → From next m old
  runs_from next None m old free fits border e others =
      let gap = none_held image next e in
      record {
        new = old;
        is = search (rules, last_run);
        written = search rules;
      }
  runs_from next (Some start) m old free fits border e others =
      let first : IsNextHeld image next start = next_held image next start e in
      let page = part.eeprom_page in
      let end = run_end image start (page_end page start) in
      let some = sound.eeprom_page in
      let here : page * (start / page) + start % page ≡ start = omega arith in
      let rest : start % page < page = omega arith in
      let whole : start ≤ page_end page start = omega (arith, here, rest) in
      let run = run_is_longest image start (page_end page start) whole in
      let found : IsNextRun part image next start end =
      next_run part image next start end some fits border first run refl in
      run_first next start end (each_from (run_steps_at part image) next (part.eeprom_size - next))
      (each_from (run_steps_at part image) end (part.eeprom_size - end)) m old free first run.after refl run.held
      found.steps
      (λ mid same. others end mid found.longer (omega (arith, first.after, first.within, fits)) found.border)

  -- If the chip isn't locked, all runs from a place on write the image from there.
  runs_free : (fuel next : ℕ) (m : Memories) (old : List ℕ) → are_locked m ≡ false → length image ≤ part.eeprom_size
      → part.eeprom_size ≤ next + fuel → (next % part.eeprom_page ≡ 0) ⊎ (byte_at image next ≡ None) → From next m old
  runs_free zero next m old free fits enough border = search (rules, runs_from)
  runs_free (suc fuel) next m old free fits enough border =
      runs_from next (first_from image next) m old free fits border refl
      (λ end mid longer inside b. runs_free fuel end m mid free fits (omega (arith, longer, enough)) b)

  -- The runs change nothing in a locked chip.
  runs_locked : (addr count : ℕ) (m : Memories) → are_locked m ≡ true
      → effects part (write_operations_of (each_from (run_steps_at part image) addr count)) m ≡ m
  runs_locked addr zero m lock = refl
  runs_locked addr (suc count) m lock = search (rules, runs_locked (addr + 1) count m lock)

  -- the runs of an image do what its write does
  pub runs_effect : (m : Memories) → length image ≤ part.eeprom_size
      → effects part (write_operations_of (each_from (run_steps_at part image) 0 part.eeprom_size)) m
      ≡ effect part (Write Eeprom image) m
  runs_effect m fits = elim (cases_Bool (are_locked m)) [
    | inl lock ↦ search (rules, runs_locked, cond-true)
    | inr free ↦
        let r : Loaded (each_from (run_steps_at part image) 0 (part.eeprom_size - 0)) m 0 m.eeprom =
        runs_free part.eeprom_size 0 m m.eeprom free fits (omega arith) (inl (zero-mod part.eeprom_page)) in
        let all : part.eeprom_size ≡ part.eeprom_size - 0 = omega arith in
        ap (λ count. effects part (write_operations_of (each_from (run_steps_at part image) 0 count)) m) all
        ∙ (grind (arith, common_steps, all_laid))
  ]
