-- Which places have steps: the pages that are used, and the first byte of each run.
use Rattle.std.proofs.lemmas.Grind.{common_steps}
use Rattle.std.proofs.Common.{◌≡◌, ◌∙◌, ap, refl, arith, ℕ, suc, zero, ◌+◌, ◌-◌, ◌*◌, ◌/◌, ◌%◌, ◌<◌, ◌≤◌, List, [], ◌∷◌, ◌++◌, length, true, false, Option, None, inl, inr, ◌⊎◌, rules}
use Rattle.std.proofs.lemmas.Bool.{cases_lt}
use Rattle.std.proofs.Math.Nat.{mul-mod_left}
use Rattle.avr_image.specs.Image.{byte_at, holds_any, run_end}
use Rattle.avr_image.specs.Walk.{IsNextHeld, IsByteRun}
use Rattle.avr_image.proofs.Lemmas.{held_within, run_is_longest}
use Rattle.avr_part.specs.Part.{Part}
use Rattle.stk_frame.specs.declared.command.Command.{Command}
use Rattle.stk_host.specs.Places.{each_from}
use Rattle.stk_host.specs.WriteSteps.{page_steps, page_end, begins_run, run_step, run_steps_at}
use Rattle.std.proofs.lemmas.Bool.Decides.{nat_tests}

-- no place has steps
pub no_steps : (steps_at : ℕ → List (List Command)) (place count : ℕ)
    → ((i : ℕ) → place ≤ i → i < place + count → steps_at i ≡ []) → each_from steps_at place count ≡ []
no_steps steps_at place zero none = refl
no_steps steps_at place (suc count) none =
    search (rules, no_steps steps_at (place + 1) count (λ i a l. none i (omega (arith, a)) (omega (arith, l))))

-- the next of the places
pub next_place : (steps_at : ℕ → List (List Command)) (place end : ℕ) → place < end
    → each_from steps_at place (end - place) ≡ steps_at place ++ each_from steps_at (place + 1) (end - (place + 1))
next_place steps_at place end before = search rules

pub page_most : (page : ℕ) → 0 < page → 256 % page ≡ 0 → page ≤ 256
page_most page some fits = search rules

-- a place without a step, and one with a step
pub no_page : (part : Part) (image : List (Option ℕ)) (number : ℕ)
    → holds_any image (number * part.flash_page) part.flash_page ≡ false → page_steps part image number ≡ []
no_page part image number is = rw is refl

pub no_run : (part : Part) (image : List (Option ℕ)) (addr : ℕ) → begins_run part.eeprom_page image addr ≡ false
    → run_steps_at part image addr ≡ []
no_run part image addr is = rw is refl

one_run : (part : Part) (image : List (Option ℕ)) (addr : ℕ) → begins_run part.eeprom_page image addr ≡ true
    → run_steps_at part image addr ≡ run_step part image addr ∷ []
one_run part image addr is = rw is refl

-- the run of the next byte that is held
pub record IsNextRun (part : Part) (image : List (Option ℕ)) (next start end : ℕ) : Type 0 where
  pub longer : next < end
  pub within : end ≤ part.eeprom_size
  pub steps : each_from (run_steps_at part image) next (part.eeprom_size - next)
      ≡ run_step part image start ∷ each_from (run_steps_at part image) end (part.eeprom_size - end)
  pub border : (end % part.eeprom_page ≡ 0) ⊎ (byte_at image end ≡ None)

-- places without steps are skipped
skip_steps : (steps_at : ℕ → List (List Command)) (place count here : ℕ) → place ≤ here → here ≤ place + count
    → ((i : ℕ) → place ≤ i → i < here → steps_at i ≡ [])
    → each_from steps_at place count ≡ each_from steps_at here (place + count - here)
skip_steps steps_at place zero here after within none = search rules
skip_steps steps_at place (suc count) here after within none = elim (cases_lt place here) [
  | inl before ↦
      let more : place + 1 + count ≡ place + suc count = omega arith in
      rw (none place (omega arith) before, ← more) (skip_steps steps_at (place + 1) count here (omega (arith, before))
      (omega arith) (λ i a l. none i (omega (arith, a)) l))
  | inr from ↦
      let is : here ≡ place = omega arith in
      let left : place + suc count - place ≡ suc count = omega arith in
      rw (is, left) refl
]

skip_to : (steps_at : ℕ → List (List Command)) (place end here : ℕ) → place ≤ here → here ≤ end
    → ((i : ℕ) → place ≤ i → i < here → steps_at i ≡ [])
    → each_from steps_at place (end - place) ≡ each_from steps_at here (end - here)
skip_to steps_at place end here after within none =
    let all : place + (end - place) ≡ end = omega arith in search (rules, skip_steps)

-- an address inside a page doesn't begin one
inside_page : (page number addr : ℕ) → 0 < page → number * page < addr → addr < number * page + page → addr % page ≡ 0
    → ⊥
inside_page page number addr some from before first = grind (arith, common_steps)

pub next_run : (part : Part) (image : List (Option ℕ)) (next start end : ℕ) → 0 < part.eeprom_page
    → length image ≤ part.eeprom_size → (next % part.eeprom_page ≡ 0) ⊎ (byte_at image next ≡ None)
    → IsNextHeld image next start → IsByteRun image start (page_end part.eeprom_page start) end
    → end ≡ run_end image start (page_end part.eeprom_page start) → IsNextRun part image next start end
next_run part image next start end some fits border held run is =
    let here : part.eeprom_page * (start / part.eeprom_page) + start % part.eeprom_page ≡ start = omega arith in
    let top : page_end part.eeprom_page start ≡ start / part.eeprom_page * part.eeprom_page + part.eeprom_page =
    omega (arith, here) in
    let longer : start < end = search rules in
    let last : end - 1 < length image = held_within image (end - 1)
    (run.held (end - 1) (omega (arith, longer)) (omega (arith, longer))) in
    let within : end ≤ part.eeprom_size = omega (arith, last, fits, longer) in
    record {
      longer = omega (arith, longer, held.after);
      within = within;
      steps = skip_to (run_steps_at part image) next part.eeprom_size start held.after
          (omega (arith, held.within, fits)) (λ i a l. no_run part image i (rw (held.gap i a l) refl))
          ∙ next_place (run_steps_at part image) start part.eeprom_size (omega (arith, held.within, fits))
          ∙ ap (λ (ss : List (List Command)). ss ++ each_from (run_steps_at part image) (start + 1)
          (part.eeprom_size - (start + 1))) (one_run part image start
          (search rules))
          ∙ ap (λ (ss : List (List Command)). run_step part image start ∷ ss)
          (grind (arith, nat_tests, skip_to, inside_page));
      border = elim (cases_lt end (page_end part.eeprom_page start)) [
        | inl before ↦ inr (run.stop before)
        | inr full ↦
            let ends : end ≡ (start / part.eeprom_page + 1) * part.eeprom_page = omega (arith, full, run.bound, top) in
            search (rules, mul-mod_left)
      ];
    }

pub last_run : (part : Part) (image : List (Option ℕ)) (next count : ℕ) → ((k : ℕ) → next ≤ k → byte_at image k ≡ None)
    → each_from (run_steps_at part image) next count ≡ []
last_run part image next count none = search (rules, no_steps)

-- a run ends in its page
pub short_run : (image : List (Option ℕ)) (page addr : ℕ) → 0 < page → page ≤ 256
    → run_end image addr (page_end page addr) - addr ≤ 256
short_run image page addr some most = search (rules, run_is_longest)
