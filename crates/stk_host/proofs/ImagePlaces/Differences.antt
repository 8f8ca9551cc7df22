-- Comparing from the lowest address up, run by run.
use Rattle.std.proofs.lemmas.Grind.{common_steps}
use Rattle.std.proofs.Common.{◌≡◌, ◌≤◌, refl, arith, ℕ, suc, ◌+◌, ◌-◌, ◌<◌, All, List, [], ◌∷◌, length, get_or, map, take, drop, Bool, true, Option, Some, None, rules}
use Rattle.std.specs.Prelude.{◌==◌, if◌then◌else◌}
use Rattle.std.proofs.lemmas.Bool.Decides.{nat_tests}
use Rattle.std.proofs.lemmas.List.{drop_more}
use Rattle.std.specs.Prelude.{⊤, Result, Ok, Err}
use Rattle.avr_image.specs.Runs.{onto_runs, runs}
use Rattle.avr_image.proofs.Lemmas.{runs_inside}
use Rattle.avr_part.specs.declared.part.Mem.{Mem}
use Rattle.stk_host.specs.declared.fault.HostFault.{HostFault}
use Rattle.stk_host.specs.Operations.{Difference, difference_from, differs}

-- at one address more
abbrev decided : Bool → ℕ → ℕ → ℕ → Option Difference → Option Difference
decided same addr want found later = if same then later else Some (record { addr = addr; want = want; found = found })

-- the bytes of a run, in the form of an image
abbrev pub held_as : List ℕ → List (Option ℕ)
held_as run = map (λ byte. Some byte) run

-- ---- a run

pub run_goes_on : (addr i : ℕ) (run found : List ℕ) → i < length run → i < length found
    → (get_or found i 0 == get_or run i 0) ≡ true → difference_from (addr + i) (held_as (drop i run)) (drop i found)
    ≡ difference_from (addr + (i + 1)) (held_as (drop (i + 1) run)) (drop (i + 1) found)
run_goes_on addr i run found within there same = search (rules, drop_more)

-- a run that the memory holds
pub same_run : (addr : ℕ) (run bytes : List ℕ) → run ≡ take (length run) bytes
    → difference_from addr (held_as run) bytes ≡ None
same_run addr [] bytes same = refl
same_run addr (b ∷ run) [] same = refl
same_run addr (b ∷ run) (found ∷ bytes) same = search (rules, same_run (addr + 1) run bytes)

-- ---- the runs of an image

abbrev pub earlier : Option Difference → Option Difference → Option Difference
earlier None later = later
earlier (Some d) later = Some d

-- the first difference in runs
abbrev pub among : List (ℕ × List ℕ) → List ℕ → Option Difference
among [] bytes = None
among ((addr, run) ∷ more) bytes = earlier (difference_from addr (held_as run) (drop addr bytes)) (among more bytes)

among-onto : (addr b : ℕ) (cut : List (ℕ × List ℕ)) (bytes : List ℕ) → addr < length bytes
    → among (onto_runs addr b cut) bytes ≡ decided (get_or bytes addr 0 == b) addr b (get_or bytes addr 0)
    (among cut bytes)
among-onto addr b cut bytes there = grind (arith, common_steps, nat_tests)

pub among-runs : (addr : ℕ) (image : List (Option ℕ)) (bytes : List ℕ) → addr + length image ≤ length bytes
    → among (runs addr image) bytes ≡ difference_from addr image (drop addr bytes)
among-runs addr [] bytes there = refl
among-runs addr (None ∷ image) bytes there =
    rw (drop_more bytes addr 0 (omega (arith, there))) (among-runs (addr + 1) image bytes (omega (arith, there)))
among-runs addr (Some b ∷ image) bytes there =
    search (rules, among-onto, drop_more, among-runs (addr + 1) image bytes (omega (arith, there)))

-- bytes after the image aren't compared
pub within_image : (addr : ℕ) (image : List (Option ℕ)) (bytes : List ℕ)
    → difference_from addr image (take (length image) bytes) ≡ difference_from addr image bytes
within_image addr [] bytes = refl
within_image addr (byte ∷ image) [] = refl
within_image addr (None ∷ image) (found ∷ bytes) = within_image (addr + 1) image bytes
within_image addr (Some want ∷ image) (found ∷ bytes) = search (rules, within_image (addr + 1) image bytes)

-- ---- a walk over the runs

pub none_differs : (mem : Mem) (d : Option Difference) (r : Result ⊤ HostFault) (x : ⊤) → r ≡ differs mem d → r ≡ Ok x
    → d ≡ None
none_differs mem d r x is ok = search rules

-- each run ends inside a memory of this size
abbrev pub EndBy : ℕ → List (ℕ × List ℕ) → Type 0
EndBy size [] = Unit {0}
EndBy size (run ∷ more) = (run.0 + length run.1 ≤ size) × EndBy size more

all_end : (size : ℕ) (cut : List (ℕ × List ℕ)) → All (λ run. run.0 + length run.1 ≤ size) cut → EndBy size cut
all_end size [] inside = tt
all_end size (run ∷ more) inside =
    (inside 0 run (omega arith), all_end size more (λ k d l. inside (suc k) d (omega (arith, l))))

pub runs_end : (size : ℕ) (image : List (Option ℕ)) → size ≡ length image → EndBy size (runs 0 image)
runs_end size image is = rw is (all_end (length image) (runs 0 image) (runs_inside image))

pub passes_run : (left more : List (ℕ × List ℕ)) (addr : ℕ) (run bytes : List ℕ) → left ≡ (addr, run) ∷ more
    → difference_from addr (held_as run) (drop addr bytes) ≡ None → among left bytes ≡ among more bytes
passes_run left more addr run bytes is none = search rules

pub ends_behind : (size : ℕ) (left more : List (ℕ × List ℕ)) (run : ℕ × List ℕ) → left ≡ run ∷ more → EndBy size left
    → EndBy size more
ends_behind size left more run is ends = let all : EndBy size (run ∷ more) = rw is at ends in all.1

pub error_differs : (mem : Mem) (left more : List (ℕ × List ℕ)) (addr : ℕ) (run bytes : List ℕ) (r : Result ⊤ HostFault)
    (e : HostFault) → left ≡ (addr, run) ∷ more → r ≡ differs mem (difference_from addr (held_as run) (drop addr bytes))
    → r ≡ Err e → r ≡ differs mem (among left bytes)
error_differs mem left more addr run bytes r e left_is is err = search rules

pub whole_is : (image : List (Option ℕ)) (bytes : List ℕ) (size : ℕ) → size ≡ length image → length image ≤ length bytes
    → among (runs 0 image) (take size bytes) ≡ difference_from 0 image bytes
whole_is image bytes size is there = search (rules, among-runs, within_image)
