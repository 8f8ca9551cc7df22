-- Bytes that were compared or laid over a memory.
use Rattle.std.proofs.Common.{◌≡◌, ℕ, ◌<◌, List, [], ◌∷◌, refl, ◌∙◌, true, Some, None, bit_and, rules, Option}
use Rattle.std.proofs.Math.Nat.{mod-eq_of_lt}
use Rattle.std.proofs.lemmas.Grind.{and_numeral}
use Rattle.std.proofs.lemmas.Nat.{and_comm}
use Rattle.std.specs.Str.{bytes_eq}
use Rattle.stk_host.specs.Operations.{Difference, differs}
use Rattle.stk_emu.specs.Effect.{Image, with_image}
use Rattle.stk_emu.specs.StepData.{HoldsImage}
use Rattle.stk_emu.proofs.Memories.LaidImages.{get_laid, length-laid}
use Rattle.avr_part.specs.declared.part.Mem.{Mem}
use Rattle.avr_session.specs.Standing.{NoFault}
use Rattle.avr_session.specs.Session.{standing}
use Rattle.avr_tool.proofs.Plans.Standings.{faulty_fine}

-- an image that was laid over a memory is held
pub laid_holds : (image : Image) (bytes : List ℕ) → HoldsImage image (with_image image bytes)
laid_holds image bytes i b held inside = search (rules, get_laid, length-laid)

pub and_from_blank : (b : ℕ) → b < 256 → bit_and 255 b ≡ b
and_from_blank b small = and_comm 255 b ∙ (and_numeral b 254 refl ∙ mod-eq_of_lt small)

pub bytes_same : (xs : List ℕ) → bytes_eq xs xs ≡ true
bytes_same [] = refl
bytes_same (x ∷ xs) = search rules

pub no_difference_if_fine : (mem : Mem) (d : Option Difference) → standing (differs mem d) ≡ NoFault → d ≡ None
no_difference_if_fine mem None f = refl
no_difference_if_fine mem (Some d) f = faulty_fine f
