use Rattle.std.proofs.Common.{◌≡◌, refl, arith, ℕ, suc, ◌+◌, ◌-◌, ◌<◌, List, ◌++◌, Option}
use Rattle.avr_part.specs.Part.{Part}
use Rattle.avrstk_session.specs.Outline.{page_text, pages_text}

-- The lines of the pages from this one on are its own, and then those of the pages after it.
pub next_page : (part : Part) (image : List (Option ℕ)) (page count : ℕ) → page < count
    → pages_text part image page (count - page)
    ≡ page_text part image page ++ pages_text part image (page + 1) (count - (page + 1))
next_page part image page count before = let e : count - page ≡ suc (count - (page + 1)) = omega arith in rw e refl
