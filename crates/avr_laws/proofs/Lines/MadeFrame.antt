-- A session over a link that forges a frame.
use Rattle.std.proofs.Common.{◌≡◌, ℕ, List, [], refl, arith, Some}
use Rattle.avr_io.specs.OutputEvents.{OutputEvent}
use Rattle.avr_session.specs.Session.{session}
use Rattle.stk_host.specs.Dialog.{Event, played}
use Rattle.stk_host.specs.Operations.{handshake, opening, closing, operation}
use Rattle.stk_host.specs.Steps.{exchange, attempt, attempts_or_fault, play}
use Rattle.stk_host.specs.Tape.{answer}
use Rattle.stk_emu.specs.Programmer.{Programmer}
use Rattle.stk_emu.specs.Exchange.{Exchange}
use Rattle.avr_laws.specs.Worked.{fuse_plan, forged_replies}
use Rattle.avr_laws.specs.AnyLink.{WholeSessionOverExchanges}

-- over these replies the session ends with status 0
pub forged_run_succeeds : (played (session fuse_plan) 1 forged_replies).outcome ≡ Some (0, 8, [])
unfolding session opening handshake operation closing play attempts_or_fault attempt exchange answer
forged_run_succeeds = refl

-- its promise can't hold for a chip with another fuse
pub promise_void : (p q : Programmer) (exchanges : List Exchange) (bytes : List ℕ) (events : List (Event OutputEvent))
    → (p.chip.lfuse ≡ 0xE2 → ⊥) → WholeSessionOverExchanges fuse_plan p q exchanges bytes events 0 → ⊥
promise_void p q exchanges bytes events other over =
    other ((over.1.comes.done refl).agrees.1.0 0 0xE2 refl (omega arith))
