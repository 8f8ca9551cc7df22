-- Dialogs along a link: attempts and steps.
use Rattle.std.proofs.Common.{◌≡◌, ℕ, suc, List, refl, ◌⊎◌, Ok}
use Rattle.stk_frame.specs.declared.command.Command.{Command}
use Rattle.stk_host.specs.Dialog.{Dialog, Done, Emit, Ask, ◌>>=◌}
use Rattle.stk_host.specs.Steps.{StepOutcome, step}
use Rattle.stk_emu.specs.Exchange.{Exchange, later_exchanges}
use Rattle.stk_emu.specs.Device.{Device}
use Rattle.stk_emu.specs.DialogOverExchanges.{StateAfter, state_after}
use Rattle.stk_emu.proofs.Repeatable.{IsRepeatable}
use Rattle.avr_tool.proofs.Hosts.AnyExchange.{step_along}

-- the next dialog, from where this one is
abbrev pub along_next_dialog : {E A B P : Type 0} → Device P → (A → Dialog E B) → ℕ → List Exchange → P → Dialog E A
    → StateAfter E B P
along_next_dialog m next left exchanges p (Done a) = state_after m left (next a) p exchanges
along_next_dialog m next left exchanges p dialog =
    record { dialog = dialog >>= next; programmer = p; exchanges = exchanges; left = left }

-- where two dialogs are, from where the first one is
abbrev pub onwards : {E A B P : Type 0} → Device P → (A → Dialog E B) → StateAfter E A P → StateAfter E B P
onwards m next s = along_next_dialog m next s.left s.exchanges s.programmer s.dialog

-- a dialog and the next one go along as the first does, and then the second from there
pub along_bind : {E A B P : Type 0} (m : Device P) (k : ℕ) (d : Dialog E A) (next : A → Dialog E B) (p : P)
    (exchanges : List Exchange) → state_after m k (d >>= next) p exchanges
    ≡ onwards m next (state_after m k d p exchanges)
along_bind m k (Emit e d) next p exchanges = along_bind m k d next p exchanges
along_bind m (suc k) (Ask bytes go_on) next p exchanges = along_bind m k (go_on _) next _ (later_exchanges exchanges)
along_bind m k d next p exchanges = refl

-- After a step either condition holds; if it was completed, the second.
pub record Stepped {P : Type 0} (m : Device P) (Before After : P → Type 0) (s : StateAfter ⊥ StepOutcome P) : Type
    0 where
  pub stands : Before s.programmer ⊎ After s.programmer
  pub whole : (bytes : List ℕ) → s.dialog ≡ Done (Ok bytes) → After s.programmer

-- a step along a link meets `Stepped`
pub step_stands : {P : Type 0} (m : Device P) (Before After : P → Type 0) (k : ℕ) (commands : List Command) (p : P)
    (exchanges : List Exchange) → IsRepeatable m commands Before After → Before p
    → Stepped m Before After (state_after m k (step commands) p exchanges)
step_stands m Before After k commands p exchanges fits before =
    let l = step_along m commands Before After fits p exchanges before in
    record { stands = l.during k; whole = λ bytes e. (l.after k (Ok bytes) e).0 }
