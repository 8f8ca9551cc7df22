-- The number of write operations made along a dialog of several calls.
use Rattle.std.specs.Prelude.{ℕ, suc, ◌+◌, ◌-◌, ◌≤◌, ◌≡◌, List}
use Rattle.stk_host.specs.Dialog.{Dialog, Done}
use Rattle.stk_emu.specs.Exchange.{Exchange}
use Rattle.stk_emu.specs.Device.{Device}
use Rattle.stk_emu.specs.DialogOverExchanges.{state_after}

-- The number completed after `k` commands, from a programmer and the exchanges to come.
abbrev pub Count : Type 0 → Type 0
Count P = ℕ → P → List Exchange → ℕ

-- The count of a dialog, and that of the next one if the first is done.
abbrev pub with_next : {E A : Type 0} → Dialog E A → ℕ → (A → ℕ) → ℕ
with_next (Done a) so_far more = so_far + more a
with_next dialog so_far more = so_far

-- The count of a dialog and the next one, after `k` commands.
abbrev pub then_count : {E A P : Type 0} → Device P → Dialog E A → Count P → (A → Count P) → Count P
then_count m d first more k p exchanges = let s = state_after m k d p exchanges in
    with_next s.dialog (first k p exchanges) (λ a. more a s.left s.programmer s.exchanges)

-- After `k` commands of a dialog `count k` write operations were made: at least those completed by then. At most one
-- more was made than was completed before the last command, whose reply may not have come.
pub record Tallies {E R P : Type 0} (m : Device P) (d : Dialog E R) (done : Count P) (At : ℕ → P → Type 0)
    (p : P) (exchanges : List Exchange) : Type 0 where
  pub count : ℕ → ℕ
  pub none : count 0 ≡ 0
  pub at_least : (k : ℕ) → done k p exchanges ≤ count k
  pub at_most : (k : ℕ) → count k ≤ suc (done (k - 1) p exchanges)
  pub stands : (k : ℕ) → At (count k) (state_after m k d p exchanges).programmer
