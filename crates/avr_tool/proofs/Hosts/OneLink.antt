-- Calls over one link, in the logic of dialogs.
use Rattle.std.proofs.Common.{ℕ, List, rules}
use Rattle.std.specs.Prelude.{⊤}
use Rattle.stk_emu.specs.DialogOverExchanges.{state_after}
use Rattle.stk_emu.specs.Device.{Device}
use Rattle.stk_emu.specs.Exchange.{Exchange, after_exchange, reading_of_exchange, first_exchange, later_exchanges}
use Rattle.stk_host.proofs.Dialogs.Logic.{World, HoldsFrom, Upholds, NoOutput}
use Rattle.stk_host.specs.Dialog.{Dialog, Done, Emit, Ask}
use Rattle.avr_tool.proofs.Hosts.AnyExchange.{over_any_exchange, Keeps}

-- the programmer, and the exchanges to come
abbrev pub Spot : Type 0 → Type 0
Spot P = P × List Exchange

module _ {P : Type 0} (m : Device P) where
  -- each exchange is the next of the list
  abbrev pub this_link : World (Spot P) ⊤
  this_link = record {
    reads = λ bytes z move. reading_of_exchange (first_exchange z.1) (m.reply bytes z.0);
    after = λ bytes z move. (after_exchange (first_exchange z.1) (m.after bytes z.0) z.0 m.reset, later_exchanges z.1);
  }

  -- what a call upholds over this link
  abbrev pub Runs : {R : Type 0} → (Spot P → Type 0) → (R → Spot P → Type 0) → Dialog ⊥ R → Spot P → Type 0
  Runs During After d z = Upholds this_link (λ bytes y. During y) NoOutput After d z

  -- the programmer and the exchanges after `k` commands
  abbrev pub spot : {E R : Type 0} → ℕ → Dialog E R → Spot P → Spot P
  spot k d z = let s = state_after m k d z.0 z.1 in (s.programmer, s.exchanges)

  -- what a call upholds over any exchanges it upholds over these
  pub on_link : {R : Type 0} {During : P → Type 0} {After : R → P → Type 0} {d : Dialog ⊥ R}
      {z : Spot P} → Keeps m During After d z.0 → Runs (λ y. During y.0) (λ r y. After r y.0) d z
  on_link {R = R} {During = During} {After = After} {d = d} {z = z} l = record { holds = on d z l.holds }
    where
      -- the same, dialog by dialog
      on : (d : Dialog ⊥ R) (z : Spot P) → HoldsFrom (over_any_exchange m) (λ bytes q. During q) NoOutput After d z.0
          → HoldsFrom this_link (λ bytes y. During y.0) NoOutput (λ r y. After r y.0) d z
      on (Done r) z h = h
      on (Emit e d) z h = absurd e
      on (Ask bytes go_on) z h = (h.0, λ move. on (go_on _) (this_link.after bytes z tt) (h.1 (first_exchange z.1)))

  -- a call that upholds two things upholds both at once
  pub upholds_both :
      {R : Type 0} {During : Spot P → Type 0} {After Here : R → Spot P → Type 0} {d : Dialog ⊥ R} {z : Spot P}
      → Runs During After d z → Runs (λ y. ⊤) Here d z → Runs During (λ r y. After r y × Here r y) d z
  upholds_both {R = R} {During = During} {After = After} {Here = Here} {d = d} {z = z} l g = search (rules, on)
    where
      -- The same, dialog by dialog.
      on : (d : Dialog ⊥ R) (z : Spot P) → HoldsFrom this_link (λ bytes y. During y) NoOutput After d z
          → HoldsFrom this_link (λ bytes y. ⊤) NoOutput Here d z
          → HoldsFrom this_link (λ bytes y. During y) NoOutput (λ r y. After r y × Here r y) d z
      on (Done r) z h g = (h, g)
      on (Emit e d) z h g = absurd e
      on (Ask bytes go_on) z h g = (h.0, λ move. on (go_on _) (this_link.after bytes z tt) (h.1 tt) (g.1 tt))
