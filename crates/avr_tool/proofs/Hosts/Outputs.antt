-- Dialogs over one link, by their output: what holds at each command, and when they are done.
use Rattle.std.proofs.Common.{◌≡◌, ℕ, zero, suc, List, [], ◌∷◌, ◌++◌, sym, subst, Result, rules}
use Rattle.std.proofs.lemmas.List.{append-nil}
use Rattle.std.specs.Prelude.{⊤}
use Rattle.avr_io.specs.OutputEvents.{OutputEvent}
use Rattle.avr_session.specs.Session.{emits, standing, reported}
use Rattle.avr_session.specs.Standing.{Standing}
use Rattle.stk_emu.specs.DialogOverExchanges.{state_after, outputs_after}
use Rattle.stk_emu.specs.Device.{Device}
use Rattle.stk_host.proofs.Dialogs.Logic.{HoldsFrom, NoOutput}
use Rattle.stk_host.specs.Dialog.{Dialog, Done, Emit, Ask, ◌>>=◌}
use Rattle.stk_host.specs.declared.fault.HostFault.{HostFault}
use Rattle.avr_tool.proofs.Hosts.AnyExchange.{asks≢done, done_is}
use Rattle.avr_tool.proofs.Hosts.OneLink.{Spot, this_link, Runs, spot}
use Rattle.stk_host.proofs.Dialogs.Bound.{bind_done}

module _ {P : Type 0} where
  -- each of these output events is true of a programmer
  abbrev pub AllTrue : (OutputEvent → P → Type 0) → List OutputEvent → P → Type 0
  AllTrue True [] q = ⊤
  AllTrue True (event ∷ outputs) q = True event q × AllTrue True outputs q

  -- the property that any output has
  abbrev pub Anything : OutputEvent → P → Type 0
  Anything event q = ⊤

  -- all output events have it
  pub any_outputs : (outputs : List OutputEvent) (q : P) → AllTrue Anything outputs q
  any_outputs [] q = tt
  any_outputs (event ∷ outputs) q = (tt, any_outputs outputs q)

-- a condition on the output so far, and one on a result too
abbrev pub Moment : Type 0 → Type 1
Moment P = List OutputEvent → Spot P → Type 0

-- a condition on a result, the output and the programmer at the end
abbrev pub End : Type 0 → Type 0 → Type 1
End P R = R → List OutputEvent → Spot P → Type 0

module _ {P : Type 0} (m : Device P) where
  -- both, after `k` commands along the link
  pub record Printed {R : Type 0} (Now : Moment P) (After : End P R) (k : ℕ) (d : Dialog OutputEvent R)
      (z : Spot P) : Type 0 where
    pub now : Now (outputs_after m k d z.0 z.1) (spot m k d z)
    pub after : (r : R) → (state_after m k d z.0 z.1).dialog ≡ Done r
        → After r (outputs_after m k d z.0 z.1) (spot m k d z)

  module _ (True : OutputEvent → P → Type 0) where
    -- Each output event is true when it is printed. The first condition holds at each command, the second at the end.
    abbrev pub PrintsFrom : {R : Type 0} → Moment P → End P R → Dialog OutputEvent R → Spot P → Type 0
    PrintsFrom Now After (Done r) z = After r [] z
    PrintsFrom Now After (Emit event d) z =
        True event z.0 × PrintsFrom (λ x. Now (event ∷ x)) (λ r x. After r (event ∷ x)) d z
    PrintsFrom Now After (Ask bytes go_on) z =
        Now [] z × PrintsFrom Now After (go_on ((this_link m).reads bytes z tt)) ((this_link m).after bytes z tt)

    pub record Prints {R : Type 0} (Now : Moment P) (After : End P R) (d : Dialog OutputEvent R) (z : Spot P) : Type 0
      where
        pub holds : PrintsFrom Now After d z

    -- a dialog that is done prints nothing more
    pub stops : {R : Type 0} {Now : Moment P} (After : End P R) (r : R) (emitted : List OutputEvent) (z : Spot P)
        → After r emitted z → Prints Now (λ b x. After b (emitted ++ x)) (Done r) z
    stops After r emitted z a = record { holds = subst (λ x. After r x z) (sym (append-nil emitted)) a }

    -- A dialog of true output events and a result prints them.
    on_outputs : {R : Type 0} (Now : Moment P) (After : End P R) (outputs : List OutputEvent) (r : R) (z : Spot P)
        → AllTrue True outputs z.0 → After r outputs z → PrintsFrom Now After (emits outputs (Done r)) z
    on_outputs Now After [] r z all a = a
    on_outputs Now After (event ∷ outputs) r z all a =
        (all.0, on_outputs (λ x. Now (event ∷ x)) (λ r x. After r (event ∷ x)) outputs r z all.1 a)

    -- An operation prints the output about its result.
    pub prints_reported : {A : Type 0} {During : Spot P → Type 0} {After : Result A HostFault → Spot P → Type 0}
        {Now : Moment P} {Then : End P Standing} {d : Dialog ⊥ (Result A HostFault)} {z : Spot P}
        (outcome_output : Result A HostFault → List OutputEvent) → Runs m During After d z
        → ((y : Spot P) → During y → Now [] y) → ((r : Result A HostFault) (y : Spot P) → After r y
        → AllTrue True (outcome_output r) y.0 × Then (standing r) (outcome_output r) y)
        → Prints Now Then (reported d outcome_output) z
    prints_reported {A = A} {During = During} {After = After} {Now = Now} {Then = Then} {d = d} {z = z} outcome_output l
        f
        each = record { holds = on d z l.holds }
      where
        -- the same, dialog by dialog
        on : (d : Dialog ⊥ (Result A HostFault)) (z : Spot P)
            → HoldsFrom (this_link m) (λ bytes y. During y) NoOutput After d z
            → PrintsFrom Now Then (reported d outcome_output) z
        on (Done r) z h = let x = each r z h in on_outputs Now Then (outcome_output r) (standing r) z x.0 x.1
        on (Emit e d) z h = absurd e
        on (Ask bytes go_on) z h = (f z h.0, on (go_on _) ((this_link m).after bytes z tt) (h.1 tt))

    -- Two dialogs in sequence print one after the other; this goes by cases of the first.
    on_bind : {A B : Type 0} (Now Now' : Moment P) (Between : End P A) (After : End P B) (next : A
        → Dialog OutputEvent B)
        → ((emitted : List OutputEvent) (y : Spot P) → Now emitted y → Now' emitted y)
        → ((a : A) (emitted : List OutputEvent) (y : Spot P) → Between a emitted y
        → Prints (λ x. Now' (emitted ++ x)) (λ b x. After b (emitted ++ x)) (next a) y)
        → (d : Dialog OutputEvent A) (z : Spot P) → PrintsFrom Now Between d z → PrintsFrom Now' After (d >>= next) z
    on_bind Now Now' Between After next f more (Done a) z h = (more a [] z h).holds
    on_bind Now Now' Between After next f more (Emit event d) z h =
        let rest = on_bind (λ x. Now (event ∷ x)) (λ x. Now' (event ∷ x)) (λ a x. Between a (event ∷ x))
        (λ b x. After b (event ∷ x)) next (λ x. f (event ∷ x)) (λ a x. more a (event ∷ x)) d z h.1 in (h.0, rest)
    on_bind Now Now' Between After next f more (Ask bytes go_on) z h =
        (f [] z h.0, on_bind Now Now' Between After next f more (go_on _) ((this_link m).after bytes z tt) h.1)

    -- Two dialogs in sequence print one after the other.
    pub prints_then : {A B : Type 0} {Now Now' : Moment P} {Between : End P A} {After : End P B}
        {next : A → Dialog OutputEvent B} {d : Dialog OutputEvent A} {z : Spot P}
        → ((emitted : List OutputEvent) (y : Spot P) → Now emitted y → Now' emitted y) → Prints Now Between d z
        → ((a : A) (emitted : List OutputEvent) (y : Spot P) → Between a emitted y
        → Prints (λ x. Now' (emitted ++ x)) (λ b x. After b (emitted ++ x)) (next a) y)
        → Prints Now' After (d >>= next) z
    prints_then {d = d} f l more = record { holds = on_bind _ _ _ _ _ f more d _ l.holds }

    -- What prints under some conditions prints under weaker ones.
    pub prints_wider : {R : Type 0} {Now Now' : Moment P} {After After' : End P R} {d : Dialog OutputEvent R}
        {z : Spot P}
        → ((emitted : List OutputEvent) (y : Spot P) → Now emitted y → Now' emitted y)
        → ((r : R) (emitted : List OutputEvent) (y : Spot P) → After r emitted y → After' r emitted y)
        → Prints Now After d z → Prints Now' After' d z
    prints_wider {Now' = Now'} {After' = After'} {d = d} {z = z} f g l =
        subst (λ d. Prints Now' After' d z) (bind_done d)
        (prints_then f l (λ r emitted y a. stops After' r emitted y (g r emitted y a)))

    -- what a dialog prints holds after `k` commands, dialog by dialog
    on_moment : {R : Type 0} (Now : Moment P) (After : End P R)
        → ((r : R) (emitted : List OutputEvent) (y : Spot P) → After r emitted y → Now emitted y)
        → (k : ℕ) (d : Dialog OutputEvent R) (z : Spot P) → PrintsFrom Now After d z → Printed Now After k d z
    on_moment Now After last k (Done a) z h = search (rules, done_is)
    on_moment Now After last k (Emit event d) z h =
        let more = on_moment (λ x. Now (event ∷ x)) (λ r x. After r (event ∷ x)) (λ r x. last r (event ∷ x)) k d z h.1
        in record { now = more.now; after = more.after }
    on_moment Now After last zero (Ask bytes go_on) z h = search (rules, asks≢done)
    on_moment Now After last (suc k) (Ask bytes go_on) z h =
        search (rules, on_moment Now After last k (go_on _) ((this_link m).after bytes z tt) h.1)

    -- the same, for a dialog that `Prints`
    pub at_moment : {R : Type 0} {Now : Moment P} {After : End P R} {d : Dialog OutputEvent R} {z : Spot P}
        → ((r : R) (emitted : List OutputEvent) (y : Spot P) → After r emitted y → Now emitted y) → (k : ℕ)
        → Prints Now After d z → Printed Now After k d z
    at_moment {Now = Now} {After = After} {d = d} {z = z} last k l = on_moment Now After last k d z l.holds
