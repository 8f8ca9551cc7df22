-- Over good exchanges each step gives its data, in its first attempt.
use Rattle.std.proofs.Common.{◌≡◌, ℕ, zero, suc, List, [], ◌∷◌, ◌∙◌, inl, ◌⊎◌, Ok, rules}
use Rattle.std.specs.Prelude.{⊤}
use Rattle.stk_frame.specs.declared.command.Command.{Command}
use Rattle.stk_host.specs.declared.fault.StepFault.TheVariants.{NoAnswer}
use Rattle.stk_host.specs.Dialog.{Dialog, Done, Emit, Ask}
use Rattle.stk_host.specs.Steps.{Reply, Data, StepOutcome, with_data, exchange, attempt, step}
use Rattle.stk_host.proofs.Dialogs.Logic.{HoldsFrom, NoOutput, OnReply, done, ask, wider, attempts}
use Rattle.stk_emu.specs.Exchange.{Exchange, Execution, ThenRestarted, OtherReading, Ending, AsIntended, Disturbed, ThenRestarts, later_exchanges}
use Rattle.stk_emu.specs.Programmer.{Programmer}
use Rattle.stk_emu.specs.Device.{device}
use Rattle.stk_emu.proofs.Repeatable.{on_data, joined_reply, IsRepeatable}
use Rattle.avr_tool.specs.OverFaultyLink.{AllArriveRight}
use Rattle.avr_tool.proofs.Hosts.AnyExchange.{AfterStep, try_goes}
use Rattle.avr_tool.proofs.Hosts.OneLink.{Spot, this_link, Runs, on_link, upholds_both}
use Rattle.stk_emu.proofs.Replies.Commands.{steady}
use Rattle.avr_tool.proofs.WriteOperations.OutsideMode.{joined_steady}
use Rattle.avr_tool.proofs.Sure.Exchanges.{IsSure}

-- ---- links that don't end, and over which the programmer never restarts

-- The programmer doesn't restart.
abbrev Stands : Execution → Type 0
Stands (ThenRestarted execution) = ⊥
Stands execution = Unit {0}

-- The link doesn't end.
abbrev GoesOn : OtherReading → Type 0
GoesOn Ending = ⊥
GoesOn instead = Unit {0}

-- Neither happens at this exchange.
abbrev pub IsSteady : Exchange → Type 0
IsSteady AsIntended = Unit {0}
IsSteady (Disturbed execution instead) = Stands execution × GoesOn instead
IsSteady (ThenRestarts one_exchange) = ⊥

-- Neither happens at any of these.
abbrev pub AreSteady : List Exchange → Type 0
AreSteady [] = Unit {0}
AreSteady (one_exchange ∷ exchanges) = IsSteady one_exchange × AreSteady exchanges

-- If neither happens at these exchanges, neither happens at the later ones.
others_steady : (exchanges : List Exchange) → AreSteady exchanges → AreSteady (later_exchanges exchanges)
others_steady exchanges s = search rules

-- over such exchanges no device restarts
pub upholds_if_steady : {R : Type 0} (After : R → Spot Programmer → Type 0) (d : Dialog ⊥ R) (z : Spot Programmer)
    → AreSteady z.1 → HoldsFrom (this_link steady) (λ bytes y. ⊤) NoOutput After d z
    → HoldsFrom (this_link device) (λ bytes y. ⊤) NoOutput After d z
upholds_if_steady After (Done r) z s h = h
upholds_if_steady After (Emit e d) z s h = absurd e
upholds_if_steady After (Ask bytes go_on) z s h =
    search (rules, upholds_if_steady After (go_on _) _ (others_steady z.1 s) (h.1 tt))

-- ---- good exchanges

-- The later ones of good exchanges are good.
others_good : (exchanges : List Exchange) → AllArriveRight exchanges → AllArriveRight (later_exchanges exchanges)
others_good exchanges good = search rules

-- At good exchanges nothing restarts or ends.
good_steady : (exchanges : List Exchange) → AllArriveRight exchanges → AreSteady exchanges
good_steady [] good = tt
good_steady (one_exchange ∷ exchanges) good = search (rules, good_steady exchanges good.1)

-- Equal replies have equal data.
same_data : (a b : List ℕ) → Data a ≡ Data b → a ≡ b
same_data a b e = cc

-- an attempt whose commands would all have data: the data come
abbrev Has : List ℕ → Dialog ⊥ Reply → Spot Programmer → Type 0
Has got d z = Runs steady (λ y. ⊤) (λ reply y. (reply ≡ Data got) × AllArriveRight y.1) d z

-- If the reply has data, the attempt goes on, and has its data.
replied : (go_on : List ℕ → Dialog ⊥ Reply) (go : List ℕ → Reply) (got : List ℕ) (z : Spot Programmer) (reply : Reply)
    → ((bytes : List ℕ) → go bytes ≡ Data got → Has got (go_on bytes) z)
    → on_data reply go ≡ Data got → Has got (with_data go_on reply) z
replied go_on go got z reply each has = search rules

-- Such an attempt has its data.
attempt_has : (commands : List Command) (before : List ℕ) (z : Spot Programmer) (got : List ℕ) → AllArriveRight z.1
    → joined_reply steady commands before z.0 ≡ Data got → Has got (attempt commands before) z
unfolding attempt exchange
attempt_has [] before z got good has = done (has, good)
attempt_has (command ∷ commands) before z got good has =
    search (rules, ask, replied, joined_reply, steady, others_good, attempt_has commands)

module _ (Before After : Programmer → Type 0) (commands : List Command) (got : List ℕ)
    (fits : IsRepeatable steady commands Before After)
    (has : (q : Programmer) → Before q ⊎ After q → joined_reply device commands [] q ≡ Data got) where
  -- After a step: its data, and good exchanges to come.
  abbrev Whole : StepOutcome → Spot Programmer → Type 0
  Whole o z = ((o ≡ Ok got) × After z.0) × AllArriveRight z.1

  -- with this many attempts left
  abbrev Begins : ℕ → Spot Programmer → Type 0
  Begins zero z = ⊥
  Begins (suc more) z = Before z.0 × AllArriveRight z.1

  -- After one attempt the step has its data.
  after_try : (more : ℕ) (reply : Reply) (y : Spot Programmer)
      → OnReply (λ q. Before q ⊎ After q) (AfterStep steady commands Before After fits) reply y.0
      × ((reply ≡ Data got) × AllArriveRight y.1) → OnReply (Begins more) Whole reply y
  after_try more reply y (stood, (is, good)) = search (rules, same_data)

  -- Each step has its data.
  step_has : (z : Spot Programmer) → Before z.0 → AllArriveRight z.1 → Runs steady (λ y. ⊤) Whole (step commands) z
  step_has z before good =
      attempts (this_link steady) (λ bytes y. ⊤) commands Begins Whole
      (λ more y begins. wider (λ bytes y x. tt) (λ e y x. x) (after_try more)
      (upholds_both steady (on_link steady (try_goes steady commands Before After fits y.0 (inl begins.0)))
      (attempt_has commands [] y got begins.1 (joined_steady commands [] y.0 ∙ has y.0 (inl begins.0)))))
      (λ fault y none. absurd none) 4 NoAnswer z (before, good)

-- Over good exchanges each step brings its data.
pub good_sure : IsSure AllArriveRight
good_sure commands got Before After fits short has z before good = record {
  holds = upholds_if_steady (λ o y. ((o ≡ Ok got) × After y.0) × AllArriveRight y.1) (step commands) z (good_steady z.1 good)
      (step_has Before After commands got fits has z before good).holds;
}
