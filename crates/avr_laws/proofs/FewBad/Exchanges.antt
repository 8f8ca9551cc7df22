-- Over few bad exchanges each step gives its data.
use Rattle.std.proofs.Common.{◌≡◌, ℕ, zero, suc, ◌+◌, ◌≤◌, List, [], ◌∷◌, ◌++◌, length, refl, ◌∙◌, subst, arith, inl, inr, ◌⊎◌, Ok, rules}
use Rattle.std.specs.Prelude.{⊤}
use Rattle.stk_frame.specs.declared.command.Command.{Command}
use Rattle.stk_frame.specs.Commands.{body}
use Rattle.stk_host.specs.declared.fault.StepFault.{StepFault}
use Rattle.stk_host.specs.declared.fault.StepFault.TheVariants.{NoAnswer}
use Rattle.stk_host.specs.Dialog.{Dialog, Done, Emit, Ask}
use Rattle.stk_host.specs.Bound.{AsksAtMost}
use Rattle.stk_host.specs.Steps.{Reply, Data, Again, StepOutcome, reply_from_reading, with_data, exchange, attempt, step}
use Rattle.stk_host.proofs.Dialogs.Logic.{OnReply, done, ask, wider, attempts}
use Rattle.stk_emu.specs.Exchange.{Exchange, after_exchange, reading_of_exchange, first_exchange, later_exchanges}
use Rattle.stk_emu.specs.Programmer.{Programmer}
use Rattle.stk_emu.specs.Device.{device}
use Rattle.stk_emu.specs.DialogOverExchanges.{state_after}
use Rattle.avr_laws.specs.FewBadFrames.{badness, badness_of_first, AtMostThreeBadOfSeven}
use Rattle.stk_emu.proofs.Repeatable.{on_data, reply_to, joined_reply, IsRepeatable}
use Rattle.avr_tool.proofs.Hosts.AnyExchange.{AfterStep, try_goes}
use Rattle.avr_tool.proofs.Hosts.OneLink.{Spot, this_link, Runs, on_link, upholds_both}
use Rattle.stk_emu.proofs.Replies.Commands.{steady}
use Rattle.avr_tool.proofs.WriteOperations.OutsideMode.{joined_steady}
use Rattle.avr_tool.proofs.Sure.Good.{AreSteady, IsSteady, upholds_if_steady}
use Rattle.avr_laws.proofs.Lines.Ends.{first_steady}
use Rattle.avr_tool.proofs.Sure.Exchanges.{IsSure}

-- ---- counting

-- among more exchanges as many are bad, or more
pub more_bad : (n m : ℕ) (exchanges : List Exchange) → n ≤ m → badness_of_first n exchanges ≤ badness_of_first m
    exchanges
more_bad zero m exchanges le = omega arith
more_bad (suc n) zero exchanges le = absurd (omega (arith, le))
more_bad (suc n) (suc m) exchanges le = search (rules, more_bad n m (later_exchanges exchanges) (omega (arith, le)))

-- of the exchanges after the first, too, at most three of seven are bad
pub others_few : (exchanges : List Exchange) → AtMostThreeBadOfSeven exchanges
    → AtMostThreeBadOfSeven (later_exchanges exchanges)
others_few exchanges few = search rules

in_seven : (exchanges : List Exchange) → AtMostThreeBadOfSeven exchanges → badness_of_first 7 exchanges ≤ 3
in_seven exchanges few = search rules

module _ {E R : Type 0} where
  -- a dialog that asks at most `n` commands is done after `n`
  pub done_within : (n k : ℕ) (d : Dialog E R) (p : Programmer) (exchanges : List Exchange) → AsksAtMost n d → n ≤ k
      → (r : R) × ((state_after device k d p exchanges).dialog ≡ Done r)
  done_within n k (Done r) p exchanges asks le = (r, refl)
  done_within n k (Emit e d) p exchanges asks le = done_within n k d p exchanges asks le
  done_within zero k (Ask bytes go_on) p exchanges asks le = absurd asks
  done_within (suc n) zero (Ask bytes go_on) p exchanges asks le = absurd (omega (arith, le))
  done_within (suc n) (suc k) (Ask bytes go_on) p exchanges asks le =
      done_within n k (go_on _) _ (later_exchanges exchanges) (asks _) (omega (arith, le))

-- the exchanges after the first `n`
abbrev past : ℕ → List Exchange → List Exchange
past zero exchanges = exchanges
past (suc n) exchanges = past n (later_exchanges exchanges)

-- An attempt that brought no data: it ended with the frame at this place, which went wrong.
record Spent (size : ℕ) (exchanges : List Exchange) (then : Reply) (rest : List Exchange) : Type 0 where
  fault : StepFault
  again : then ≡ Again fault
  place : ℕ
  near : suc place ≤ size
  went_wrong : 1 ≤ badness (first_exchange (past place exchanges))
  behind_it : rest ≡ later_exchanges (past place exchanges)

-- the attempt brought its data, or a frame of it went wrong
abbrev Tried : ℕ → List Exchange → List ℕ → Reply → List Exchange → Type 0
Tried size exchanges got then rest = (then ≡ Data got) ⊎ Spent size exchanges then rest

again_not : (fault : StepFault) (got : List ℕ) → Again fault ≡ Data got → ⊥
again_not fault got e = cc

same_data : (a b : List ℕ) → Data a ≡ Data b → a ≡ b
same_data a b e = cc

-- the first frame went well
after_good_frame : (size : ℕ) (exchanges : List Exchange) (got : List ℕ) (then : Reply) (rest : List Exchange)
    → Tried size (later_exchanges exchanges) got then rest → Tried (suc size) exchanges got then rest
after_good_frame size exchanges got then rest (inl brings) = inl brings
after_good_frame size exchanges got then rest (inr s) = inr (record {
  fault = s.fault;
  again = s.again;
  place = suc s.place;
  near = (let n = s.near in omega (arith, n));
  went_wrong = s.went_wrong;
  behind_it = s.behind_it;
})

-- the frame that went wrong
at_bad_frame : (size : ℕ) (exchanges : List Exchange) (got : List ℕ) (fault : StepFault)
    → 1 ≤ badness (first_exchange exchanges) → Tried (suc size) exchanges got (Again fault) (later_exchanges exchanges)
at_bad_frame size exchanges got fault is = search rules

-- Enough frames go well for one attempt and `more` others: at most one frame goes well between two that go wrong.
record Clear (more : ℕ) (exchanges : List Exchange) : Type 0 where
  here : badness_of_first (suc (more + more)) exchanges ≤ more
  next : badness_of_first (suc (more + more)) (later_exchanges exchanges) ≤ more

-- after a bad exchange enough go well for one attempt fewer
next_clear : (more : ℕ) (exchanges : List Exchange) → 1 ≤ badness (first_exchange exchanges)
    → badness_of_first (suc (suc more + suc more)) exchanges ≤ suc more → Clear more (later_exchanges exchanges)
next_clear more exchanges is le =
    let rest = later_exchanges exchanges in
    let e : suc more + suc more ≡ suc (suc (more + more)) = omega arith in
    let few : badness_of_first (suc more + suc more) rest ≤ more = omega (arith, is, le) in
    let few_later : badness_of_first (suc (suc (more + more))) rest ≤ more =
    subst (λ n. badness_of_first n rest ≤ more) e few in
    let less = more_bad (suc (more + more)) (suc (suc (more + more))) rest (omega arith) in search rules

-- so it is after an attempt of at most two frames
clear_behind : (place more : ℕ) (exchanges rest : List Exchange) → suc place ≤ 2 → rest
    ≡ later_exchanges (past place exchanges) → 1 ≤ badness (first_exchange (past place exchanges))
    → Clear (suc more) exchanges → Clear more rest
clear_behind zero more exchanges rest le is went_bad c = search (rules, next_clear, went_bad)
clear_behind (suc zero) more exchanges rest le is went_bad c = search (rules, next_clear)
clear_behind (suc (suc place)) more exchanges rest le is went_bad c = absurd (omega (arith, le))

-- ---- such exchanges are steady

-- an exchange that counts as at most three bad ones doesn't restart the programmer
not_four : (one_exchange : Exchange) → badness one_exchange ≤ 3 → IsSteady one_exchange
not_four one_exchange le = search rules

-- if few exchanges go wrong, none restarts the programmer
few_steady : (exchanges : List Exchange) → AtMostThreeBadOfSeven exchanges → AreSteady exchanges
few_steady [] few = tt
few_steady (one_exchange ∷ exchanges) few =
    (not_four one_exchange (let le = few.0 in omega (arith, le)), few_steady exchanges few.1)

-- ---- attempts and steps of a programmer that never restarts

-- whenever the dialog ends with a reply, an attempt of `size` frames was tried
abbrev Tries : ℕ → List Exchange → List ℕ → Dialog ⊥ Reply → Spot Programmer → Type 0
Tries size exchanges got d z = Runs steady (λ y. ⊤) (λ reply y. Tried size exchanges got reply y.1
    × AtMostThreeBadOfSeven y.1) d z

module _ (go_on : List ℕ → Dialog ⊥ Reply) (go : List ℕ → Reply) (size : ℕ) (exchanges : List Exchange) (got : List ℕ)
    (few : AtMostThreeBadOfSeven (later_exchanges exchanges)) where
  -- by the reply to a command that was executed
  replied : (q : Programmer) (reply : Reply) → ((bytes : List ℕ) → go bytes ≡ Data got
      → Tries size (later_exchanges exchanges) got (go_on bytes) (q, later_exchanges exchanges))
      → on_data reply go ≡ Data got → Tries (suc size) exchanges got (with_data go_on reply) (
        q,
        later_exchanges exchanges,
      )
  replied q (Data bytes) each has = wider (λ b y x. x) (λ e y x. x)
      (λ reply y x. (after_good_frame size exchanges got reply y.1 x.0, x.1)) (each bytes has)
  replied q reply each has = search rules

  -- by the first exchange
  by_exchange : (one_exchange : Exchange) (command : Command) (p : Programmer) → badness (first_exchange exchanges)
      ≡ badness one_exchange → IsSteady one_exchange → ((bytes : List ℕ) → go bytes ≡ Data got
      → Tries size (later_exchanges exchanges) got (go_on bytes) (
        steady.after (body command) p,
        later_exchanges exchanges,
      )) → on_data (reply_to steady command p) go ≡ Data got → Tries (suc size) exchanges got
      (with_data go_on (reply_from_reading command (reading_of_exchange one_exchange (steady.reply (body command) p))))
      (after_exchange one_exchange (steady.after (body command) p) p steady.reset, later_exchanges exchanges)
  by_exchange one_exchange command p is calm each has = search (rules, replied)

-- an attempt whose commands would all have data: the data come, or a frame went wrong
attempt_tried : (commands : List Command) (before : List ℕ) (z : Spot Programmer) (got : List ℕ)
    → AtMostThreeBadOfSeven z.1
    → joined_reply steady commands before z.0 ≡ Data got → Tries (length commands) z.1 got (attempt commands before) z
unfolding attempt exchange
attempt_tried [] before z got few has = done (inl has, few)
attempt_tried (command ∷ commands) before z got few has =
    let left = others_few z.1 few in
    let q = steady.after (body command) z.0 in
    ask tt (λ move. by_exchange (λ bytes. attempt commands (before ++ bytes))
    (λ bytes. joined_reply steady commands (before ++ bytes) q) (length commands) z.1 got left (first_exchange z.1)
    command z.0 refl (first_steady z.1 (few_steady z.1 few))
    (λ bytes f. attempt_tried commands (before ++ bytes) (q, later_exchanges z.1) got left f) has)

-- a step of at most two commands, which have these data under either condition
module _ (Before After : Programmer → Type 0) (commands : List Command) (got : List ℕ)
    (fits : IsRepeatable steady commands Before After) (short : length commands ≤ 2)
    (has : (q : Programmer) → Before q ⊎ After q → joined_reply device commands [] q ≡ Data got) where
  abbrev Whole : StepOutcome → Spot Programmer → Type 0
  Whole o z = ((o ≡ Ok got) × After z.0) × AtMostThreeBadOfSeven z.1

  -- with this many attempts left
  abbrev Begins : ℕ → Spot Programmer → Type 0
  Begins zero z = ⊥
  Begins (suc more) z = (Before z.0 ⊎ After z.0) × (AtMostThreeBadOfSeven z.1 × Clear more z.1)

  again : (more : ℕ) (place : ℕ) (exchanges : List Exchange) (y : Spot Programmer) → suc place ≤ length commands
      → 1 ≤ badness (first_exchange (past place exchanges)) → y.1 ≡ later_exchanges (past place exchanges)
      → Clear more exchanges → Before y.0 ⊎ After y.0 → AtMostThreeBadOfSeven y.1 → Begins more y
  again more place exchanges y near went_bad is clear stood few = search (rules, clear_behind)

  -- after an attempt the step is done, or enough exchanges go well for the others
  after_try : (more : ℕ) (exchanges : List Exchange) → Clear more exchanges → (reply : Reply) (y : Spot Programmer)
      → OnReply (λ q. Before q ⊎ After q) (AfterStep steady commands Before After fits) reply y.0
      × (Tried (length commands) exchanges got reply y.1 × AtMostThreeBadOfSeven y.1)
      → OnReply (Begins more) Whole reply y
  after_try more exchanges clear reply y f' = search (rules, same_data, again_not, again)

  -- the step gives its data within four attempts
  step_steady : (z : Spot Programmer) → Before z.0 → AtMostThreeBadOfSeven z.1
      → Runs steady (λ y. ⊤) Whole (step commands) z
  step_steady z before few = attempts (this_link steady) (λ bytes y. ⊤) commands Begins Whole
      (λ more y begins. wider (λ bytes y x. tt) (λ e y x. x) (after_try more y.1 begins.1.1)
      (upholds_both steady (on_link steady (try_goes steady commands Before After fits y.0 begins.0))
      (attempt_tried commands [] y got begins.1.0 (joined_steady commands [] y.0 ∙ has y.0 begins.0))))
      (λ fault y none. absurd none) 4 NoAnswer z (
        inl before,
        (
          few,
          record {
            here = in_seven z.1 few;
            next = in_seven (later_exchanges z.1) (others_few z.1 few);
          },
        ),
      )

pub few_sure : IsSure AtMostThreeBadOfSeven
few_sure commands got Before After fits short has z before few = record {
  holds = upholds_if_steady (λ o y. ((o ≡ Ok got) × After y.0) × AtMostThreeBadOfSeven y.1) (step commands) z
      (few_steady z.1 few) (step_steady Before After commands got fits short has z before few).holds;
}
