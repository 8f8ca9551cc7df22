-- How far a call has come over a link.
use Rattle.std.proofs.Common.{◌++◌, ◌∙◌, subst, rules}
use Rattle.stk_host.specs.declared.fault.HostFault.{HostFault}
use Rattle.ghosts.specs.Failures.{OneFailureCounted}
use Rattle.stk_host.specs.Transcript.{LinkState}
use Rattle.stk_host.specs.Dialog.{Dialog, Done, ◌>>=◌}
use Rattle.stk_host.specs.Play.{Progress, RunsOverLink, BreaksOverLink}
use Rattle.stk_host.specs.Reach.{Reaches}
use Rattle.stk_host.proofs.Transcripts.Laws.{grows_on}
use Rattle.stk_host.proofs.Transcripts.InDialogs.{leads_here, leads_on, leads_bind, by_on, by_bind}

pub reaches_here : {R : Type 0} (dialog : Dialog ⊥ R) (before : Progress) (o : LinkState)
    → Reaches dialog before o dialog before o
reaches_here dialog before o = search (rules, leads_here dialog before)

-- from where a call has come
module _ {R : Type 0} {a b : Dialog ⊥ R} {m n : Progress} {o p : LinkState} (f : Reaches a m o b n p) where
  pub reaches_on : {c : Dialog ⊥ R} {l : Progress} {q : LinkState} → Reaches b n p c l q → Reaches a m o c l q
  reaches_on {q = q} g = record {
    during = f.during ++ g.during;
    events = f.events ++ g.events;
    grows = grows_on o.transcript p.transcript q.transcript f.during g.during f.grows g.grows;
    leads = leads_on f.leads g.leads;
    sound = g.sound ∙ f.sound;
  }

  pub broken_on : {by : HostFault} {q : LinkState} → BreaksOverLink by b n p q → BreaksOverLink by a m o q
  broken_on {by = by} {q = q} g = record {
    during = f.during ++ g.during;
    shown = f.events ++ g.shown;
    grows = grows_on o.transcript p.transcript q.transcript f.during g.during f.grows g.grows;
    breaks = by_on f.leads by g.during g.shown g.breaks;
    failed = subst (λ n. OneFailureCounted n q.failures) f.sound g.failed;
  }

pub reaches_bind : {A B : Type 0} {a b : Dialog ⊥ A} {m n : Progress} {o p : LinkState} (go_on : A → Dialog ⊥ B)
    → Reaches a m o b n p → Reaches (a >>= go_on) m o (b >>= go_on) n p
reaches_bind go_on f = search (rules, leads_bind go_on f.leads)

-- the clauses of a call that ran a dialog give how far its caller has come
pub reaches_from : {R : Type 0} {a : Dialog ⊥ R} {m n : Progress} {o p : LinkState} {result : R}
    → RunsOverLink a m o p result n → Reaches a m o (Done result) n p
reaches_from f = search rules

pub played_from : {R : Type 0} {a : Dialog ⊥ R} {m n : Progress} {o p : LinkState} {result : R}
    → Reaches a m o (Done result) n p → RunsOverLink a m o p result n
played_from f = search rules

pub broken_bind : {A B : Type 0} {by : HostFault} {a : Dialog ⊥ A} {m : Progress} {o p : LinkState}
    (go_on : A → Dialog ⊥ B) → BreaksOverLink by a m o p → BreaksOverLink by (a >>= go_on) m o p
broken_bind {by = by} {a = a} {m = m} go_on f = search (rules, by_bind)

-- a dialog that was run, and what follows it
pub then_reaches : {A B : Type 0} {a : Dialog ⊥ A} {m n : Progress} {o p : LinkState} {result : A}
    (go_on : A → Dialog ⊥ B) → RunsOverLink a m o p result n → Reaches (a >>= go_on) m o (go_on result) n p
then_reaches go_on f = reaches_bind go_on (reaches_from f)
