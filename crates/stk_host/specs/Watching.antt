-- What a watcher of a link receives.
use Rattle.std.specs.Prelude.{ℕ, List, Result}
use Rattle.stk_host.specs.declared.link.Heard.{Heard}
use Rattle.stk_host.specs.declared.link.LinkFault.{LinkFault}
use Rattle.stk_host.specs.declared.watched_link.LinkCall.{LinkCall}
use Rattle.stk_host.specs.declared.watched_link.LinkCall.TheVariants as call

-- A call of a link that has returned: its argument and its result.
pub data LinkCallReport : Type 0 where
  Sent : List ℕ → Result ℕ LinkFault → LinkCallReport
  Received : List ℕ → Result Heard LinkFault → LinkCallReport

-- A call that the code reports, as a value for contracts.
abbrev pub link_call_report : LinkCall → LinkCallReport
link_call_report (call.Sent bytes outcome) = Sent bytes.now outcome
link_call_report (call.Received buffer outcome) = Received buffer.now outcome
