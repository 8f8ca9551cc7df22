-- How a session goes on after an operation of the host: for contracts inside this crate.
use Rattle.std.specs.Prelude.{◌≡◌, Option, None, Result, Ok, Err, ⊤}
use Rattle.avr_io.specs.declared.desk.DeskFault.{DeskFault}
use Rattle.stk_host.specs.declared.fault.HostFault.{HostFault}
use Rattle.stk_host.specs.declared.fault.HostFault.TheVariants.{LinkEnded, SendFailed, RecvFailed, Memory}
use Rattle.avr_session.specs.declared.ending.End.{End}
use Rattle.avr_session.specs.declared.ending.End.TheVariants as ends
use Rattle.avr_session.specs.Standing.{Standing, NoFault, Faulty, Over}

-- How a session ends or goes on after this outcome and this result of reporting it. A failed desk, a failed link and a
-- failed allocation stop the run; no other fault does.
abbrev pub conclusion : {A : Type 0} → Result A HostFault → Result ⊤ DeskFault → Result ⊤ End
conclusion outcome (Err _) = Err ends.Stopped
conclusion (Ok a) (Ok done) = Ok tt
conclusion (Err LinkEnded) (Ok done) = Err (ends.Over LinkEnded)
conclusion (Err SendFailed) (Ok done) = Err ends.Stopped
conclusion (Err RecvFailed) (Ok done) = Err ends.Stopped
conclusion (Err Memory) (Ok done) = Err ends.Stopped
conclusion (Err fault) (Ok done) = Err (ends.Faulty fault)

-- The state of a session after this result, unless it stopped.
abbrev pub standing_after : Result ⊤ End → Result Standing ⊤
standing_after (Ok done) = Ok NoFault
standing_after (Err (ends.Faulty fault)) = Ok Faulty
standing_after (Err (ends.Over fault)) = Ok Over
standing_after (Err ends.Stopped) = Err tt

-- After an action that leaves the link usable, the host is usable.
abbrev pub HostIsUsable : Result Standing ⊤ → Option HostFault → Type 0
HostIsUsable (Ok NoFault) broken = broken ≡ None
HostIsUsable (Ok Faulty) broken = broken ≡ None
HostIsUsable result broken = ⊤
