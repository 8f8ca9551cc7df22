-- The state of a session: after an operation that failed, and at its end; a fault is not fine.
use Rattle.std.proofs.Common.{◌≡◌, Err, rules}
use Rattle.stk_host.specs.declared.fault.HostFault.{HostFault}
use Rattle.avr_session.specs.Standing.{Standing, NoFault, Faulty, Over}
use Rattle.avr_session.specs.Session.{standing}

-- What holds of both states after a fault holds after any fault.
pub after_fault : (A : Type 0) (P : Standing → Type 0) (fault : HostFault) → P Faulty → P Over
    → P (standing {A = A} (Err fault))
after_fault A P fault faulty over = search rules

-- A fault is not "no fault".
pub faulty_fine : {A : Type 0} → ◌≡◌ {A = Standing} Faulty NoFault → A
faulty_fine e = absurd (let no : ⊥ = cc in no)

-- Nor is the end after a fault.
pub over_fine : {A : Type 0} → ◌≡◌ {A = Standing} Over NoFault → A
over_fine e = absurd (let no : ⊥ = cc in no)
