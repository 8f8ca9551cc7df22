use Rattle.std.proofs.Common.{◌∙◌, refl, sym}
use Rattle.std.specs.contracts.io.ErrorKind.{the_type}
use denote.Enum.Bare.{same_false, same_true}
use Rattle.avr_desk.proofs.looks.unless.Goals as goal

pub returns-in-Err : goal.returns-in-Err
returns-in-Err g c = rw c.in-Err.is (
  λ same. refl,
  λ differs. absurd (differs
      (sym (rw c.in-Err.is at c.kind.ensures) ∙ same_true the_type tt _ _ (sym c.eq.ensures ∙ c.if-eq.true))),
)

pub returns-in-Err-2 : goal.returns-in-Err-2
returns-in-Err-2 g c = rw c.in-Err-2.is (
  λ same. absurd
      (same_false the_type _ _ (sym c.eq.ensures ∙ c.if-eq.false) (rw c.in-Err-2.is at c.kind.ensures ∙ same)),
  λ differs. refl,
)
