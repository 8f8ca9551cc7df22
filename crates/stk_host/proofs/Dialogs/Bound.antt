-- Dialogs one after another.
use Rattle.std.proofs.Common.{◌≡◌, refl, ap}
use Rattle.std.proofs.Math.Path.{fun_ext}
use Rattle.stk_host.specs.Tape.{Reading}
use Rattle.stk_host.specs.Dialog.{Dialog, Done, Emit, Ask, ◌>>=◌}

-- two continuations that agree give the same dialog
pub bind_same : {E A B : Type 0} (dialog : Dialog E A) (f g : A → Dialog E B) → ((a : A) → f a ≡ g a)
    → dialog >>= f ≡ dialog >>= g
bind_same {E = E} {A = A} {B = B} dialog f g same = ap (λ (go_on : A → Dialog E B). dialog >>= go_on) (fun_ext same)

-- a continuation that only returns the result changes nothing
pub bind_done : {E A : Type 0} (dialog : Dialog E A) → dialog >>= Done ≡ dialog
bind_done (Done a) = refl
bind_done (Emit e dialog) = ap (Emit e) (bind_done dialog)
bind_done {E = E} {A = A} (Ask body resume) =
    ap (λ (go_on : Reading → Dialog E A). Ask body go_on) (fun_ext (λ reading. bind_done (resume reading)))

-- it doesn't matter which two of three are joined first
pub bind_assoc : {E A B C : Type 0} (dialog : Dialog E A) (f : A → Dialog E B) (g : B → Dialog E C)
    → dialog >>= f >>= g ≡ dialog >>= (λ a. f a >>= g)
bind_assoc (Done a) f g = refl
bind_assoc (Emit e dialog) f g = ap (Emit e) (bind_assoc dialog f g)
bind_assoc {E = E} {C = C} (Ask body resume) f g =
    ap (λ (go_on : Reading → Dialog E C). Ask body go_on) (fun_ext (λ reading. bind_assoc (resume reading) f g))
