-- The record of a desk after several output events.
use Rattle.std.proofs.Common.{◌≡◌, ◌∙◌, sym, ap, List, [], ◌∷◌, ◌++◌, refl}
use Rattle.avr_io.specs.Record.{Record}
use Rattle.avr_io.specs.OutputEvents.{OutputEvent, after, after_events}

-- two changes of a record are one change that does both
pub kept_on : (f g h : Record → Record) (a b c : Record) → ((r : Record) → h r ≡ g (f r)) → b ≡ f a → c ≡ g b → c ≡ h a
kept_on f g h a b c is e k = k ∙ ap g e ∙ sym (is a)

-- no events change nothing
pub kept_none : (a : Record) → a ≡ after_events [] a
kept_none a = refl

-- the events of two lists change a record one list after the other
pub after_append : (x y : List OutputEvent) (r : Record) → after_events (x ++ y) r ≡ after_events y (after_events x r)
after_append [] y r = refl
after_append (event ∷ x) y r = after_append x y (after event r)

-- so a record after both lists is one after the first, and then after the second
pub kept_append : (x y : List OutputEvent) (a b c : Record) → b ≡ after_events x a → c ≡ after_events y b
    → c ≡ after_events (x ++ y) a
kept_append x y a b c e f = kept_on (after_events x) (after_events y) (after_events (x ++ y)) a b c (after_append x y) e
    f
