-- The system calls that uses of files show.
use Rattle.std.proofs.Common.{◌≡◌, ap, Bool, true, false, [], ◌∷◌, ◌++◌, flat_map, if◌then◌else◌, rules}
use Rattle.std.proofs.lemmas.Grind.{flat_map-append}
use Rattle.avr_desk.specs.Journal.{Gives, Makes, Opens, FileCall, calls_of, made}
use Rattle.avr_io.specs.Named.{is_dash}
use Rattle.avr_io.specs.Record.{Bytes, Record, all_uses, use_of, with_open, with_replaced}
use Rattle.avr_io.specs.declared.record.FileUse.{FileUse}
use Rattle.avr_io.specs.declared.record.Open.{Open}

-- the calls of all uses once another file is open: those before, and the one that opened it
pub calls_opened : (o : Open) (used : FileUse) (r : Record) → use_of o ≡ used ∷ []
    → flat_map calls_of (all_uses (with_open o r)) ≡ flat_map calls_of (all_uses r) ++ calls_of used
calls_opened o used r is = search (rules, flat_map-append)

-- the calls of all uses once a file is replaced: those before, and the replacement
pub calls_replaced : (name bytes : Bytes) (r : Record)
    → flat_map calls_of (all_uses (with_replaced name bytes r)) ≡ flat_map calls_of (all_uses r) ++ made name
calls_replaced name bytes r = search (rules, flat_map-append)

-- ---- `-` is standard input and output

-- the call that opens a name
abbrev pub opened : Bytes → FileCall
opened name = if is_dash name then Gives else Opens name

-- `-` opens standard input
pub opened_dash : (name : Bytes) → is_dash name ≡ true → opened name ≡ Gives
opened_dash name dash = ap (λ (b : Bool). if b then Gives else Opens name) dash

-- any other name opens the file of this name
pub opened_named : (name : Bytes) → is_dash name ≡ false → opened name ≡ Opens name
opened_named name no_dash = ap (λ (b : Bool). if b then Gives else Opens name) no_dash

-- creating `-` makes no file
pub made_dash : (name : Bytes) → is_dash name ≡ true → made name ≡ []
made_dash name dash = ap (λ (b : Bool). if b then [] else Makes name ∷ []) dash
