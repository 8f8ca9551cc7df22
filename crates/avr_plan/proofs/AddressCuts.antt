-- An address is cut at its last colon.
use Rattle.std.proofs.lemmas.Grind.{common_steps}
use Rattle.std.proofs.Common.{◌≡◌, ◌≢◌, ℕ, true, [], ◌∷◌, ◌++◌, Some, Ok, codes, rules, arith}
use Rattle.std.proofs.lemmas.Bool.{cases_Bool}
use Rattle.std.specs.List.{list_all}
use Rattle.std.specs.Char.{is_ascii_digit}
use Rattle.avr_part.specs.PartFile.{Bytes}
use Rattle.avr_plan.specs.Split.{colon}
use Rattle.avr_plan.specs.Port.{port_number, port_of}
use Rattle.avr_plan.specs.declared.settings.Port.TheVariants.{Network}
use Rattle.avr_plan.proofs.UpdatesReread.{not_empty}
use Rattle.avr_plan.proofs.TextCuts.{HasNoColon, split_last-parts}

-- Digits have no colon among them.
digits_without_colon : (text : Bytes) → list_all is_ascii_digit text ≡ true → HasNoColon text
digits_without_colon text all i small e = grind (arith, common_steps)

-- A text `net:HOST:PORT` gives this address, whatever colons HOST has.
pub address_is_cut : (host port : Bytes) (number : ℕ) → host ≢ [] → port_number port ≡ Some number
    → port_of (codes "net:" ++ (host ++ colon ∷ port)) ≡ Ok (Network (host ++ colon ∷ port))
address_is_cut host port number some is = search (rules, digits_without_colon, cases_Bool, split_last-parts, not_empty)
