-- The port that a text names.
use Rattle.std.proofs.Common.{◌≡◌, ◌≢◌, ◌∙◌, ◌<◌, ◌++◌, sym, ap, true, ℕ, [], ◌∷◌, length, rules, arith, codes, Some, Ok}
use Rattle.std.specs.List.{list_all}
use Rattle.std.specs.Char.{is_ascii_digit}
use Rattle.std.specs.Str.Parse.{digits_value}
use Rattle.std.proofs.lemmas.Bool.{cases_Bool}
use Rattle.std.proofs.lemmas.Bool.Decides.{nat_tests}
use Rattle.std.proofs.lemmas.Slice.Eq.{bytes_eq-Decides}
use Rattle.avr_part.specs.PartFile.{Bytes}
use Rattle.avr_plan.specs.Port.{is_address, port_number, port_of}
use Rattle.avr_plan.proofs.AddressCuts.{address_is_cut}
use Rattle.avr_plan.specs.declared.settings.Port.{Port}
use Rattle.avr_plan.specs.declared.settings.Port.TheVariants.{Stdio, Emulated, Network, Served}
use Rattle.avr_laws.proofs.Asked.Cuts.{prefix_cut, last_cut}
use Rattle.avr_laws.specs.AskedSettings.{IsAddress, IsPortNumber, NamesPort}

-- a number that is read is a port number
pub number_is : (digits : Bytes) (n : ℕ) → port_number digits ≡ Some n → IsPortNumber digits
number_is digits n is = search (rules, nat_tests)

-- and conversely
number_read : (digits : Bytes) → list_all is_ascii_digit digits ≡ true → 0 < digits_value 10 digits
    → digits_value 10 digits < 65536 → port_number digits ≡ Some (digits_value 10 digits)
number_read digits all some few = search (rules, nat_tests)

-- what is taken for an address is a host, a colon and a port number
address_is : (text : Bytes) → is_address text ≡ true → IsAddress text
address_is text is = search (rules, nat_tests, last_cut, number_is)

-- a port that is read is the one that the text names
pub port_is : (text : Bytes) (port : Port) → port_of text ≡ Ok port → NamesPort text port
port_is text port is = search (rules, nat_tests, bytes_eq-Decides, prefix_cut, address_is, cases_Bool)

-- `emu:` and a name are the emulator with the file of this name
emulator_read : (file : Bytes) → 0 < length file → port_of (codes "emu:" ++ file) ≡ Ok (Emulated file)
emulator_read file some = search (rules, nat_tests)

-- a text with a byte isn't empty
not_nil : (text : Bytes) → 0 < length text → text ≢ []
not_nil [] some is = absurd (omega (arith, some))
not_nil (c ∷ cs) some is = absurd (cc is)

-- and conversely
pub port_read : (text : Bytes) (port : Port) → NamesPort text port → port_of text ≡ Ok port
port_read text Stdio is = ap port_of is
port_read text (Emulated file) (is, some) = ap port_of is ∙ emulator_read file some
port_read text (Network address) (is, (host, digits, cut, some, (all, least, most))) =
    ap port_of (is ∙ ap (λ (a : Bytes). codes "net:" ++ a) cut)
    ∙ (address_is_cut host digits (digits_value 10 digits) (not_nil host some) (number_read digits all least most)
    ∙ ap (λ (a : Bytes). Ok (Network a)) (sym cut))
port_read text (Served port chip) is = absurd is
