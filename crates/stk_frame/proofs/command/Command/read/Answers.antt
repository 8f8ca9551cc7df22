use Rattle.std.proofs.Common.{◌≡◌, ◌-◌, ◌≤◌, length, List, ℕ, [], ◌∷◌, slice_index, take, drop, sym, ap, arith, rules}
use Rattle.std.proofs.lemmas.List.{take_all}
use Rattle.stk_frame.specs.Decoding.{command_of}
use Rattle.stk_frame.proofs.DecodedBodies.{is_read}
use Rattle.stk_frame.proofs.command.Command.read.Goals as goal

apart : (bytes : List ℕ) → 1 ≤ length bytes
    → command_of bytes ≡ command_of (slice_index bytes 0 ∷ take (length bytes - 1) (drop 1 bytes))
apart [] some = absurd (omega arith)
apart (code ∷ fields) some =
    ap (λ l. command_of (code ∷ l)) (sym (take_all (length (code ∷ fields) - 1) fields (omega arith)))

pub returns-in-len1-up-clause-body : goal.returns-in-len1-up-clause-body
returns-in-len1-up-clause-body c command fits =
    let value : c.with_fields.result ≡ command_of c.args.bytes.now = search (rules, apart) in
    rw value (is_read c.args.bytes.now (λ i. omega (arith, c.type_inv.bytes i)) command fits)
