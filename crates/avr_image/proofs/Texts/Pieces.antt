-- A text that is collected, or written, piece by piece.
use Rattle.std.proofs.lemmas.Grind.{common_steps}
use Rattle.std.proofs.lemmas.Bool.Decides.{nat_tests}
use Rattle.std.proofs.Common.{◌≡◌, arith, ℕ, List, [], ◌++◌, length, append_assoc, Option}
use Rattle.std.proofs.KnownBytes.{Appends-trans}
use Rattle.std.proofs.lemmas.List.{append-nil, length-append, nil_from_length}
use Rattle.std.specs.Io.KnownBytes.{Appends}

-- the text so far, the next piece and what is left are the whole text
pub goes_on : (text piece old left whole : List ℕ) → text ++ old ≡ whole → old ≡ piece ++ left
    → (text ++ piece) ++ left ≡ whole
goes_on text piece old left whole so_far split = grind (arith, nat_tests, append_assoc)

-- if nothing is left, the text is whole
pub is_whole : (text left whole : List ℕ) → text ++ left ≡ whole → length left ≡ 0 → text ≡ whole
is_whole text left whole so_far none = grind (arith, nat_tests, append-nil, nil_from_length)

-- if a piece is empty and nothing was left, nothing is left after it
pub none_left : (old piece left : List ℕ) → old ≡ piece ++ left → length old ≡ 0 → left ≡ []
none_left old piece left split none = grind (arith, nat_tests, nil_from_length, length-append)

-- a prefix of the whole text is written, and this is left
pub record Written (old now : Option (List ℕ)) (left whole : List ℕ) : Type 0 where
  pub prefix : List ℕ
  pub appended : Appends old now prefix
  pub split : prefix ++ left ≡ whole

-- one more piece is written
pub piece_written : (old now new : Option (List ℕ)) (piece before left whole : List ℕ)
    → Written old now before whole → before ≡ piece ++ left → Appends now new piece → Written old new left whole
piece_written old now new piece before left whole written split more = record {
  prefix = written.prefix ++ piece;
  appended = Appends-trans old now new written.prefix piece written.appended more;
  split = goes_on written.prefix piece before left whole written.split split;
}

-- if nothing is left, the whole text is written
pub all_written : (old now : Option (List ℕ)) (left whole : List ℕ) → Written old now left whole → length left ≡ 0
    → Appends old now whole
all_written old now left whole written none = grind (arith, common_steps)

-- the lemmas for the loops of `Pieces::to_vec` and `Pieces::write_to`
pub ruleset joins = (goes_on, is_whole, none_left)

pub ruleset writes = (piece_written, all_written, none_left)
