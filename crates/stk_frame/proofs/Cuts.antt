-- Laws of the cutting.
use Rattle.std.proofs.Common.{◌≡◌, ℕ, zero, suc, ◌-◌, ◌<◌, ◌≤◌, List, [], ◌∷◌, ◌++◌, length, take, drop, refl, ap, ◌∙◌, subst, append_assoc, arith, true, false, length-append, inl, inr, rules}
use Rattle.std.proofs.lemmas.Bool.{leb-true, leb-false, le-leb, cases_Bool, false≢true, cond-true}
use Rattle.std.proofs.lemmas.Bool.Decides.{nat_tests}
use Rattle.std.proofs.lemmas.List.{take-append-le, drop-append-le, take-append-drop, length-take-le}
use Rattle.std.proofs.lemmas.List.Elements.{All-nil}
use Rattle.std.specs.List.{concat}
use Rattle.std.specs.Prelude.{◌==◌, All}
use Rattle.stk_frame.specs.Cut.{cut, rest, pieces_after, rest_after, piece_size, has_piece, IsPiece, Cuts}

-- the bytes already taken are only counted
behind_is : (taken : ℕ) (bytes : List ℕ)
    → (pieces_after taken bytes ≡ cut (drop taken bytes)) × (rest_after taken bytes ≡ rest (drop taken bytes))
behind_is (suc taken) (b ∷ bs) = behind_is taken bs
behind_is _ _ = (refl, refl)

start_only : (a : ℕ) (y : List ℕ) → (a == 27) ≡ false → piece_size (a ∷ y) ≡ 1
start_only a y e = search rules

pub size_positive : (bytes : List ℕ) → 1 ≤ piece_size bytes
size_positive bytes = search (rules, nat_tests)

long_size : (a b c d e : ℕ) (more : List ℕ) → (a == 27) ≡ true → 5 ≤ piece_size (a ∷ b ∷ c ∷ d ∷ e ∷ more)
long_size a b c d e more start = rw start (grind (arith, nat_tests))

-- more bytes don't change the size of a piece that is whole
pub size_stays : (x y : List ℕ) → piece_size x ≤ length x → piece_size (x ++ y) ≡ piece_size x
size_stays x y whole = search (rules, start_only)

drop_one : (n b : ℕ) (bs : List ℕ) → 1 ≤ n → drop (n - 1) bs ≡ drop n (b ∷ bs)
drop_one n b bs positive = search rules

-- bytes that begin with a whole piece
pub cut_piece : (bytes : List ℕ) → has_piece bytes ≡ true
    → cut bytes ≡ take (piece_size bytes) bytes ∷ cut (drop (piece_size bytes) bytes)
cut_piece bytes whole = search (rules, false≢true, cond-true, behind_is, drop_one, size_positive)

pub rest_piece : (bytes : List ℕ) → has_piece bytes ≡ true → rest bytes ≡ rest (drop (piece_size bytes) bytes)
rest_piece [] whole = absurd (false≢true whole)
rest_piece (b ∷ bs) whole =
    cond-true (has_piece (b ∷ bs)) _ _ whole
    ∙ ((behind_is (piece_size (b ∷ bs) - 1) bs).1
    ∙ ap rest (drop_one (piece_size (b ∷ bs)) b bs (size_positive (b ∷ bs))))

-- bytes that begin no whole piece
pub cut_none : (bytes : List ℕ) → has_piece bytes ≡ false → cut bytes ≡ []
cut_none bytes part = search rules

pub rest_none : (bytes : List ℕ) → has_piece bytes ≡ false → rest bytes ≡ bytes
rest_none bytes part = search rules

stays_whole : (x y : List ℕ) → has_piece x ≡ true → has_piece (x ++ y) ≡ true
stays_whole x y whole = search (rules, leb-true, le-leb, size_stays, length-append)

-- induction over the pieces: bytes with no whole piece in front, and the step over one
module _ (P : List ℕ → Type 0) (none : (x : List ℕ) → has_piece x ≡ false → P x)
    (more : (x : List ℕ) → has_piece x ≡ true → P (drop (piece_size x) x) → P x) where
  by_pieces_behind : (n : ℕ) (x : List ℕ) → P (drop n x)
  by_pieces_behind zero [] = none [] refl
  by_pieces_behind (suc n) [] = none [] refl
  by_pieces_behind (suc n) (b ∷ x) = by_pieces_behind n x
  by_pieces_behind zero (b ∷ x) = elim (cases_Bool (has_piece (b ∷ x))) [
    | inl whole ↦ more (b ∷ x) whole (subst P (drop_one (piece_size (b ∷ x)) b x (size_positive (b ∷ x)))
        (by_pieces_behind (piece_size (b ∷ x) - 1) x))
    | inr part ↦ none (b ∷ x) part
  ]

  by_pieces : (x : List ℕ) → P x
  by_pieces x = by_pieces_behind 0 x

-- bytes are cut like their prefix, and then the rest of the prefix with the bytes after
pub cut_append : (x y : List ℕ) → cut (x ++ y) ≡ cut x ++ cut (rest x ++ y)
cut_append x y = by_pieces (λ x. cut (x ++ y) ≡ cut x ++ cut (rest x ++ y))
    (λ x part. rw (cut_none x part, rest_none x part) refl)
    (search (rules, cut_piece, stays_whole, size_stays, leb-true, take-append-le, drop-append-le, rest_piece)) x

pub rest_append : (x y : List ℕ) → rest (x ++ y) ≡ rest (rest x ++ y)
rest_append x y = by_pieces (λ x. rest (x ++ y) ≡ rest (rest x ++ y)) (λ x part. rw (rest_none x part) refl)
    (search (rules, rest_piece, stays_whole, size_stays, leb-true, drop-append-le)) x

-- the pieces and what is left are the bytes
pub cut_joined : (x : List ℕ) → concat (cut x) ++ rest x ≡ x
cut_joined = by_pieces (λ x. concat (cut x) ++ rest x ≡ x) (λ x part. rw (cut_none x part, rest_none x part) refl)
    (λ x whole inner. search (rules, cut_piece, rest_piece, append_assoc, take-append-drop))

pub taken_size : (y : List ℕ) → piece_size y ≤ length y → piece_size (take (piece_size y) y) ≡ piece_size y
taken_size (a ∷ b ∷ c ∷ d ∷ e ∷ more) whole = elim (cases_Bool (a == 27)) [
  | inl start ↦
      let y : List ℕ = a ∷ b ∷ c ∷ d ∷ e ∷ more in
      let five : 5 ≤ piece_size y = long_size a b c d e more start in
      ap (λ n. piece_size (take n y)) (let is : piece_size y ≡ suc (suc (suc (suc (suc (piece_size y - 5))))) =
      omega arith in is)
  | inr other ↦ (search (rules, start_only))
]
taken_size _ whole = search (rules, start_only)

-- the cutting finds pieces, and a part of one is left
pieces_whole : (x : List ℕ) → All IsPiece (cut x)
pieces_whole = by_pieces (λ x. All IsPiece (cut x)) (λ x part. rw (cut_none x part) (All-nil IsPiece))
    (λ x whole inner. rw (cut_piece x whole) (search (rules, taken_size, leb-true, length-take-le)))

rest_is_part : (x : List ℕ) → length (rest x) < piece_size (rest x)
rest_is_part = by_pieces (λ x. length (rest x) < piece_size (rest x))
    (λ x part. rw (rest_none x part) (leb-false (piece_size x) (length x) part))
    (λ x whole inner. rw (rest_piece x whole) inner)

pub cut_is : (x : List ℕ) → Cuts x (cut x) (rest x)
cut_is x = record { joined = cut_joined x; each = pieces_whole x; part = rest_is_part x }
