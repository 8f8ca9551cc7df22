-- std splits texts as the definitions do.
use Rattle.std.proofs.Common.{◌≡◌, ◌≢◌, ◌∙◌, ap, ap₂, sym, refl, arith, ℕ, suc, ◌<◌, false, ◌==◌, List, [], ◌∷◌, ◌++◌, length, rules}
use Rattle.std.proofs.Common.{get_or, take, drop, Option, Some, None, option_map, Bor, ⊎_elim}
use Rattle.std.proofs.lemmas.Bool.{cases_Bool}
use Rattle.std.proofs.lemmas.Bool.Decides.{nat_tests}
use Rattle.std.proofs.lemmas.List.{take-append-drop}
use Rattle.std.specs.Option.{MatchOption}
use Rattle.std.specs.Str.Pattern.{FindsTextPrefix, StripsPrefix, SplitsAroundMatch, RFindsChar}
use Rattle.std.proofs.lemmas.Str.Pattern.{split_parts, IsSplitOnceResult, NoCharPasses-char, drop_at_char}
use Rattle.avr_plan.specs.Split.{after_prefix, split_first, split_last, colon}

-- No character of the text is a colon.
abbrev pub HasNoColon : List ℕ → Type 0
HasNoColon text = (i : ℕ) → i < length text → get_or text i 0 ≢ colon

-- A text without a colon has none after its first character.
no_colon_after : (c : ℕ) (cs : List ℕ) → HasNoColon (c ∷ cs) → HasNoColon cs
no_colon_after c cs h i l = h (suc i) (omega arith)

-- The first character of such a text is no colon.
no_colon_first : (c : ℕ) (cs : List ℕ) → HasNoColon (c ∷ cs) → (c == colon) ≡ false
no_colon_first c cs h = let apart : c ≢ colon = h 0 (omega arith) in grind (arith, nat_tests)

-- What follows a prefix is the rest.
pub after_prefix-append : (ps rest : List ℕ) → after_prefix ps (ps ++ rest) ≡ Some rest
after_prefix-append [] rest = refl
after_prefix-append (p ∷ ps) rest = let e = after_prefix-append ps rest in grind (arith, nat_tests, e)

-- Nothing follows a prefix that the text does not begin with.
pub after_prefix-lacks : (ps text : List ℕ) → ((rest : List ℕ) → text ≢ ps ++ rest) → after_prefix ps text ≡ None
after_prefix-lacks [] text h = absurd (h text refl)
after_prefix-lacks (p ∷ ps) [] h = refl
after_prefix-lacks (p ∷ ps) (c ∷ cs) h = ⊎_elim
    (λ e. let same : c ≡ p = grind (arith, nat_tests) in
    rw e (after_prefix-lacks ps cs (λ rest tails. h rest (ap₂ (λ (x : ℕ) (xs : List ℕ). x ∷ xs) same tails))))
    (λ e. rw e refl)
    (cases_Bool (p == c))

-- What the clause of `strip_prefix` says of a text is the definition.
pub strips_prefix : (prefix text : List ℕ) (r : Option (Bor (List ℕ)))
    → MatchOption r (FindsTextPrefix prefix text None) (λ x. StripsPrefix (FindsTextPrefix prefix) text x.now)
    → option_map (λ s. s.now) r ≡ after_prefix prefix text
strips_prefix prefix text r h = search (rules, after_prefix-lacks, after_prefix-append)

-- A text without a colon is not split at the first one.
split_first-none : (text : List ℕ) → HasNoColon text → split_first text ≡ None
split_first-none [] h = refl
split_first-none (c ∷ cs) h = rw (no_colon_first c cs h, split_first-none cs (no_colon_after c cs h)) refl

-- A text is split at its first colon.
split_first-parts : (xs ys : List ℕ) → HasNoColon xs → split_first (xs ++ colon ∷ ys) ≡ Some (xs, ys)
split_first-parts [] ys h = refl
split_first-parts (x ∷ xs) ys h = rw (no_colon_first x xs h, split_first-parts xs ys (no_colon_after x xs h)) refl

-- What the clause of `split_once` says of a colon is the definition.
pub splits_first : (text : List ℕ) (r : Option (Bor (List ℕ) × Bor (List ℕ))) → IsSplitOnceResult colon text r
    → option_map (λ s. (s.0.now, s.1.now)) r ≡ split_first text
splits_first text r h = search (rules, split_first-none, split_parts, split_first-parts)

-- A text without a colon is not split at the last one.
split_last-none : (text : List ℕ) → HasNoColon text → split_last text ≡ None
split_last-none [] h = refl
split_last-none (c ∷ cs) h = rw (no_colon_first c cs h, split_last-none cs (no_colon_after c cs h)) refl

-- A text is split at its last colon.
pub split_last-parts : (xs ys : List ℕ) → HasNoColon ys → split_last (xs ++ colon ∷ ys) ≡ Some (xs, ys)
split_last-parts [] ys h = rw (split_last-none ys h) refl
split_last-parts (x ∷ xs) ys h = rw (split_last-parts xs ys h) refl

-- What the clause of `rsplit_once` says of a colon is the definition.
pub splits_last : (text : List ℕ) (r : Option (Bor (List ℕ) × Bor (List ℕ)))
    → MatchOption r (RFindsChar colon text None) (λ x. SplitsAroundMatch (RFindsChar colon) text x.0.now x.1.now)
    → option_map (λ s. (s.0.now, s.1.now)) r ≡ split_last text
splits_last text None h = sym (split_last-none text (λ i l. NoCharPasses-char colon text i h (omega arith) l))
splits_last text (Some x) h =
    let at = drop_at_char colon text h.0 h.1 h.2.1 (omega arith) in
    let whole = sym (take-append-drop h.0 text) ∙ ap (λ (b : List ℕ). take h.0 text ++ b) at in
    ap₂ (λ (a b : List ℕ). Some (a, b)) h.3 h.4 ∙ sym (ap split_last whole ∙ split_last-parts (take h.0 text)
    (drop h.1 text) (λ k l. NoCharPasses-char colon (drop h.1 text) k h.2.0 (omega arith) l))
