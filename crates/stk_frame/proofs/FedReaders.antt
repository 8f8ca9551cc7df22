-- What one more byte brings to a reader.
use Rattle.std.proofs.lemmas.Grind.{common_steps}
use Rattle.std.proofs.Common.{◌≡◌, ℕ, zero, suc, ◌-◌, length-drop, take, slice_index, ◌+◌, ◌<◌, ◌≤◌, List, [], ◌∷◌, ◌++◌, length, drop, refl, sym, ap, ◌∙◌, append_assoc, arith, false, Option, rules}
use Rattle.std.proofs.lemmas.Bool.{le-leb, lt-leb, le-ltb, cond-false}
use Rattle.std.proofs.lemmas.List.{append-nil, take_all, drop_all}
use Rattle.std.proofs.Math.Seq.{take-add}
use Rattle.std.proofs.lemmas.List.Elements.{filter-append}
use Rattle.std.specs.Prelude.{filter, ◌==◌}
use Rattle.std.specs.Option.{unwrap_or}
use Rattle.memchr.specs.Find.{IsFirstByte, is_byte}
use Rattle.stk_frame.specs.Cut.{cut, rest, piece_size, has_piece, is_frame, IsPiece}
use Rattle.stk_frame.specs.Reader.{Fed}
use Rattle.stk_frame.proofs.Cuts.{cut_append, rest_append, cut_piece, rest_piece, cut_none, rest_none}

part_is : (h : List ℕ) → length h < piece_size h → has_piece h ≡ false
part_is h part = lt-leb (piece_size h) (length h) part

-- the rest of a piece is empty
pub rest_whole : (h : List ℕ) → IsPiece h → rest h ≡ []
rest_whole h whole = search (rules, rest_piece, drop_all, le-leb)

pub cut_whole : (h : List ℕ) → IsPiece h → cut h ≡ h ∷ []
cut_whole h whole = search (rules, cut_piece, le-leb, take_all, drop_all)

-- What a part that was held and the bytes give, every text gives.
fed_from : (h u held new : List ℕ) (skipped found : List (List ℕ)) → length h < piece_size h → held ≡ h ++ u
    → filter is_frame skipped ≡ [] → cut held ≡ skipped ++ found → rest held ≡ rest new → Fed h u new found
fed_from h u held new skipped found part is none p r = search (rules, cut_append, rest_none, part_is, rest_append)

pub fed_on : (a x b y c : List ℕ) (found : List (List ℕ)) → Fed a x b [] → Fed b y c found → Fed a (x ++ y) c found
fed_on a x b y c found f g = record {
  skipped = f.skipped ++ g.skipped;
  no_frames = search (rules, filter-append);
  pieces = search (rules, append_assoc, append-nil);
  stands = λ t s. ap rest (sym (append_assoc t x y)) ∙ g.stands (t ++ x) (f.stands t s);
}

-- a whole frame is dropped when the next byte comes
pub fed_cleared : (held used new : List ℕ) (found : List (List ℕ)) → IsPiece held → Fed [] used new found
    → Fed held used new found
fed_cleared held used new found whole f = search (rules, rest_whole)

-- still a part
pub fed_part : (h u held : List ℕ) → length h < piece_size h → held ≡ h ++ u → length held < piece_size held
    → Fed h u held []
fed_part h u held part is more = fed_from h u held held [] [] part is refl (cut_none held (part_is held more)) refl

-- a piece that isn't a frame
pub fed_skip : (h u held : List ℕ) → length h < piece_size h → held ≡ h ++ u → IsPiece held → length held ≤ 5
    → Fed h u [] []
fed_skip h u held part is whole few = fed_from h u held [] (held ∷ []) [] part is
    (cond-false (is_frame held) _ _ (le-ltb 5 (length held) few)) (cut_whole held whole) (rest_whole held whole)

-- a frame
pub fed_frame : (h u held : List ℕ) → length h < piece_size h → held ≡ h ++ u → IsPiece held → Fed h u held (held ∷ [])
fed_frame h u held part is whole = fed_from h u held held [] (held ∷ []) part is refl (cut_whole held whole) refl

-- a byte other than the start byte, in front of a piece
fed_noise_byte : (b : ℕ) → (b == 27) ≡ false → Fed [] (b ∷ []) [] []
fed_noise_byte b other = fed_skip [] (b ∷ []) (b ∷ []) (omega arith) refl (rw other refl) (omega arith)

-- bytes without a start byte
pub fed_noise : (n : ℕ) (bytes : List ℕ) → n ≤ length bytes → ((i : ℕ) → i < n → (slice_index bytes i == 27) ≡ false)
    → Fed [] (take n bytes) [] []
fed_noise zero bytes within none = search (rules, append-nil)
fed_noise (suc n) [] within none = absurd (omega arith)
fed_noise (suc n) (b ∷ bytes) within none =
    fed_on [] (b ∷ []) [] (take n bytes) [] [] (fed_noise_byte b (none 0 (omega arith)))
    (fed_noise n bytes (omega arith) (λ i below. none (suc i) (omega arith)))

-- bytes up to the first start byte, or all of them
pub fed_up_to : (bytes : List ℕ) (place : Option ℕ) → IsFirstByte (is_byte 27) bytes place
    → Fed [] (take (unwrap_or place (length bytes)) bytes) [] []
fed_up_to bytes place none = search (rules, fed_noise)

pub within_span : (piece : List ℕ) (used taken : ℕ) → used ≤ length piece
    → taken ≤ length (take (length piece - used) (drop used piece)) → used + taken ≤ length piece
within_span piece used taken within few = search (rules, length-drop)

pub fed_span : (a b c piece : List ℕ) (used taken : ℕ) (found : List (List ℕ)) → Fed a (take used piece) b []
    → Fed b (take taken (take (length piece - used) (drop used piece))) c found
    → Fed a (take (used + taken) piece) c found
fed_span a b c piece used taken found first second = grind (arith, common_steps, take-add, fed_on)
