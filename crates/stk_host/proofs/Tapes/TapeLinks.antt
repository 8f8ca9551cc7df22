-- What a link over a tape gave, call after call.
use Rattle.std.proofs.Common.{◌≡◌, ◌∙◌, ◌<◌, sym, ap, refl, arith, ℕ, zero, suc, ◌+◌, List, [], ◌∷◌, ◌++◌, append_assoc, append-nil, replicate, take, drop, min, length, Result, Ok, Err, IfOk, OnErr, rules}
use Rattle.std.proofs.lemmas.List.{replicate-append-replicate}
use Rattle.ghosts.specs.Preserves.{Preserves}
use Rattle.stk_host.specs.declared.link.Heard.{Heard}
use Rattle.stk_host.specs.declared.link.Item.TheVariants.{Byte, End}
use Rattle.stk_host.specs.declared.link.LinkFault.{LinkFault}
use Rattle.stk_host.specs.Links.{TapeState, ConsumesTape, tape_state, next_piece}
use Rattle.stk_host.specs.Tape.{Tape, leading_bytes, on_tape}
use Rattle.stk_host.specs.Transcript.{Transcript, Sent, Got, Receives, heard, items_of}
use Rattle.stk_host.proofs.Transcripts.Laws.{got_append}

nothing_behind : (prefix back : Tape) → prefix ++ back ≡ [] → back ≡ []
nothing_behind [] back none = none
nothing_behind (item ∷ prefix) back none = absurd (cc)

-- ---- a piece, and what is left of a tape after it

bytes_given : (most : ℕ) (tape : Tape) → on_tape (take most (leading_bytes tape))
    ++ drop (length (on_tape (take most (leading_bytes tape)))) tape ≡ tape
bytes_given (suc most) (Byte b ∷ tape) = ap (λ (t : Tape). Byte b ∷ t) (bytes_given most tape)
bytes_given _ _ = refl

-- the number of ends given after the last item
abbrev ends_of : Tape → ℕ
ends_of [] = 1
ends_of (item ∷ tape) = 0

piece_given : (most : ℕ) (tape : Tape) → next_piece most tape ++ drop (length (next_piece most tape)) tape
    ≡ tape ++ replicate (ends_of tape) End
piece_given most [] = refl
piece_given most (Byte b ∷ tape) = bytes_given most (Byte b ∷ tape) ∙ sym (append-nil (Byte b ∷ tape))
piece_given most (item ∷ tape) = ap (λ (t : Tape). item ∷ t) (sym (append-nil tape))

none_left : (n : ℕ) (tape : Tape) → 0 < ends_of tape → drop n tape ≡ []
none_left zero [] some = refl
none_left (suc n) [] some = refl
none_left n (item ∷ tape) some = absurd (omega (arith, some))

-- ---- calls

pub of_tape_now : (a : TapeState) → ConsumesTape a a
of_tape_now a = record {
  during = [];
  grows = sym (append-nil a.transcript);
  ends = 0;
  gave = sym (append-nil a.left);
  over = λ some. absurd (omega (arith, some));
}

of_tape_on : (a b c : TapeState) → ConsumesTape a b → ConsumesTape b c → ConsumesTape a c
of_tape_on a b c f g = record {
  during = f.during ++ g.during;
  grows = g.grows ∙ ap (λ (t : Transcript). t ++ g.during) f.grows ∙ append_assoc a.transcript f.during g.during;
  ends = f.ends + g.ends;
  gave = search (rules, got_append, append_assoc, replicate-append-replicate);
  over = none f.ends g.ends g.gave f.over g.over;
}
  where
    none : (m n : ℕ) → heard g.during ++ c.left ≡ b.left ++ replicate n End → (0 < m → b.left ≡ [])
        → (0 < n → c.left ≡ []) → 0 < m + n → c.left ≡ []
    none m (suc n) gave first last some = last (omega arith)
    none m zero gave first last some =
        nothing_behind (heard g.during) c.left (gave ∙ append-nil b.left ∙ first (omega (arith, some)))

since : (b c : TapeState) → ConsumesTape b c → Preserves ConsumesTape b c
since b c g = λ start f. of_tape_on start b c f g

-- nothing was received
quiet_of_tape : (during : Transcript) (b c : TapeState) → heard during ≡ [] → c.left ≡ b.left
    → c.transcript ≡ b.transcript ++ during → Preserves ConsumesTape b c
quiet_of_tape during b c quiet left transcript = since b c (search rules)

pub same_of_tape : (b c : TapeState) → c.left ≡ b.left → c.transcript ≡ b.transcript → Preserves ConsumesTape b c
same_of_tape b c left transcript = quiet_of_tape [] b c refl left (transcript ∙ sym (append-nil b.transcript))

pub sent_of_tape : (bytes : List ℕ) (b c : TapeState) → c.left ≡ b.left → c.transcript ≡ b.transcript ++ Sent bytes ∷ []
    → Preserves ConsumesTape b c
sent_of_tape bytes b c left transcript = quiet_of_tape (Sent bytes ∷ []) b c refl left transcript

pub received_of_tape : (result : Result Heard LinkFault) (buffer : List ℕ) (b c : TapeState)
    → Receives buffer (tape_state b) (tape_state c) result
    → IfOk result (λ given. items_of given buffer ≡ next_piece (min b.cut (length buffer)) b.left)
    → IfOk result (λ given. c.left ≡ drop (length (items_of given buffer)) b.left) → OnErr result (c.left ≡ b.left)
    → Preserves ConsumesTape b c
received_of_tape (Ok given) buffer b c receives piece left kept =
    let most : ℕ = min b.cut (length buffer) in
    let rest : c.left ≡ drop (length (next_piece most b.left)) b.left =
    left ∙ ap (λ (t : Tape). drop (length t) b.left) piece in
    since b c (record {
      during = Got (items_of given buffer) ∷ [];
      grows = receives.ok;
      ends = ends_of b.left;
      gave = search (rules, append-nil, piece_given);
      over = λ some. rest ∙ none_left (length (next_piece most b.left)) b.left some;
    })
received_of_tape (Err fault) buffer b c receives piece left kept =
    same_of_tape b c kept (receives.err ∙ append-nil b.transcript)
