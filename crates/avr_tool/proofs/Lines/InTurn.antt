-- A transcript in turn over a wire: the host listens only if something comes, and the programmer goes along with the
-- dialog.
use Rattle.std.proofs.Common.{◌≡◌, ℕ, ◌<◌, List, [], ◌∷◌, ◌++◌, length, take, drop, refl, sym, ap, ◌∙◌, subst, append_assoc, arith, inl, inr, true, Option, Some, None, length-append, rules}
use Rattle.std.proofs.lemmas.Bool.{cases_lt, lt-leb, and_parts, cond-true}
use Rattle.std.proofs.lemmas.List.{append-nil, take-append-le, drop-append-le, take_all, drop_all, take-append-drop}
use Rattle.stk_frame.specs.Frame.{frame}
use Rattle.stk_frame.specs.Cut.{frames, is_frame, IsPiece}
use Rattle.stk_frame.proofs.Cuts.{cut_none, size_stays}
use Rattle.stk_frame.proofs.Laws.{cut_first, frame_is_piece, frame_is_good}
use Rattle.stk_host.specs.Tape.{Tape, Reading, answer, on_tape}
use Rattle.stk_host.specs.Transcript.{Transcript, Sent, Taken, Got, sent, heard}
use Rattle.stk_host.specs.Dialog.{Dialog, Done, Emit, Ask, Event, Frame, Emitted, Played, played, continue_with_reading, next, bytes_sent, outputs, frames_in}
use Rattle.stk_host.specs.Play.{Progress, progress_at, IsDueToListen, InTurnFrom, InTurn, Plays, IsPrefixOfEvents, IsPartOfFirst, IsBytePrefixOf}
use Rattle.stk_host.proofs.Transcripts.InDialogs.{bytes_append}
use Rattle.stk_host.proofs.Transcripts.Laws.{not_behind}
use Rattle.stk_emu.specs.declared.fate.Fate.{Fate}
use Rattle.stk_emu.specs.Programmer.{Programmer}
use Rattle.stk_emu.specs.Device.{device}
use Rattle.stk_emu.specs.Wire.{AreLawful, exchanges_of_fates, fresh_wire}
use Rattle.stk_emu.specs.Wired.{WiredState, FollowsFates, NeverIdle, brought}
use Rattle.stk_emu.specs.DialogOverExchanges.{state_after, outputs_after, SendsValidBodies}
use Rattle.stk_emu.proofs.Wires.Arrivals.{none_clear}
use Rattle.stk_emu.proofs.Replies.BodySizes.{replies_fit_frames}
use Rattle.avr_tool.proofs.StepData.LongerTape.{reading_extends}
use Rattle.avr_tool.proofs.Lines.Plays.{played_along, emitted_played, done_played, waits_played}
use Rattle.avr_tool.proofs.Lines.WireTapes.{GoesOver, over_wire}

-- The bytes are one good frame.
pub record IsWhole (f : List ℕ) : Type 0 where
  pub piece : IsPiece f
  pub frame : is_frame f ≡ true

-- Each of these lists of bytes is.
abbrev pub AreWhole : List (List ℕ) → Type 0
AreWhole [] = Unit {0}
AreWhole (f ∷ fs) = IsWhole f × AreWhole fs

-- A frame before other bytes is the first frame.
frame_first : (f bytes : List ℕ) → IsWhole f → frames (f ++ bytes) ≡ f ∷ frames bytes
frame_first f bytes w = search (rules, cut_first, cond-true)

-- What each reading leads to sends whole frames, so the run does.
whole_by : {E R : Type 0} (go_on : Reading → Tape → Played E R) (o : Option (Reading × Tape))
    → ((reading : Reading) (left : Tape) → AreWhole (frames_in (go_on reading left).events))
    → AreWhole (frames_in (continue_with_reading go_on o).events)
whole_by go_on o each = search rules

-- a run sends whole frames
pub sends_whole : {E R : Type 0} (d : Dialog E R) (n : ℕ) (t : Tape) → SendsValidBodies d
    → AreWhole (frames_in (played d n t).events)
sends_whole (Done r) n t asks = tt
sends_whole (Emit e d) n t asks = sends_whole d n t asks
sends_whole (Ask bytes go_on) n t asks =
    let others = whole_by (λ reading. played (go_on reading) (next n)) (answer n t)
    (λ reading left. sends_whole (go_on reading) (next n) left (asks.1 reading)) in
    search (rules, frame_is_piece, and_parts, frame_is_good)

-- the frames of all bytes of whole frames are these
pub frames_sent : {E : Type 0} (events : List (Event E)) → AreWhole (frames_in events)
    → frames (bytes_sent events) ≡ frames_in events
frames_sent [] whole = refl
frames_sent (Frame f ∷ events) whole = search (rules, frame_first, frames_sent events whole.1)
frames_sent (Emitted e ∷ events) whole = frames_sent events whole

-- In turn: the host listens only while a reply is due.
pub due_at : {E R : Type 0} (d : Dialog E R) (n : ℕ) (tape : Tape) (bytes : List ℕ) (before after : Transcript)
    (items : Tape) → InTurnFrom d n tape bytes (before ++ Got items ∷ after)
    → IsDueToListen d n (tape ++ heard before) (bytes ++ sent before)
due_at d n tape bytes [] after items half_duplex = search (rules, append-nil)
due_at d n tape bytes (Sent more ∷ before) after items half_duplex =
    search (rules, append_assoc, due_at d n tape (bytes ++ more) before after items half_duplex)
due_at d n tape bytes (Taken more ∷ before) after items half_duplex = absurd (not_behind before after items half_duplex)
due_at d n tape bytes (Got got ∷ before) after items half_duplex =
    search (rules, append_assoc, due_at d n (tape ++ got) bytes before after items half_duplex.1)

-- A transcript in turn never listens while nothing waits, so in a run over all that was brought each command got its
-- reply.
pub never_idle : {E R : Type 0} (d : Dialog E R) (n : ℕ) (p : Programmer) (fates : List Fate) (transcript : Transcript)
    → SendsValidBodies d → AreLawful fates → InTurn d (progress_at n []) transcript → NeverIdle p fates transcript
never_idle d n p fates transcript asks lawful half_duplex before after items split same =
    let due : IsDueToListen d n (heard before) (sent before) =
    due_at d n [] [] before after items (subst (InTurnFrom d n [] []) split half_duplex) in
    let gone : frames_in (played d n (brought p fates (sent before))).events ≡ frames (sent before) =
    search (rules, frames_sent, sends_whole) in
    let goes = over_wire device replies_fit_frames d n (fresh_wire p fates) (frames (sent before)) [] asks
    (none_clear n) lawful (gone ∙ sym (append-nil (frames (sent before)))) in
    search (rules, waits_played)

-- with more of the tape, more frames after those sent
abbrev Goes : {E R : Type 0} → Dialog E R → ℕ → Tape → Tape → Type 0
Goes d n t u = (more : List (List ℕ)) × (frames_in (played d n (t ++ u)).events
    ≡ frames_in (played d n t).events ++ more)

-- More of the tape adds frames, and takes none back.
pub played_goes : {E R : Type 0} (d : Dialog E R) (n : ℕ) (t u : Tape) → Goes d n t u
played_goes (Done r) n t u = ([], refl)
played_goes (Emit e d) n t u = played_goes d n t u
played_goes (Ask bytes go_on) n t u =
    let sent_by : Option (Reading × Tape) → List (List ℕ) =
    λ o. frame n bytes ∷ frames_in (continue_with_reading (λ reading. played (go_on reading) (next n)) o).events in
    (elim (answer n t) as (λ o. answer n t ≡ o
    → (more : List (List ℕ)) × (sent_by (answer n (t ++ u)) ≡ sent_by o ++ more)) [
      | None ↦ λ e. (_, refl)
      | Some got ↦ λ e.
          let g = played_goes (go_on got.0) (next n) got.1 u in
          (g.0, ap sent_by (reading_extends n t u got.0 got.1 e) ∙ ap (λ fs. frame n bytes ∷ fs) g.1)
    ]) refl

-- a part of a frame contains no frame
part_none : (x y : List ℕ) → 0 < length y → IsPiece (x ++ y) → frames x ≡ []
part_none x y some whole = search (rules, cases_lt, cut_none, lt-leb, size_stays, length-append)

-- If two lists together are empty, both are.
none_before : {A : Type 0} (x y : List A) → x ++ y ≡ [] → (x ≡ []) × (y ≡ [])
none_before [] y e = (refl, e)
none_before (a ∷ x) y e = (cc, cc)

-- a prefix of the bytes of events has a prefix of their frames
pub frames_prefix : {E : Type 0} (events : List (Event E)) (bytes back : List ℕ) → AreWhole (frames_in events)
    → bytes ++ back ≡ bytes_sent events → (others : List (List ℕ)) × (frames_in events ≡ frames bytes ++ others)
frames_prefix [] bytes back whole e = search (rules, none_before, append-nil)
frames_prefix (Emitted s ∷ events) bytes back whole e = frames_prefix events bytes back whole e
frames_prefix (Frame f ∷ events) bytes back whole e = elim (cases_lt (length bytes) (length f)) [
  | inl lt ↦
      let split : f ≡ bytes ++ drop (length bytes) f =
      sym (take-append-drop (length bytes) f) ∙ ap (λ x. x ++ drop (length bytes) f)
      (sym (take-append-le (length bytes) f (bytes_sent events) (omega arith))
      ∙ (search (rules, take-append-le, take_all))) in
      let rest : 0 < length (drop (length bytes) f) = search (rules, length-append) in
      let none = part_none bytes (drop (length bytes) f) rest (subst IsPiece split whole.0.piece) in
      (f ∷ frames_in events, ap (λ x. x ++ f ∷ frames_in events) (sym none))
  | inr ge ↦
      let prefix : take (length f) bytes ≡ f = sym (take-append-le (length f) bytes back ge)
      ∙ (search (rules, take-append-le, take_all)) in
      let split : bytes ≡ f ++ drop (length f) bytes =
      sym (take-append-drop (length f) bytes) ∙ ap (λ x. x ++ drop (length f) bytes) prefix in
      let later : drop (length f) bytes ++ back ≡ bytes_sent events =
      sym (drop-append-le (length f) bytes back ge)
      ∙ (search (rules, drop-append-le, drop_all)) in
      let inner = frames_prefix events (drop (length f) bytes) back whole.1 later in search (rules, frame_first)
]

-- the events of a run that broke off send a prefix of the bytes
begun_prefix : {E : Type 0} (IsPartOfEvent : E → E → Type 0) (begun later : List (Event E))
    → IsPartOfFirst IsPartOfEvent begun later → IsBytePrefixOf (bytes_sent begun) (bytes_sent later)
begun_prefix IsPartOfEvent [] later part = (bytes_sent later, refl)
begun_prefix IsPartOfEvent (Frame x ∷ []) (Frame y ∷ later) part =
    search (rules, append-nil x, append_assoc x part.0 (bytes_sent later))
begun_prefix IsPartOfEvent (Emitted x ∷ []) (Emitted y ∷ later) part = (bytes_sent later, refl)
begun_prefix IsPartOfEvent begun later part = absurd part

-- The events of a run that is shown in part.
pub shown_prefix : {E : Type 0} (IsPartOfEvent : E → E → Type 0) (shown events : List (Event E))
    → IsPrefixOfEvents IsPartOfEvent shown events → IsBytePrefixOf (bytes_sent shown) (bytes_sent events)
shown_prefix IsPartOfEvent shown events f = search (rules, begun_prefix, bytes_append, append_assoc)

module _ {E R : Type 0} (d : Dialog E R) (n : ℕ) (p : Programmer) (fates : List Fate) (w : WiredState)
    (asks : SendsValidBodies d) (lawful : AreLawful fates) (keeps : FollowsFates p fates w)
    (half_duplex : InTurn d (progress_at n []) w.transcript) where
  -- what was sent is a prefix of what the run over what was received sends
  abbrev SendsFirst : Type 0
  SendsFirst = IsBytePrefixOf (sent w.transcript) (bytes_sent (played d n (heard w.transcript)).events)

  -- How many frames were sent.
  abbrev count : ℕ
  count = length (frames (sent w.transcript))

  -- The dialog goes along the exchanges of the wire's fates.
  pub goes_along : SendsFirst → GoesOver device d n (fresh_wire p fates) (frames (sent w.transcript)) p
      (exchanges_of_fates fates)
  goes_along prefix =
      let f = frames_prefix (played d n (heard w.transcript)).events (sent w.transcript) prefix.0
      (sends_whole d n (heard w.transcript) asks) prefix.1 in
      let g = played_goes d n (heard w.transcript) w.waits in
      over_wire device replies_fit_frames d n (fresh_wire p fates) (frames (sent w.transcript)) (f.0 ++ g.0) asks
      (none_clear n) lawful (search (rules, never_idle, append_assoc))

  -- the programmer is where the link leads it
  pub stands_along : SendsFirst → w.wire.programmer
      ≡ (state_after device count d p (exchanges_of_fates fates)).programmer
  stands_along prefix = ap (λ x. x.programmer) keeps.stands ∙ (goes_along prefix).programmer

  -- a whole run has the same output and the same result there
  module _ (events : List (Event E)) (r : R) (after : Progress)
      (plays : Plays d (progress_at n []) w.transcript events r after) (prefix : SendsFirst) where
    -- The run over the tape is the run along the exchanges.
    over : played_along device count d n p (exchanges_of_fates fates) []
        ≡ record { events = events; outcome = Some (r, after.next, on_tape after.unread ++ w.waits) }
    over = search (rules, goes_along, never_idle)

    -- Its output is the same.
    pub whole_emitted : outputs events ≡ outputs_after device count d p (exchanges_of_fates fates)
    whole_emitted = search (rules, over, emitted_played)

    -- Its result is the same.
    pub whole_done : (state_after device count d p (exchanges_of_fates fates)).dialog ≡ Done r
    whole_done = search (rules, done_played, over)
