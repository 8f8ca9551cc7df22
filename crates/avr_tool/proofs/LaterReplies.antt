-- Replies to bytes after others.
use Rattle.std.proofs.Common.{◌≡◌, ℕ, ◌<◌, ◌≤◌, List, [], ◌∷◌, ◌++◌, length, sym, ap, ◌∙◌, append_assoc, rules}
use Rattle.std.specs.Prelude.{filter}
use Rattle.std.proofs.lemmas.List.{append-nil}
use Rattle.std.proofs.lemmas.List.Elements.{filter-append}
use Rattle.stk_frame.specs.Cut.{cut, rest, frames, is_frame}
use Rattle.stk_frame.proofs.Cuts.{cut_append}
use Rattle.stk_host.specs.Play.{IsBytePrefixOf}
use Rattle.stk_host.specs.Reach.{SendsOnlyPart}
use Rattle.stk_host.specs.Tape.{Tape}
use Rattle.stk_host.specs.Transcript.{Transcript, Got, NoneTaken, sent}
use Rattle.stk_host.proofs.Transcripts.Laws.{sent_append, none_behind}
use Rattle.stk_emu.specs.Programmer.{Programmer}
use Rattle.stk_emu.specs.Device.{device, replies, after_frames}
use Rattle.stk_emu.specs.Emulator.{EmulatorState, WasFedText, RepliesToFrame, emulate}
use Rattle.stk_emu.proofs.Replies.Texts.{replies_append, frames_fed, is_fed, emulated}
use Rattle.avr_tool.specs.Serving.{RepliesToAll, LastReplyFailed}

-- Before any byte no reply is due.
pub all_nothing : (p : Programmer) (text : List ℕ) (machine : EmulatorState) → WasFedText p text machine
    → RepliesToAll p text [] [] machine
all_nothing p text machine f = search (rules, append-nil)

-- what the emulator returns for one call
pub all_fed : (p : Programmer) (text used out : List ℕ) (old now : EmulatorState) → RepliesToFrame old used now out
    → WasFedText p text old → RepliesToAll p text used out now
all_fed p text used out old now a f = search (rules, is_fed, emulated)

-- The replies to bytes, and then those to more bytes, are the replies to both.
pub all_more : (p : Programmer) (text a x b y : List ℕ) (mid now : EmulatorState) → RepliesToAll p text a x mid
    → RepliesToAll p (text ++ a) b y now → RepliesToAll p text (a ++ b) (x ++ y) now
all_more p text a x b y mid now first then = search (rules, append_assoc)

-- The replies to the first bytes were sent; the last reply to the next bytes failed.
pub breaks_more : (p : Programmer) (text a b : List ℕ) (x y : Transcript) (mid now : EmulatorState)
    → RepliesToAll p text a (sent x) mid
    → LastReplyFailed p (text ++ a) b y now → LastReplyFailed p text (a ++ b) (x ++ y) now
breaks_more p text a b x y mid now first then = search (rules, append_assoc, sent_append, none_behind)

-- What was received later changes nothing of that.
pub breaks_got : (p : Programmer) (text bytes : List ℕ) (tape : Tape) (transcript : Transcript) (now : EmulatorState)
    → LastReplyFailed p text bytes transcript now → LastReplyFailed p text bytes (Got tape ∷ transcript) now
breaks_got p text bytes tape transcript now b = search rules

-- a reply whose send failed belongs to a frame, the last that was fed
breaks_found : (p : Programmer) (text used unused part unsent : List ℕ) (transcript : Transcript) (now : EmulatorState)
    (found : List (List ℕ)) → length found ≤ 1 → frames (text ++ used) ≡ frames text ++ found
    → part ++ unsent ≡ replies device found (after_frames device (frames text) p) → WasFedText p (text ++ used) now
    → 0 < length (part ++ unsent) → sent transcript ≡ part → (NoneTaken transcript → 0 < length unsent)
    → LastReplyFailed p text (used ++ unused) transcript now
breaks_found p text used unused part unsent transcript now [] few fs replied fed some is not_whole = search rules
breaks_found p text used unused part unsent transcript now (frame ∷ []) few fs replied fed some is not_whole =
    search (rules, append-nil)
breaks_found p text used unused part unsent transcript now (frame ∷ other ∷ more) few fs replied fed some is
    not_whole = search rules

-- The send of a reply failed at once, after the reply was due.
pub breaks_here : (p : Programmer) (text used unused out : List ℕ) (a b : Transcript) (old now : EmulatorState)
    → RepliesToFrame old used now out → WasFedText p text old → (s : SendsOnlyPart out a b)
    → LastReplyFailed p text (used ++ unused) s.during now
breaks_here p text used unused out b c old now a f s =
    breaks_found p text used unused s.part s.unsent s.during now a.found a.few
    (frames_fed old.held used now.held a.found text a.fed a.are_frames f.stands)
    (sym s.bytes_are ∙ (a.replied ∙ ap (replies device a.found) f.executed)) (is_fed old now used out p text a f)
    (rw (← s.bytes_are) s.some) s.bytes_sent s.not_whole

-- the replies to a prefix are a prefix of the replies
replies_prefix : (p : Programmer) (x y : List ℕ) → IsBytePrefixOf (emulate p x) (emulate p (x ++ y))
replies_prefix p x y =
    let later : List (List ℕ) = filter is_frame (cut (rest x ++ y)) in
    let all : frames (x ++ y) ≡ frames x ++ later =
    ap (filter is_frame) (cut_append x y) ∙ filter-append is_frame (cut x) (cut (rest x ++ y)) in
    (_, sym (ap (λ fs. replies device fs p) all ∙ replies_append device (frames x) later p))

-- If the last reply failed, a prefix of all replies was sent.
pub breaks_prefix : (p : Programmer) (text bytes : List ℕ) (transcript : Transcript) (now : EmulatorState)
    → LastReplyFailed p text bytes transcript now
    → IsBytePrefixOf (emulate p text ++ sent transcript) (emulate p (text ++ bytes))
breaks_prefix p text bytes transcript now b =
    let prefix = replies_prefix p (text ++ b.used) b.unused in
    search (rules, replies_append, append-nil, append_assoc)
