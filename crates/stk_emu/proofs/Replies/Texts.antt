-- Replies to a text that is fed piece by piece.
use Rattle.std.proofs.lemmas.Grind.{common_steps}
use Rattle.std.proofs.Common.{◌≡◌, ℕ, ◌+◌, List, [], ◌∷◌, ◌++◌, ◌<◌, ◌≤◌, length, take, drop, refl, sym, append_assoc, arith, length-drop, rules}
use Rattle.std.specs.Prelude.{filter}
use Rattle.std.proofs.lemmas.List.{append-nil}
use Rattle.std.proofs.lemmas.List.Elements.{filter-append}
use Rattle.std.proofs.Math.Seq.{take-add}
use Rattle.stk_frame.specs.declared.reader.Event.{Event}
use Rattle.stk_frame.specs.declared.reader.Event.TheVariants.{More}
use Rattle.stk_frame.specs.Cut.{frames, is_frame}
use Rattle.stk_frame.specs.Reader.{HoldsFrame, MayHaveBeenFed, Fed, EventMatchesHeld, frames_of_event}
use Rattle.stk_emu.specs.Programmer.{Programmer}
use Rattle.stk_emu.specs.Device.{Device, device, replies, after_frames, after_frame}
use Rattle.stk_emu.specs.Emulator.{EmulatorState, WasFedText, RepliesToFrame, AppendsReplies, emulate}

pub replies_append : {P : Type 0} (m : Device P) (xs ys : List (List ℕ)) (p : P)
    → replies m (xs ++ ys) p ≡ replies m xs p ++ replies m ys (after_frames m xs p)
replies_append m [] ys p = refl
replies_append m (x ∷ xs) ys p = search (rules, append_assoc, replies_append m xs ys (after_frame m x p))

pub after_more : {P : Type 0} (m : Device P) (xs ys : List (List ℕ)) (p : P)
    → after_frames m (xs ++ ys) p ≡ after_frames m ys (after_frames m xs p)
after_more m [] ys p = refl
after_more m (x ∷ xs) ys p = after_more m xs ys (after_frame m x p)

-- an event of the reader gives at most one frame
pub found_frames : (event : Event) (held : List ℕ) → EventMatchesHeld event held
    → filter is_frame (frames_of_event event held) ≡ frames_of_event event held
found_frames event held is_reported = search rules

pub found_few : (event : Event) (held : List ℕ) → length (frames_of_event event held) ≤ 1
found_few event held = search rules

-- a reply belongs to a frame that has arrived whole
pub reply_ends : (event : Event) (held out : List ℕ) (p : Programmer) → EventMatchesHeld event held
    → out ≡ replies device (frames_of_event event held) p → 0 < length out → HoldsFrame held
reply_ends event held out p is_reported e some = search rules

-- the frames of a text with these bytes after it
pub frames_fed : (old used new : List ℕ) (fs : List (List ℕ)) (text : List ℕ) → Fed old used new fs
    → filter is_frame fs ≡ fs → MayHaveBeenFed old text → frames (text ++ used) ≡ frames text ++ fs
frames_fed old used new fs text fed are stands = search (rules, filter-append)

-- without a reply no frame ended
pub none_found : (event : Event) (held : List ℕ) (p : Programmer) → replies device (frames_of_event event held) p ≡ []
    → event ≡ More
none_found event held p e = search rules

pub appends_none : (machine : EmulatorState) (before : List ℕ) → AppendsReplies machine [] machine before before
appends_none machine before = search rules

-- the replies of one call, appended
pub appends_one : (old new : EmulatorState) (used out before after : List ℕ) → RepliesToFrame old used new out
    → after ≡ before ++ out → AppendsReplies old used new before after
appends_one old new used out before after a is = grind (arith, common_steps)

-- after the first `n` bytes, `used` more
pub appends_on : (bytes : List ℕ) (n used : ℕ) (old mid new : EmulatorState) (a b c : List ℕ)
    → AppendsReplies old (take n bytes) mid a b → AppendsReplies mid (take used (drop n bytes)) new b c
    → AppendsReplies old (take (n + used) bytes) new a c
appends_on bytes n used old mid new a b c f then = search (rules, take-add, append_assoc, replies_append, after_more)

pub appends_fed : (old new : EmulatorState) (bytes a b : List ℕ) (p : Programmer) (text : List ℕ)
    → AppendsReplies old bytes new a b → WasFedText p text old → WasFedText p (text ++ bytes) new
appends_fed old new bytes a b p text appends f = search (rules, after_more)

-- a list of all replies stays one
pub appends_all : (old new : EmulatorState) (bytes a b : List ℕ) (p : Programmer) (text given : List ℕ)
    → AppendsReplies old bytes new a b → WasFedText p text old → given ++ a ≡ emulate p text
    → given ++ b ≡ emulate p (text ++ bytes)
appends_all old new bytes a b p text given appends f all = search (rules, append_assoc, replies_append)

pub is_fed : (old new : EmulatorState) (used out : List ℕ) (p : Programmer) (text : List ℕ)
    → RepliesToFrame old used new out → WasFedText p text old → WasFedText p (text ++ used) new
is_fed old new used out p text a f =
    appends_fed old new used [] out p text (appends_one old new used out [] out a refl) f

pub emulated : (old new : EmulatorState) (used out : List ℕ) (p : Programmer) (text : List ℕ)
    → RepliesToFrame old used new out → WasFedText p text old → emulate p (text ++ used) ≡ emulate p text ++ out
emulated old new used out p text a f =
    sym (appends_all old new used [] out p text (emulate p text) (appends_one old new used out [] out a refl) f
    (append-nil (emulate p text)))
