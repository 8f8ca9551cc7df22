-- Noise that can't be taken for a reply, bodies of frames, and late replies that can't be taken for another reply.
use Rattle.std.specs.Prelude.{ℕ, zero, suc, List, [], ◌++◌, ◌<◌, ◌≤◌, ◌≡◌, ◌⊎◌, length, filter}
use Rattle.stk_emu.specs.declared.fate.TheConstants.{LARGEST_NOISE}
use Rattle.stk_frame.specs.declared.protocol.TheConstants.{LARGEST_BODY}
use Rattle.stk_frame.specs.Frame.{frame}
use Rattle.stk_frame.specs.Cut.{cut, is_good}
use Rattle.stk_host.specs.Dialog.{next}

-- At most 2,048 bytes without a good frame.
pub record IsLawful (noise : List ℕ) : Type 0 where
  pub few : length noise ≤ LARGEST_NOISE
  pub no_frame : filter is_good (cut noise) ≡ []

-- A body that a frame can carry: 1 to 275 bytes.
pub record IsFrameBody (body : List ℕ) : Type 0 where
  pub some : 0 < length body
  pub few : length body ≤ LARGEST_BODY

-- The last three late replies, in order; an absent one is empty.
pub record Late : Type 0 where
  pub first : List ℕ
  pub second : List ℕ
  pub third : List ℕ

abbrev pub no_late_replies : Late
no_late_replies = record { first = []; second = []; third = [] }

-- One more reply; a fourth one drops the first.
abbrev pub with_late_reply : Late → List ℕ → Late
with_late_reply late reply = record { first = late.second; second = late.third; third = reply }

-- All late replies, joined in order.
abbrev pub waiting : Late → List ℕ
waiting late = late.first ++ (late.second ++ late.third)

-- The sequence number of the frame `k` later.
abbrev pub later : ℕ → ℕ → ℕ
later zero n = n
later (suc k) n = next (later k n)

-- One whole good frame, whose number is `k` before `n`.
pub record IsEarlierReply (k n : ℕ) (late : List ℕ) : Type 0 where
  pub seq : ℕ
  pub before : later k seq ≡ n
  pub bytes : List ℕ
  pub carried : IsFrameBody bytes
  pub is : late ≡ frame seq bytes

-- Nothing, or the reply to the frame `k` before.
abbrev pub IsEmptyOrEarlier : ℕ → ℕ → List ℕ → Type 0
IsEmptyOrEarlier k n late = (late ≡ []) ⊎ IsEarlierReply k n late

-- The late replies are those to the last three frames before frame `n`, so none has its sequence number.
pub record NoneHasNumber (n : ℕ) (late : Late) : Type 0 where
  pub first : IsEmptyOrEarlier 3 n late.first
  pub second : IsEmptyOrEarlier 2 n late.second
  pub third : IsEmptyOrEarlier 1 n late.third
