-- What holds where a call over a link ended.
use Rattle.std.proofs.Common.{ℕ, List, rules, []}
use Rattle.stk_emu.specs.Exchange.{Exchange, first_exchange}
use Rattle.stk_host.specs.Dialog.{Dialog, Event, played, bytes_sent}
use Rattle.std.proofs.lemmas.List.{append-nil}
use Rattle.stk_host.specs.Transcript.{Transcript, sent, heard}
use Rattle.stk_host.specs.Play.{Progress, progress_at, Plays, IsBytePrefixOf}
use Rattle.avr_tool.proofs.Sure.Good.{IsSteady, AreSteady}

-- a whole run sends all bytes of what it sends over what was received
pub plays_prefix : {E R : Type 0} (d : Dialog E R) (n : ℕ) (transcript : Transcript) (events : List (Event E)) (r : R)
    (after : Progress) → Plays d (progress_at n []) transcript events r after
    → IsBytePrefixOf (sent transcript) (bytes_sent (played d n (heard transcript)).events)
plays_prefix d n transcript events r after plays =
    search (rules, append-nil (sent transcript), append-nil (heard transcript))

-- the first of steady exchanges is steady
pub first_steady : (exchanges : List Exchange) → AreSteady exchanges → IsSteady (first_exchange exchanges)
first_steady exchanges s = search rules
