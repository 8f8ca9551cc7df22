-- A desk in memory: its record stays true of the files that it began with, call after call.
use Rattle.std.proofs.Common.{◌≡◌, sym, subst, arith, ℕ, ◌==◌, ◌&&◌, ◌||◌, not, Bool, false, List, [], ◌∷◌, ◌++◌, append_assoc, append-nil, take, drop, length, Some, None, min, if◌then◌else◌, rules}
use Rattle.std.proofs.Math.Seq.{drop-append_seam}
use Rattle.std.proofs.lemmas.Bool.Decides.{nat_tests}
use Rattle.std.proofs.lemmas.Grind.{common_steps}
use Rattle.std.proofs.lemmas.List.{take-append-drop}
use Rattle.ghosts.specs.Preserves.{Preserves}
use Rattle.avr_desk.specs.Memory.{MemDeskState, Stock, contents, updated}
use Rattle.avr_io.specs.Named.{bytes_given}
use Rattle.avr_io.specs.Record.{Bytes, all_uses, files_among, noted, with_absent, with_open, with_replaced, written_on}
use Rattle.avr_desk.proofs.FileUses.Uses.{files_used}
use Rattle.avr_desk.specs.Truth.{IsReadPrefix, OpeningsAreTrue, HoldsTrue}
use Rattle.avr_io.specs.declared.record.FileUse.{FileUse}
use Rattle.avr_io.specs.declared.record.FileUse.TheVariants.{Opened, Created}
use Rattle.avr_io.specs.declared.record.Open.TheVariants.{ToRead, ToWrite}
use Rattle.avr_io.specs.declared.record.Reading.{Reading}
use Rattle.avr_io.specs.declared.record.Writing.{Writing}

-- ---- two lists of uses

-- later uses are true, by the files of both
pub true_append : (stock : Stock) (made : List Writing) (first last : List FileUse) → OpeningsAreTrue stock made first
    → OpeningsAreTrue stock (made ++ files_among first) last → OpeningsAreTrue stock made (first ++ last)
true_append stock made [] last are behind = subst (λ fs. OpeningsAreTrue stock fs last) (append-nil made) behind
true_append stock made (Opened opening ∷ first) last are behind =
    (are.0, true_append stock made first last are.1 behind)
true_append stock made (Created file ∷ first) last are behind =
    true_append stock (made ++ file ∷ []) first last are
    (subst (λ fs. OpeningsAreTrue stock fs last) (sym (append_assoc made (file ∷ []) (files_among first))) behind)

-- the later uses were true, by the files of both
pub true_behind : (stock : Stock) (made : List Writing) (first last : List FileUse)
    → OpeningsAreTrue stock made (first ++ last) → OpeningsAreTrue stock (made ++ files_among first) last
true_behind stock made [] last are = subst (λ fs. OpeningsAreTrue stock fs last) (sym (append-nil made)) are
true_behind stock made (Opened opening ∷ first) last are = true_behind stock made first last are.1
true_behind stock made (Created file ∷ first) last are =
    grind (arith, nat_tests, true_behind stock (made ++ file ∷ []) first last are, append_assoc)

-- so all openings were true, by the files that had been made
pub all_true : (stock : Stock) (m : MemDeskState) → HoldsTrue stock m → OpeningsAreTrue stock [] (all_uses m.kept)
all_true stock m holds = search (rules, true_append)

-- ---- one call

-- the same uses and open file
pub same_true : (old new : MemDeskState) → new.input ≡ old.input → new.stored ≡ old.stored → new.opened ≡ old.opened
    → new.kept.uses ≡ old.kept.uses → new.kept.current ≡ old.kept.current → Preserves HoldsTrue old new
same_true old new input stored opened uses current = search rules

-- a file was created, empty
pub created_true : (name : Bytes) (old new : MemDeskState)
    → new ≡ updated (with_open (ToWrite (record { name = name; bytes = [] })) old.kept) old new
    → Preserves HoldsTrue old new
created_true name old new is = search (rules, all_true)

-- a file was replaced with these bytes
pub replaced_true : (name bytes : Bytes) (old new : MemDeskState)
    → new ≡ updated (with_replaced name bytes old.kept) old new → Preserves HoldsTrue old new
replaced_true name bytes old new is = search (rules, all_true, true_append)

-- no file had this name, so nothing was opened
pub absent_true : (name : Bytes) (old new : MemDeskState) → contents name old ≡ None
    → new ≡ record (updated (with_absent name old.kept) old new) { opened = new.opened }
    → Preserves HoldsTrue old new
absent_true name old new none is = search (rules, all_true, true_append, files_used)

-- a file with these bytes is opened
pub opened_true : (name : Bytes) (old new : MemDeskState) → contents name old ≡ Some new.opened
    → new ≡ record (updated (with_open (ToRead (record { name = name; bytes = []; ended = false })) old.kept) old new)
    { opened = new.opened } → Preserves HoldsTrue old new
opened_true name old new there is = search (rules, all_true, files_used)

-- the state that a desk shows is the one inside
pub from_inside : (inside now new : MemDeskState) → inside ≡ now → Preserves HoldsTrue inside new
    → Preserves HoldsTrue now new
from_inside inside now new is stays = rw (← is) stays

-- bytes of the open file are read, or its end is seen, which needs room in the buffer
module _ (old new : MemDeskState) (ends : Bool) (n room : ℕ) (whole gave piece : Bytes) (whole_is : whole ≡ old.opened)
    (gave_is : gave ≡ bytes_given old.kept.current) (count : n ≡ min room (length (drop (length gave) whole)))
    (took : piece ≡ take n (drop (length gave) whole)) (ended : ends ≡ (n == 0 && not (room == 0)))
    (input : new.input ≡ old.input) (stored : new.stored ≡ old.stored) (opened : new.opened ≡ old.opened) where
  -- what the open file has given is still a prefix of it
  prefix_on : (x : Reading) → bytes_given old.kept.current ≡ x.bytes → IsReadPrefix (Some old.opened) x.bytes x.ended
      → IsReadPrefix (Some old.opened) (x.bytes ++ piece) (x.ended || ends)
  prefix_on x given_is is =
      let rest : drop (length gave) whole ≡ is.unread = search (rules, drop-append_seam) in
      record {
        unread = drop n is.unread;
        whole = search (rules, take-append-drop, append_assoc);
        ends = grind (arith, nat_tests, common_steps);
      }

  -- so the record stays true after a read, and after one that failed for lack of memory
  pub read_true : (ok : Bool) → new.kept.uses ≡ old.kept.uses
      → new.kept.current ≡ (if ok then noted piece ends old.kept.current else old.kept.current) → new.opened
      ≡ old.opened → Preserves HoldsTrue old new
  read_true ok uses current same = search (rules, prefix_on)

-- bytes were written to the open file
pub written_true : (bytes : Bytes) (old new : MemDeskState) → new.input ≡ old.input → new.stored ≡ old.stored
    → new.opened ≡ old.opened
    → new.kept.uses ≡ old.kept.uses → new.kept.current ≡ written_on bytes old.kept.current → Preserves HoldsTrue old new
written_true bytes old new input stored opened uses current = search rules
