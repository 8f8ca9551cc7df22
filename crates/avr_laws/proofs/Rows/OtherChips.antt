-- Programmers other than the emulated one that keep the table as far as a sheet vouches for it. The chip of one has a
-- calibration of its own, so it doesn't keep the whole table. The extended fuse of another keeps five bits. A third
-- refuses each second command.
use Rattle.std.proofs.Common.{◌≡◌, ◌⊎◌, ◌∙◌, ℕ, List, [], ◌∷◌, refl, sym, ap, subst, Bool, true, Option, Some, None, rules}
use Rattle.std.specs.Prelude.{◌==◌, ◌&&◌, bit_or, slice_index, if◌then◌else◌}
use Rattle.avr_part.specs.declared.part.Mem.{Mem}
use Rattle.avr_part.specs.declared.part.Mem.TheVariants.{Efuse}
use Rattle.avr_part.specs.Part.{Part, IsPart}
use Rattle.stk_emu.specs.Device.{Device, device}
use Rattle.stk_emu.specs.Effect.{Memories, effects}
use Rattle.stk_emu.specs.Programmer.{Programmer}
use Rattle.stk_emu.specs.Settled.{FitsPart}
use Rattle.stk_frame.specs.declared.command.Fuse.TheVariants.{Low, High, Extended}
use Rattle.avr_laws.specs.EmulatedStates.{HasEmptyBuffers, HasPart, chip_memories}
use Rattle.avr_laws.specs.Sheet.{IsVouched}
use Rattle.avr_laws.specs.Table.{IsDoneOrNot, IsLoaded, IsProgrammer, RefusesRow, IsRow, Row, Stands, addressed, enter_body, leave_body, load_body, sign_on_body, ErasesChip, WritesFlashPage, WritesEepromRun, WritesFuse, WritesLock, ReadsFlash, ReadsEeprom, ReadsFuse, ReadsLock, ReadsSignature, ReadsCalibration}
use Rattle.avr_laws.proofs.Table.Emulated.{emulated_meets, row_is_done}

-- ---- one that does as the emulated one, as far as it is vouched for

abbrev SameReply : Device Programmer → List ℕ → Type 0
SameReply m bytes = (q : Programmer) → m.reply bytes q ≡ device.reply bytes q

abbrev SameAfter : Device Programmer → List ℕ → Type 0
SameAfter m bytes = (q : Programmer) → m.after bytes q ≡ device.after bytes q

module _ (m : Device Programmer) (loads : (a : ℕ) → SameReply m (load_body a) × SameAfter m (load_body a))
    (resets : (q : Programmer) → m.reset q ≡ device.reset q) where
  -- after LOAD_ADDRESS both are the same
  same_place : (address : Option ℕ) (p : Programmer) → addressed m address p ≡ addressed device address p
  same_place None p = refl
  same_place (Some a) p = (loads a).1 p

  -- both have loaded the address, or neither
  same_loaded : (address : Option ℕ) (p : Programmer) → IsLoaded m address p → IsLoaded device address p
  same_loaded address p loaded = search rules

  module _ (part : Part) (row : Row) (p : Programmer) (reply : SameReply m row.command)
      (after : SameAfter m row.command)
    where
      -- after the row's command both are the same
      same_end : m.after row.command (addressed m row.address p)
          ≡ device.after row.command (addressed device row.address p)
      same_end = ap (λ q. m.after row.command q) (same_place row.address p) ∙ after (addressed device row.address p)

      -- a row that one refuses the other refuses
      same_refused : (q : Programmer) → RefusesRow device chip_memories (HasEmptyBuffers part) row q
          → RefusesRow m chip_memories (HasEmptyBuffers part) row q
      same_refused q refused = record {
        kept = subst (Stands chip_memories (HasEmptyBuffers part) (chip_memories q)) (sym (after q)) refused.kept;
        bad = λ read long e. refused.bad read long (sym (reply q) ∙ e);
      }

      -- also after a restart
      same_restarted : (device.reset p ≡ p)
          ⊎ RefusesRow device chip_memories (HasEmptyBuffers part) row (device.reset p)
          → (m.reset p ≡ p) ⊎ RefusesRow m chip_memories (HasEmptyBuffers part) row (m.reset p)
      same_restarted e = search (rules, same_refused)

      -- so a row is done, or not at all
      same_done : IsDoneOrNot device chip_memories (HasEmptyBuffers part) part row p
          → IsDoneOrNot m chip_memories (HasEmptyBuffers part) part row p
      same_done d = record {
        loaded = subst (Stands chip_memories (HasEmptyBuffers part) (chip_memories p)) (sym (same_place row.address p))
            d.loaded;
        either = λ loaded. subst (λ q. Stands chip_memories (HasEmptyBuffers part) (chip_memories p) q
            ⊎ Stands chip_memories (HasEmptyBuffers part) (effects part row.writes (chip_memories p)) q) (sym same_end)
            (d.either (same_loaded row.address p loaded));
        good = λ loaded read long e.
            let g = d.good (same_loaded row.address p loaded) read long
            (sym (reply (addressed device row.address p))
            ∙ (ap (λ q. m.reply row.command q) (sym (same_place row.address p)) ∙ e)) in (
              g.0,
              subst (Stands chip_memories (HasEmptyBuffers part) (effects part row.writes (chip_memories p)))
                  (sym same_end) g.1,
            );
        restarted = λ a is. same_restarted (d.restarted a is);
      }

  -- so it keeps the rows that are vouched for
  pub does_as_emulated : (part : Part) → IsPart part → (Vouched : (row : Row) → IsRow part row → Memories → Type 0)
      → SameAfter m sign_on_body → SameReply m enter_body → SameAfter m enter_body → SameAfter m leave_body
      → ((row : Row) (is : IsRow part row) (x : Memories) → Vouched row is x
      → SameReply m row.command × SameAfter m row.command)
      → IsProgrammer part m chip_memories (HasPart part) (HasEmptyBuffers part) Vouched
  does_as_emulated part sound Vouched signs enter_reply enters leaves rows =
      let t = emulated_meets part sound Vouched in
      record {
        signs_on = search rules;
        enters = λ p i. subst (Stands chip_memories (HasPart part) (chip_memories p)) (sym (enters p)) (t.enters p i);
        leaves = λ p i. subst (Stands chip_memories (HasPart part) (chip_memories p)) (sym (leaves p)) (t.leaves p i);
        restarts = λ p i. subst (Stands chip_memories (HasPart part) (chip_memories p)) (sym (resets p))
            (t.restarts p i);
        entered = λ p i e. subst (HasEmptyBuffers part) (sym (enters p)) (t.entered p i (sym (enter_reply p) ∙ e));
        ready_in = t.ready_in;
        entered_again = λ p s. subst (HasEmptyBuffers part) (sym (enters p)) (t.entered_again p s);
        restarted = λ p s. subst (HasEmptyBuffers part) (sym (resets p)) (t.restarted p s);
        rows = λ row p is v f s.
            let same = rows row is (chip_memories p) v in
            same_done part row p same.0 same.1 (row_is_done part sound row p is f s);
      }

-- ---- a chip with this calibration

abbrev pub calibrated : ℕ → Device Programmer
calibrated byte = record {
  reply = λ bytes p. if slice_index bytes 0 == 0x1C then (if p.mode then 0x1C ∷ 0 ∷ byte ∷ 0 ∷ [] else 0x1C ∷ 0xC0 ∷ [])
      else device.reply bytes p;
  after = device.after;
  reset = device.reset;
}

-- ---- a chip whose extended fuse keeps bits 3 to 7 at 1

abbrev pub kept_bits : Mem → ℕ → ℕ
kept_bits Efuse byte = bit_or byte 0xF8
kept_bits mem byte = byte

-- the byte that is written
abbrev with_bits : List ℕ → List ℕ
with_bits (c ∷ i ∷ a ∷ z ∷ byte ∷ []) =
    if c == 0x17 && a == 0xA4 then c ∷ i ∷ a ∷ z ∷ kept_bits Efuse byte ∷ [] else c ∷ i ∷ a ∷ z ∷ byte ∷ []
with_bits bytes = bytes

abbrev written_bits : List ℕ → List ℕ
written_bits bytes = if slice_index bytes 0 == 0x17 then with_bits bytes else bytes

abbrev pub keeping_bits : Device Programmer
keeping_bits = record {
  reply = λ bytes p. device.reply (written_bits bytes) p;
  after = λ bytes p. device.after (written_bits bytes) p;
  reset = device.reset;
}

module _ (part : Part) (sound : IsPart part) where
  abbrev Same : Device Programmer → Row → Type 0
  Same m row = SameReply m row.command × SameAfter m row.command

  by_row : (m : Device Programmer) (row other : Row) → row ≡ other → Same m other → Same m row
  by_row m row other e same = subst (Same m) (sym e) same

  module _ (becomes : Mem → ℕ → ℕ) (byte : ℕ) where
    -- it does each row that is vouched for as the emulated one
    calibrated_does : (row : Row) (is : IsRow part row) (x : Memories) → IsVouched becomes part row is x
        → Same (calibrated byte) row
    calibrated_does row is x v = search (rules, by_row)

    -- so it keeps these rows
    pub calibrated_keeps : IsProgrammer part (calibrated byte) chip_memories (HasPart part) (HasEmptyBuffers part)
        (IsVouched becomes part)
    calibrated_keeps = search (rules, does_as_emulated, calibrated_does)

  -- it does each row that is vouched for as the emulated one
  bits_do : (row : Row) (is : IsRow part row) (x : Memories) → IsVouched kept_bits part row is x → Same keeping_bits row
  bits_do row (ErasesChip e) x v = by_row keeping_bits row _ e (λ q. refl, λ q. refl)
  bits_do row (WritesFlashPage page bytes whole inside e) x v = by_row keeping_bits row _ e (λ q. refl, λ q. refl)
  bits_do row (WritesEepromRun start bytes some within inside e) x v = by_row keeping_bits row _ e
      (λ q. refl, λ q. refl)
  bits_do row (WritesFuse Low b e) x v = by_row keeping_bits row _ e (λ q. refl, λ q. refl)
  bits_do row (WritesFuse High b e) x v = by_row keeping_bits row _ e (λ q. refl, λ q. refl)
  bits_do row (WritesFuse Extended b e) x v = by_row keeping_bits row _ e (
    λ q. ap (λ (byte : ℕ). device.reply (0x17 ∷ 0xAC ∷ 0xA4 ∷ 0 ∷ byte ∷ []) q) v,
    λ q. ap (λ (byte : ℕ). device.after (0x17 ∷ 0xAC ∷ 0xA4 ∷ 0 ∷ byte ∷ []) q) v,
  )
  bits_do row (WritesLock b e) x v = by_row keeping_bits row _ e (λ q. refl, λ q. refl)
  bits_do row (ReadsFlash start count some few inside even evens e) x v = by_row keeping_bits row _ e
      (λ q. refl, λ q. refl)
  bits_do row (ReadsEeprom start count some few inside e) x v = by_row keeping_bits row _ e (λ q. refl, λ q. refl)
  bits_do row (ReadsFuse fuse e) x v = by_row keeping_bits row _ e (λ q. refl, λ q. refl)
  bits_do row (ReadsLock e) x v = by_row keeping_bits row _ e (λ q. refl, λ q. refl)
  bits_do row (ReadsSignature place few e) x v = by_row keeping_bits row _ e (λ q. refl, λ q. refl)
  bits_do row (ReadsCalibration e) x v = absurd v

  -- so it keeps these rows
  pub bits_keep : IsProgrammer part keeping_bits chip_memories (HasPart part) (HasEmptyBuffers part)
      (IsVouched kept_bits part)
  bits_keep = search (rules, does_as_emulated, bits_do)

-- with a calibration other than FF it doesn't keep the whole table: its row reads FF in each chip
pub not_whole : (part : Part) (byte : ℕ) (p : Programmer) → p.mode ≡ true → HasEmptyBuffers part p
    → FitsPart part (chip_memories p) → (byte ≡ 255 → ⊥)
    → IsProgrammer part (calibrated byte) chip_memories (HasPart part) (HasEmptyBuffers part) (λ row is x. Unit {0}) → ⊥
not_whole part byte p in_mode ready sizes other keeps =
    let d = keeps.rows _ p (ReadsCalibration refl) tt sizes ready in
    let read = d.good tt (byte ∷ []) refl (ap (λ (b : Bool). if b then 0x1C ∷ 0 ∷ byte ∷ 0 ∷ []
    else 0x1C ∷ 0xC0 ∷ []) in_mode) in
    other (ap (λ (xs : List ℕ). slice_index xs 0) read.0)
