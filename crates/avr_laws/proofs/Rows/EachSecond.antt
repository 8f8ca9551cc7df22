-- A programmer that refuses each second command keeps the table, if it otherwise does as one that keeps it. A refused
-- LOAD_ADDRESS leaves the address of an earlier one.
use Rattle.std.proofs.Common.{◌≡◌, ◌⊎◌, inl, inr, ℕ, List, [], ◌∷◌, length, refl, ap, arith, Bool, true, false, Option, Some, None}
use Rattle.std.specs.Prelude.{slice_index}
use Rattle.avr_part.specs.Part.{Part}
use Rattle.stk_emu.specs.Device.{Device}
use Rattle.stk_emu.specs.Effect.{Memories, effects}
use Rattle.avr_laws.specs.Table.{IsDoneOrNot, IsLoaded, IsProgrammer, RefusesRow, IsRow, Row, Stands, addressed, enter_body, load_body, ErasesChip, WritesFlashPage, WritesEepromRun, WritesFuse, WritesLock, ReadsFlash, ReadsEeprom, ReadsFuse, ReadsLock, ReadsSignature, ReadsCalibration}

-- the second byte of a good reply is 0
good_status : (part : Part) (row : Row) → IsRow part row → (read : List ℕ) → slice_index (row.reply read) 1 ≡ 0
good_status part row (ErasesChip e) read = ap (λ (r : Row). slice_index (r.reply read) 1) e
good_status part row (WritesFlashPage page bytes whole inside e) read = ap (λ (r : Row). slice_index (r.reply read) 1) e
good_status part row (WritesEepromRun start bytes some within inside e) read =
    ap (λ (r : Row). slice_index (r.reply read) 1) e
good_status part row (WritesFuse fuse b e) read = ap (λ (r : Row). slice_index (r.reply read) 1) e
good_status part row (WritesLock b e) read = ap (λ (r : Row). slice_index (r.reply read) 1) e
good_status part row (ReadsFlash start count some few inside even evens e) read =
    ap (λ (r : Row). slice_index (r.reply read) 1) e
good_status part row (ReadsEeprom start count some few inside e) read = ap (λ (r : Row). slice_index (r.reply read) 1) e
good_status part row (ReadsFuse fuse e) read = ap (λ (r : Row). slice_index (r.reply read) 1) e
good_status part row (ReadsLock e) read = ap (λ (r : Row). slice_index (r.reply read) 1) e
good_status part row (ReadsSignature place few e) read = ap (λ (r : Row). slice_index (r.reply read) 1) e
good_status part row (ReadsCalibration e) read = ap (λ (r : Row). slice_index (r.reply read) 1) e

-- the reply to a command that is refused
abbrev refusing : List ℕ → List ℕ
refusing bytes = slice_index bytes 0 ∷ 0xC0 ∷ []

module _ {P : Type 0} (m : Device P) (view : P → Memories) (IsIn IsReady : P → Type 0) where
  abbrev Q : Type 0
  Q = P × Bool

  abbrev reply_of : List ℕ → P → Bool → List ℕ
  reply_of bytes p true = refusing bytes
  reply_of bytes p false = m.reply bytes p

  abbrev after_of : List ℕ → P → Bool → Q
  after_of bytes p true = (p, false)
  after_of bytes p false = (m.after bytes p, true)

  -- if the flag is set, the next command is refused
  abbrev pub each_second : Device Q
  each_second = record {
    reply = λ bytes z. reply_of bytes z.0 z.1;
    after = λ bytes z. after_of bytes z.0 z.1;
    reset = λ z. (m.reset z.0, z.1);
  }

  abbrev pub view_of : Q → Memories
  view_of z = view z.0

  abbrev pub In : Q → Type 0
  In z = IsIn z.0

  abbrev pub Ready : Q → Type 0
  Ready z = IsReady z.0

  -- what the table says of a row, with the address apart
  record RowAt {R : Type 0} (d : Device R) (see : R → Memories) (Is : R → Type 0) (part : Part) (row : Row)
      (address : Option ℕ) (p : R) : Type 0 where
    loaded : Stands see Is (see p) (addressed d address p)
    either : IsLoaded d address p → Stands see Is (see p) (d.after row.command (addressed d address p))
        ⊎ Stands see Is (effects part row.writes (see p)) (d.after row.command (addressed d address p))
    good : IsLoaded d address p → (read : List ℕ) → length read ≡ row.count
        → d.reply row.command (addressed d address p) ≡ row.reply read → (read ≡ row.reads (see p))
        × Stands see Is (effects part row.writes (see p)) (d.after row.command (addressed d address p))
    restarted : (a : ℕ) → address ≡ Some a → (d.reset p ≡ p) ⊎ RefusesRow d see Is row (d.reset p)

  module _ (part : Part) (row : Row) (is : IsRow part row) (p : P) where
    -- a refusal is no good reply
    never : (read : List ℕ) → refusing row.command ≡ row.reply read → ⊥
    never read e =
        let status : 0xC0 ≡ slice_index (row.reply read) 1 = ap (λ (bytes : List ℕ). slice_index bytes 1) e in
        let good = good_status part row is read in omega (arith, status, good)

    -- refused by the flag, and by the programmer itself
    refused_now : (q : P) → IsReady q → RefusesRow each_second view_of Ready row (q, true)
    refused_now q ready = record {
      kept = record { memories = refl; is = ready };
      bad = λ read long e. never read e;
    }

    refused_then : (q : P) → RefusesRow m view IsReady row q → RefusesRow each_second view_of Ready row (q, false)
    refused_then q refused = record {
      kept = record { memories = refused.kept.memories; is = refused.kept.is };
      bad = refused.bad;
    }

    -- after a restart, by the flag
    by_restart : (flag : Bool) → IsReady (m.reset p) → (m.reset p ≡ p) ⊎ RefusesRow m view IsReady row (m.reset p)
        → (each_second.reset (p, flag) ≡ (p, flag)) ⊎ RefusesRow each_second view_of Ready row (m.reset p, flag)
    by_restart true ready r = inr (refused_now (m.reset p) ready)
    by_restart false ready (inl same) = inl (ap (λ (q : P). (q, false)) same)
    by_restart false ready (inr refused) = inr (refused_then (m.reset p) refused)

    -- a programmer that stands so, with any flag
    stands_with_flag : (x : Memories) (q : P) (flag : Bool) → Stands view IsReady x q → Stands view_of Ready x (q, flag)
    stands_with_flag x q flag stands = record { memories = stands.memories; is = stands.is }

    -- by the row's address, and the flag
    row_at : (address : Option ℕ) (flag : Bool) → IsReady p → IsReady (m.reset p)
        → RowAt m view IsReady part row address p → RowAt each_second view_of Ready part row address (p, flag)
    row_at None true ready restarted d = record {
      loaded = record { memories = refl; is = ready };
      either = λ loaded. inl (record { memories = refl; is = ready });
      good = λ loaded read long e. absurd (never read e);
      restarted = λ a e. absurd (cc e);
    }
    row_at None false ready restarted d = record {
      loaded = record { memories = refl; is = ready };
      either = λ loaded. elim (d.either loaded) [
        | inl kept ↦ inl (stands_with_flag (view p) (m.after row.command p) true kept)
        | inr changed ↦ inr (stands_with_flag (effects part row.writes (view p)) (m.after row.command p) true changed)
      ];
      good = λ loaded read long e.
          let g = d.good loaded read long e in
          (g.0, stands_with_flag (effects part row.writes (view p)) (m.after row.command p) true g.1);
      restarted = λ a e. absurd (cc e);
    }
    row_at (Some a) true ready restarted d = record {
      loaded = record { memories = refl; is = ready };
      either = λ loaded. absurd (let no : 0xC0 ≡ 0 = ap (λ (bytes : List ℕ). slice_index bytes 1) loaded in
          omega (arith, no));
      good = λ loaded read long e. absurd (let no : 0xC0 ≡ 0 = ap (λ (bytes : List ℕ). slice_index bytes 1) loaded in
          omega (arith, no));
      restarted = λ b e. by_restart true restarted (d.restarted b e);
    }
    row_at (Some a) false ready restarted d = record {
      loaded = stands_with_flag (view p) (m.after (load_body a) p) true d.loaded;
      either = λ loaded. inl (stands_with_flag (view p) (m.after (load_body a) p) false d.loaded);
      good = λ loaded read long e. absurd (never read e);
      restarted = λ b e. by_restart false restarted (d.restarted b e);
    }

    -- so a row is done or not, with any flag
    pub row_done : (flag : Bool) → IsReady p → IsReady (m.reset p) → IsDoneOrNot m view IsReady part row p
        → IsDoneOrNot each_second view_of Ready part row (p, flag)
    row_done flag ready restarted d =
        let z = row_at row.address flag ready restarted (record {
          loaded = d.loaded;
          either = d.either;
          good = d.good;
          restarted = d.restarted;
        }) in
        record { loaded = z.loaded; either = z.either; good = z.good; restarted = z.restarted }

  module _ (part : Part) (Vouched : (row : Row) → IsRow part row → Memories → Type 0)
      (t : IsProgrammer part m view IsIn IsReady Vouched) where
    -- a command that keeps the memories does so with any flag
    kept_with_flag : (bytes : List ℕ) (p : P) (flag : Bool) → IsIn p → Stands view IsIn (view p) (m.after bytes p)
        → Stands view_of In (view p) (after_of bytes p flag)
    kept_with_flag bytes p true is_in stands = record { memories = refl; is = is_in }
    kept_with_flag bytes p false is_in stands = record { memories = stands.memories; is = stands.is }

    -- entering programming mode
    entered_with_flag : (p : P) (flag : Bool) → IsIn p → reply_of enter_body p flag ≡ 0x10 ∷ 0 ∷ []
        → Ready (after_of enter_body p flag)
    entered_with_flag p true is_in is = absurd
        (let no : 0xC0 ≡ 0 = ap (λ (bytes : List ℕ). slice_index bytes 1) is in omega (arith, no))
    entered_with_flag p false is_in is = t.entered p is_in is

    entered_again : (p : P) (flag : Bool) → IsReady p → Ready (after_of enter_body p flag)
    entered_again p true s = s
    entered_again p false s = t.entered_again p s

    -- so this programmer keeps the table, too
    pub each_second_keeps : IsProgrammer part each_second view_of In Ready Vouched
    each_second_keeps = record {
      signs_on = λ z i. kept_with_flag _ z.0 z.1 i (t.signs_on z.0 i);
      enters = λ z i. kept_with_flag _ z.0 z.1 i (t.enters z.0 i);
      leaves = λ z i. kept_with_flag _ z.0 z.1 i (t.leaves z.0 i);
      restarts = λ z i. record { memories = (t.restarts z.0 i).memories; is = (t.restarts z.0 i).is };
      entered = λ z i e. entered_with_flag z.0 z.1 i e;
      ready_in = λ z s. t.ready_in z.0 s;
      entered_again = λ z s. entered_again z.0 z.1 s;
      restarted = λ z s. t.restarted z.0 s;
      rows = λ row z is v f s. row_done part row is z.0 z.1 s (t.restarted z.0 s) (t.rows row z.0 is v f s);
    }
