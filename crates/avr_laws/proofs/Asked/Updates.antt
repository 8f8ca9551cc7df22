-- The updates that texts ask for, if their reader finds no fault.
use Rattle.std.proofs.Common.{◌≡◌, ◌∙◌, ◌⊎◌, ◌+◌, ◌<◌, ◌≤◌, ◌==◌, ◌++◌, inl, inr, refl, sym, ap, cond, Bool, true, false, ℕ, suc, List, [], ◌∷◌, length, rules, find, Option, Some, None, Result, Ok, Err, unwrap_or, ok_or, bytes_eq}
use Rattle.std.specs.Prelude.{if◌then◌else◌}
use Rattle.std.specs.Option.{option_map_or}
use Rattle.std.specs.Result.{result_map_both}
use Rattle.std.proofs.lemmas.Bool.{cases_Bool}
use Rattle.std.proofs.lemmas.Bool.Decides.{nat_tests}
use Rattle.std.proofs.lemmas.Slice.Eq.{bytes_eq-Decides}
use Rattle.avr_part.specs.Mem.{all_memories, name_of, memory_named}
use Rattle.avr_part.specs.PartFile.{Bytes, ◌>>=◌}
use Rattle.avr_part.specs.declared.part.Mem.{Mem}
use Rattle.avr_part.specs.declared.part.Mem.TheVariants.{Flash}
use Rattle.avr_plan.proofs.UpdatesReread.{file_and_letter-append}
use Rattle.avr_plan.specs.Settings.{updates_from, updates_of}
use Rattle.avr_plan.specs.Split.{colon, split_first}
use Rattle.avr_plan.specs.Update.{file_and_letter, format_of, op_name, op_named, update_after, update_by, update_of}
use Rattle.avr_plan.specs.declared.update.Format.{Format}
use Rattle.avr_plan.specs.declared.update.Op.{Op}
use Rattle.avr_plan.specs.declared.update.Op.TheVariants.{Write}
use Rattle.avr_plan.specs.declared.settings.SettingsFault.{SettingsFault}
use Rattle.avr_plan.specs.declared.settings.SettingsFault.TheVariants.{BadUpdate}
use Rattle.avr_plan.specs.declared.update.Update.{Update}
use Rattle.avr_plan.specs.declared.update.UpdateFault.{UpdateFault}
use Rattle.avr_plan.specs.declared.update.UpdateFault.TheVariants.{BadMemory, BadOp, BadFormat, NoFile}
use Rattle.avr_laws.proofs.Asked.Cuts.{cut_at_some_colon, first_cut, letter_is, no_letter_follows, no_letter_read, colonless}
use Rattle.avr_laws.specs.AskedSettings.{AskForUpdates, AsksForUpdate}

-- ---- an update

-- what is found passes the test
passing : {X : Type 0} (test : X → Bool) (xs : List X) (x : X) → find test xs ≡ Some x → test x ≡ true
passing test [] x is = absurd (cc is)
passing {X} test (y ∷ xs) x is = elim (cases_Bool (test y)) [
  | inl passes ↦
      let same : ◌≡◌ {A = Option X} (Some y) (Some x) =
      sym (ap (λ (b : Bool). cond b (Some y) (find test xs)) passes) ∙ is in
      let here : y ≡ x = cc same in
      ap test (sym here) ∙ passes
  | inr fails ↦ passing test xs x (sym (ap (λ (b : Bool). cond b (Some y) (find test xs)) fails) ∙ is)
]

-- a memory that is read has this name
memory_is : (name : Bytes) (mem : Mem) → memory_named name ≡ Some mem → name ≡ name_of mem
memory_is name mem is =
    sym ((bytes_eq-Decides (name_of mem) name).0 (passing (λ (m : Mem). bytes_eq (name_of m) name) all_memories mem is))

-- an operation that is read has this letter
op_is : (name : Bytes) (op : Op) → op_named name ≡ Some op → name ≡ op_name op
op_is name op is = search (rules, bytes_eq-Decides, cases_Bool)

-- what an update is made of
record IsMade (mem : Mem) (op : Op) (named : Bytes × Option ℕ) (u : Update) : Type 0 where
  memory : u.memory ≡ mem
  op_same : u.op ≡ op
  file : u.file ≡ named.0
  format : format_of op named.1 ≡ Some u.format
  some : 0 < length named.0

-- an update that is read is made of these
is_made : (mem : Mem) (op : Op) (named : Bytes × Option ℕ) (u : Update) → update_by mem op named ≡ Ok u
    → IsMade mem op named u
is_made mem op named u is = by (length named.0 == 0) (format_of op named.1) refl refl is
  where
    by : (empty : Bool) (format : Option Format) → (length named.0 == 0) ≡ empty → format_of op named.1 ≡ format
        → (if empty then Err NoFile else ok_or format BadFormat)
        >>= (λ format. Ok (record { memory = mem; op = op; format = format; file = named.0 })) ≡ Ok u
        → IsMade mem op named u
    by true format empty given is = absurd (cc is)
    by false None empty given is = absurd (cc is)
    by false (Some format) empty given is = search rules

-- an operation, a colon and the file
record IsAfter (mem : Mem) (rest : Bytes) (u : Update) : Type 0 where
  op : Op
  file_part : Bytes
  cut : rest ≡ op_name op ++ colon ∷ file_part
  is : update_by mem op (file_and_letter file_part) ≡ Ok u

-- what follows the memory's name: an operation, and then the file
after_op : (mem : Mem) (rest : Bytes) (u : Update) → update_after mem rest ≡ Ok u → IsAfter mem rest u
after_op mem rest u is = by (split_first rest) refl is
  where
    named : (name file_part : Bytes) (o : Option Op) → op_named name ≡ o
        → ok_or o BadOp >>= (λ op. update_by mem op (file_and_letter file_part)) ≡ Ok u
        → (op : Op) × (name ≡ op_name op) × (update_by mem op (file_and_letter file_part) ≡ Ok u)
    named name file_part None given is = absurd (cc is)
    named name file_part (Some op) given is = (op, op_is name op given, is)

    by : (cut : Option (Bytes × Bytes)) → split_first rest ≡ cut → ok_or (op_named (unwrap_or cut (rest, [])).0) BadOp
        >>= (λ op. update_by mem op (file_and_letter (unwrap_or cut (rest, [])).1)) ≡ Ok u → IsAfter mem rest u
    by None cut is =
        let o = named rest [] (op_named rest) refl is in
        let clash : ◌≡◌ {A = Result Update UpdateFault} (Err NoFile) (Ok u) = o.2 in
        absurd (cc clash)
    by (Some (a, b)) cut is =
        let o = named a b (op_named a) refl is in
        search (rules, first_cut)

-- a memory, a colon, an operation, a colon and the file
record IsCut (text : Bytes) (u : Update) : Type 0 where
  mem : Mem
  op : Op
  file_part : Bytes
  cut : text ≡ name_of mem ++ colon ∷ (op_name op ++ colon ∷ file_part)
  is : update_by mem op (file_and_letter file_part) ≡ Ok u

-- an update has a memory and an operation before its file, or it is a file alone
cut_is : (text : Bytes) (u : Update) → update_of text ≡ Ok u
    → IsCut text u ⊎ ((split_first text ≡ None) × (update_by Flash Write (text, None) ≡ Ok u))
cut_is text u is = by (split_first text) refl is
  where
    named : (name after : Bytes) (o : Option Mem) → memory_named name ≡ o
        → ok_or o BadMemory >>= (λ memory. update_after memory after) ≡ Ok u
        → (mem : Mem) × (name ≡ name_of mem) × (update_after mem after ≡ Ok u)
    named name after None given is = absurd (cc is)
    named name after (Some mem) given is = (mem, memory_is name mem given, is)

    by : (cut : Option (Bytes × Bytes)) → split_first text ≡ cut
        → option_map_or (λ parts. ok_or (memory_named parts.0) BadMemory >>= (λ memory. update_after memory parts.1))
        cut
        (update_by Flash Write (text, None)) ≡ Ok u
        → IsCut text u ⊎ ((split_first text ≡ None) × (update_by Flash Write (text, None) ≡ Ok u))
    by None cut is = inr (cut, is)
    by (Some (a, b)) cut is =
        let m = named a b (memory_named a) refl is in
        let o = after_op m.0 b u m.2 in
        search (rules, first_cut)

-- a text with all parts asks for its update
of_cut : (text : Bytes) (u : Update) (c : IsCut text u) (named : Bytes × Option ℕ)
    → file_and_letter c.file_part ≡ named → IsMade c.mem c.op named u → AsksForUpdate text u
of_cut text u c named is m = search (rules, letter_is, no_letter_follows)

-- so does a file alone
of_file_alone : (text : Bytes) (u : Update) → split_first text ≡ None → update_by Flash Write (text, None) ≡ Ok u
    → AsksForUpdate text u
of_file_alone text u no_colon is = search (rules, nat_tests, cut_at_some_colon)

-- an update that is read is the one that the text asks for
pub update_is : (text : Bytes) (u : Update) → update_of text ≡ Ok u → AsksForUpdate text u
update_is text u is = elim (cut_is text u is) [
  | inl c ↦ of_cut text u c (file_and_letter c.file_part) refl (is_made c.mem c.op (file_and_letter c.file_part) u c.is)
  | inr (none, by) ↦ of_file_alone text u none by
]

-- the memory and the operation are read before the file
head_read : (mem : Mem) (op : Op) (rest : Bytes)
    → update_of (name_of mem ++ colon ∷ (op_name op ++ colon ∷ rest)) ≡ update_by mem op (file_and_letter rest)
head_read mem op rest = search rules

-- then the file and its format are
file_part_read : (mem : Mem) (op : Op) (file : Bytes) (letter : Option ℕ) (format : Format) → 0 < length file
    → format_of op letter ≡ Some format
    → update_by mem op (file, letter) ≡ Ok (record { memory = mem; op = op; format = format; file = file })
file_part_read mem op file letter format some is = search (rules, nat_tests)

-- and conversely
pub update_read : (text : Bytes) (u : Update) → AsksForUpdate text u → update_of text ≡ Ok u
update_read text u e = search (rules, head_read, file_and_letter-append, file_part_read, no_letter_read, colonless)

-- ---- all updates

-- one more update
one_more : (n : ℕ) (text : Bytes) (texts : List Bytes) (first : Result Update UpdateFault)
    (more : Result (List Update) SettingsFault) (us : List Update) → update_of text ≡ first
    → ((us : List Update) → more ≡ Ok us → AskForUpdates texts us)
    → result_map_both (λ update. update) (BadUpdate n) first
    >>= (λ update. more >>= (λ updates. Ok (update ∷ updates))) ≡ Ok us → AskForUpdates (text ∷ texts) us
one_more n text texts first more us given are is = search (rules, update_is)

-- the updates that are read are those that the texts ask for
updates_are : (n : ℕ) (texts : List Bytes) (us : List Update) → updates_from n texts ≡ Ok us → AskForUpdates texts us
updates_are n [] us is = search rules
updates_are n (text ∷ texts) us is =
    one_more n text texts (update_of text) (updates_from (n + 1) texts) us refl (updates_are (n + 1) texts) is

-- and conversely
updates_read : (n : ℕ) (texts : List Bytes) (us : List Update) → AskForUpdates texts us → updates_from n texts ≡ Ok us
updates_read n [] [] are = refl
updates_read n (text ∷ texts) (u ∷ us) are =
    search (rules, update_read text u are.0, updates_read (n + 1) texts us are.1)
updates_read n texts us are = absurd are

-- they are as many as the texts
as_many : (texts : List Bytes) (us : List Update) → AskForUpdates texts us → length texts ≡ length us
as_many [] [] are = refl
as_many (text ∷ texts) (u ∷ us) are = ap suc (as_many texts us are.1)
as_many texts us are = absurd are

-- at most 16 are read
pub all_are : (texts : List Bytes) (us : List Update) → updates_of texts ≡ Ok us
    → AskForUpdates texts us × (length us ≤ 16)
all_are texts us is = search (rules, nat_tests, updates_are, as_many)

-- and conversely
pub all_read : (texts : List Bytes) (us : List Update) → AskForUpdates texts us → length us ≤ 16 → updates_of texts ≡ Ok us
all_read texts us are few = search (rules, nat_tests, updates_read, as_many)
