-- Texts that no clause knows, printed part by part.
use Rattle.std.proofs.lemmas.Grind.{common_steps}
use Rattle.std.proofs.Common.{◌≡◌, ◌∙◌, ◌<◌, ◌≤◌, ◌+◌, ◌*◌, ap, arith, ℕ, List, [], ◌∷◌, ◌++◌, take, drop, length, length-append, Result, Ok, Err, OnOk, OnErr, IfErr, codes, rules}
use Rattle.std.specs.List.{concat}
use Rattle.std.proofs.lemmas.List.{append_assoc, append-nil, take-append-drop}
use Rattle.std.proofs.lemmas.List.Folds.{concat-append}
use Rattle.avr_io.specs.Fault.{CountsFailure, CountsNeverFall, HasFailedAt, HasSameCounts}
use Rattle.avr_io.specs.Record.{Bytes, DeskState, ChangesRecord}
use Rattle.avr_io.specs.Stream.{SendsPart, after_sent}
use Rattle.avr_io.specs.declared.desk.DeskFault.{DeskFault}
use Rattle.avr_io.specs.declared.desk.DeskFault.TheVariants.{Failed}
use Rattle.avr_io.specs.declared.stream.Stream.{Stream}
use Rattle.avr_io.specs.declared.stream.Stream.TheVariants.{Messages}
use Rattle.avr_io.proofs.Lines.SentBytes.{sent_next}
use Rattle.avr_tool.specs.Texts.{HasParts, Parts, PrintsText, ReportsText}

-- After some rounds of the loop `count` bytes of the text were printed
pub record HasPrinted (has : Parts) (stream : Stream) (old new : DeskState) (count rounds : ℕ) : Type 0 where
  pub parts : List Bytes
  pub are : HasParts has 0 parts
  pub counted : count ≡ length (concat parts)
  pub least : rounds ≤ count
  pub most : count ≤ 512 * rounds
  pub kept : ChangesRecord (after_sent stream (concat parts)) old new
  pub same : HasSameCounts old new

-- Before the first round nothing was printed.
pub printed_none : (has : Parts) (s : Stream) (v : DeskState) → HasPrinted has s v v 0 0
printed_none has s v = search rules

-- The parts printed, and the next one, are parts of the text.
parts_more : (has : Parts) (place : ℕ) (parts : List Bytes) (n : ℕ) (part : Bytes) → HasParts has place parts
    → n ≡ place + length (concat parts) → has n part → HasParts has place (parts ++ part ∷ [])
parts_more has place [] n part are is given = search rules
parts_more has place (p ∷ parts) n part are is given =
    search (rules, parts, length-append, parts_more has (place + length p) parts n part are.1)

-- One more part adds its bytes.
concat_more : (parts : List Bytes) (part : Bytes) → concat (parts ++ part ∷ []) ≡ concat parts ++ part
concat_more parts part = concat-append parts (part ∷ []) ∙ ap (λ (x : Bytes). concat parts ++ x) (append-nil part)

-- One more part adds the number of its bytes.
length_more : (parts : List Bytes) (part : Bytes)
    → length (concat (parts ++ part ∷ [])) ≡ length (concat parts) + length part
length_more parts part = ap length (concat_more parts part) ∙ length-append (concat parts) part

-- One more round prints one more part.
pub printed_more : (has : Parts) (s : Stream) (a b c : DeskState) (part : Bytes) (n m rounds : ℕ)
    → HasPrinted has s a b n rounds → has n part → m ≡ n + length part → 0 < length part → length part ≤ 512
    → ChangesRecord (after_sent s part) b c → HasSameCounts b c → HasPrinted has s a c m (rounds + 1)
printed_more has s a b c part n m rounds before given is some few kept same = record {
  parts = before.parts ++ part ∷ [];
  are = parts_more has 0 before.parts n part before.are (omega (arith, before.counted)) given;
  counted = omega (arith, is, before.counted, length_more before.parts part);
  least = omega (arith, is, before.least, some);
  most = omega (arith, is, before.most, few);
  kept = search (rules, sent_next, concat_more);
  same = (same.0 ∙ before.same.0, same.1 ∙ before.same.1);
}

-- If a round broke off after a prefix of its part, the text was printed up to there.
pub printed_part : (has : Parts) (s : Stream) (a b c : DeskState) (part : Bytes) (n rounds : ℕ) (fault : DeskFault)
    → HasPrinted has s a b n rounds → has n part → SendsPart s b c part → HasFailedAt s b c
    → CountsNeverFall b c → PrintsText has s a c (Err fault)
printed_part has s a b c part n rounds fault before given sent failed follows = record {
  text = concat before.parts ++ take sent.0 part;
  kept = sent_next s a.kept b.kept c.kept (concat before.parts) (take sent.0 part) before.kept sent.2;
  comes = (
    (
      before.parts ++ part ∷ [],
      parts_more has 0 before.parts n part before.are (omega (arith, before.counted)) given,
      (drop sent.0 part, (search (rules, append_assoc, take-append-drop, concat_more))),
    ),
    (search rules),
  );
  follows = (omega (arith, before.same.0, follows.0), omega (arith, before.same.1, follows.1));
}

-- ---- an error whose text no clause knows

-- If the text broke off, the error was reported up to there.
pub partly_reported : (has : Parts) (a b c : DeskState) (fault : DeskFault)
    → ChangesRecord (after_sent Messages (codes "avrstk: error: ")) a b → HasSameCounts a b
    → PrintsText has Messages b c (Err fault) → ReportsText has a c
partly_reported has a b c fault mark same prints = grind (arith, common_steps)

-- If the text was printed, the error was reported, whether LF was printed or not.
pub reported_by : (has : Parts) (a b c d : DeskState) (count : ℕ) (r : Result (Unit {0}) DeskFault)
    → ChangesRecord (after_sent Messages (codes "avrstk: error: ")) a b → HasSameCounts a b
    → PrintsText has Messages b c (Ok count) → OnOk r (ChangesRecord (after_sent Messages (10 ∷ [])) c d)
    → OnErr r (SendsPart Messages c d (10 ∷ [])) → CountsFailure Messages c d r → IfErr r (λ e. e ≡ Failed)
    → ReportsText has a d
reported_by has a b c d count r mark same prints all part counts fault = grind (arith, common_steps)
