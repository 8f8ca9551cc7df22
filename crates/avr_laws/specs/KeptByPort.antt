-- THE PROMISE OF THE PROGRAM: what status 0 means, by the port that the command line names.
use Rattle.std.specs.Prelude.{◌≡◌, ◌⊎◌, true, List, [], ◌∷◌, ◌++◌, Option, Some}
use Rattle.clap.specs.Words.{matches_of, takes}
use Rattle.avr_plan.specs.Command.{avrstk}
use Rattle.avr_plan.specs.declared.settings.Port.{Port}
use Rattle.avr_plan.specs.declared.settings.Port.TheVariants.{Stdio, Emulated, Network, Served}
use Rattle.avr_plan.specs.declared.settings.Settings.{Settings}
use Rattle.avr_io.specs.Record.{Bytes, Record, all_uses, openings_among, with_replaced}
use Rattle.avr_io.specs.declared.record.Opening.{Opening}
use Rattle.avr_laws.specs.AskedPlan.{IsAsked, WasOpened}
use Rattle.avr_laws.specs.AskedSettings.{AsksFor, AsksToServe}
use Rattle.avr_laws.specs.ChipFound.{AreInFile, file_of_memories}
use Rattle.avr_laws.specs.FilesRead.{read_whole}
use Rattle.avr_laws.specs.Kept.{Keeps}
use Rattle.avr_plan.specs.Plan.{Plan}
use Rattle.stk_emu.specs.Effect.{Memories}
use Rattle.stk_host.specs.Transcript.{LinkState, Transcript}

-- The plan was kept for the chip whose memories were found in the chip file; without a file the chip is a new one. The
-- last use in the record is this file, put there whole with the memories after the run. The record doesn't show whether
-- the file was created or replaced.
pub record IsKeptInFile (file : Bytes) (found : Option Bytes) (plan : Plan) (old new : Record) : Type 0 where
  pub before : Memories
  pub after : Memories
  pub ended : Record
  pub was : AreInFile plan.part found before
  pub keeps : Keeps plan before after old ended
  pub saved : new ≡ with_replaced file (file_of_memories after) ended

-- The settings and the files that were opened ask for a plan, and this holds of it. Those files and then `more` are all
-- that was opened, in order.
abbrev pub KeepsPlan : Settings → Record → Record → List Opening → (Plan → Type 0) → Type 0
KeepsPlan settings old new more IsSo =
    (plan : Plan) × (opened : List Opening)
    × (openings_among (all_uses new) ≡ openings_among (all_uses old) ++ (opened ++ more))
    × IsAsked settings WasOpened opened plan × IsSo plan

-- What happened to the one connection to this address: a link over it has this state, or there was none.
abbrev pub ConnectionState : Type 1
ConnectionState = Bytes → Option LinkState → Type 0

-- The plan was kept, by what `Kept` says: over standard streams and over a connection to the address, by what passed
-- over the link; over the emulator, by its chip file, which was opened last. At another port nothing passed over
-- standard streams. The settings of a run name no service.
abbrev pub KeepsPlanAt : (Plan → Transcript → Record → Record → Type 0) → ConnectionState → Port → Settings
    → Transcript → Record → Record → Type 0
KeepsPlanAt Kept At Stdio settings passed old new = KeepsPlan settings old new [] (λ plan. Kept plan passed old new)
KeepsPlanAt Kept At (Network address) settings passed old new =
    (passed ≡ []) × ((link : LinkState) × At address (Some link)
    × KeepsPlan settings old new [] (λ plan. Kept plan link.transcript old new))
KeepsPlanAt Kept At (Emulated file) settings passed old new =
    (passed ≡ []) × ((found : Option Bytes)
    × KeepsPlan settings old new (read_whole file found ∷ []) (λ plan. IsKeptInFile file found plan old new))
KeepsPlanAt Kept At (Served port file) settings passed old new = ⊥

-- WHAT STATUS 0 MEANS, by what passed over standard streams and by the desk's records. If the command line asks for a
-- run, and not for help, its plan was kept. If it asks for a service, there is no plan, and
-- nothing passed over standard streams.
abbrev pub KeepsCommandLine : (Plan → Transcript → Record → Record → Type 0) → (List Bytes → Type 0)
    → ConnectionState → Transcript → Record → Record → Type 0
KeepsCommandLine Kept AreWords At passed old new =
    (words : List Bytes) × AreWords words
    × (takes avrstk words ≡ true
    → (AsksToServe (matches_of avrstk words) × (passed ≡ []))
    ⊎ ((settings : Settings) × AsksFor (matches_of avrstk words) settings
    × KeepsPlanAt Kept At settings.port settings passed old new))
