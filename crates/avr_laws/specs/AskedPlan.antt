-- The plan that settings and files ask for, and the openings of files that it takes, in order.
use Rattle.std.specs.Prelude.{◌≡◌, ◌≤◌, ℕ, List, [], ◌∷◌, ◌++◌, find, length, Option, Some, None, true}
use Rattle.avr_plan.specs.declared.settings.Settings.{Settings}
use Rattle.avr_plan.specs.declared.update.Format.{Format}
use Rattle.avr_plan.specs.declared.update.Format.TheVariants.{Immediate}
use Rattle.avr_plan.specs.declared.update.Op.TheVariants as op
use Rattle.avr_plan.specs.declared.update.Update.{Update}
use Rattle.avr_io.specs.Record.{Bytes}
use Rattle.avr_io.specs.declared.record.Opening.{Opening}
use Rattle.avr_io.specs.declared.record.Opening.TheVariants.{Found}
use Rattle.avr_part.specs.BuiltIn.{built_in_parts, has_id}
use Rattle.avr_part.specs.Part.{Part, size_of}
use Rattle.avr_laws.specs.HeldImage.{HoldsImageAs, HoldsValues}
use Rattle.avr_laws.specs.HeldParts.{HoldsParts}
use Rattle.avr_plan.specs.ImageFile.{kind_of}
use Rattle.avr_plan.specs.Plan.{Plan}
use Rattle.avr_plan.specs.declared.planned.Task.{Task}
use Rattle.avr_plan.specs.declared.planned.Task.TheVariants as task

-- The text under each name; `-` is standard input.
abbrev pub Files : Type 0
Files = Bytes → Option Bytes

-- A relation: reading this name gives this whole text, by these openings.
abbrev pub GivesText : Type 1
GivesText = Bytes → Bytes → List Opening → Type 0

-- The files hold the text. This names no opening.
abbrev pub FileHolds : Files → GivesText
FileHolds files name text opened = (files name ≡ Some text) × (opened ≡ [])

-- The file of this name was opened once and read to its end, and gave this text. No other file was opened.
abbrev pub WasOpened : GivesText
WasOpened name text opened = opened ≡ Found (record { name = name; bytes = text; ended = true }) ∷ []

-- The image of an update: the values on the command line, for which no file is opened, or what its file holds in its
-- format, if it isn't too long.
abbrev pub HasImage : GivesText → Bytes → Format → ℕ → List (Option ℕ) → List Opening → Type 0
HasImage Gives name Immediate size image opened = HoldsValues name size image × (opened ≡ [])
HasImage Gives name format size image opened =
    (text : Bytes) × Gives name text opened × (length text ≤ 4194304)
    × HoldsImageAs (kind_of format text) text size image

-- The task of this update. For a memory that is read no file is opened.
abbrev pub IsTaskOf : GivesText → Part → Update → Task → List Opening → Type 0
IsTaskOf Gives part u (task.Write mem image) opened =
    (u.op ≡ op.Write) × (u.memory ≡ mem) × HasImage Gives u.file u.format (size_of mem part) image opened
IsTaskOf Gives part u (task.Verify mem image) opened =
    (u.op ≡ op.Verify) × (u.memory ≡ mem) × HasImage Gives u.file u.format (size_of mem part) image opened
IsTaskOf Gives part u (task.Read mem format name) opened =
    (u.op ≡ op.Read) × (u.memory ≡ mem) × (u.format ≡ format) × (u.file ≡ name) × (opened ≡ [])

-- One task for each update, in order. The openings are those of the tasks, in this order.
abbrev pub AreTasksOf : GivesText → Part → List Update → List Task → List Opening → Type 0
AreTasksOf Gives part [] [] opened = opened ≡ []
AreTasksOf Gives part (u ∷ updates) (task ∷ tasks) opened =
    (its rest : List Opening) × (opened ≡ its ++ rest) × IsTaskOf Gives part u task its
    × AreTasksOf Gives part updates tasks rest
AreTasksOf Gives part updates tasks opened = ⊥

-- The parts of a part file, if one is named. Without one no file is opened.
abbrev pub ArePartsOf : GivesText → Option Bytes → List Part → List Opening → Type 0
ArePartsOf Gives None parts opened = (parts ≡ []) × (opened ≡ [])
ArePartsOf Gives (Some name) parts opened = (text : Bytes) × Gives name text opened × HoldsParts text parts

-- THE PLAN that these settings and these files ask for. First the part file was opened, then the files of the updates.
pub record IsAsked (settings : Settings) (Gives : GivesText) (opened : List Opening) (plan : Plan) : Type 0 where
  pub parts : List Part
  pub first : List Opening
  pub rest : List Opening
  pub in_order : opened ≡ first ++ rest
  pub are_parts : ArePartsOf Gives settings.parts parts first
  pub part : find (has_id settings.part) (parts ++ built_in_parts) ≡ Some plan.part
  pub tasks : AreTasksOf Gives plan.part settings.updates plan.tasks rest
  pub switches : plan.switches ≡ settings.switches
