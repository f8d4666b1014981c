-- Why the program ends without its answer, and what it writes then.
use Rattle.std.specs.Prelude.{◌≡◌, ◌≢◌, ◌⊎◌, ℕ, ◌<◌, Bool, List, [], ◌∷◌, ◌++◌, Option, Some, None, option_map, Any, codes, length, filter, take, String, string_bytes}
use Rattle.std.specs.Io.KnownBytes.{Appends}
use Rattle.std.specs.declared.alloc.Global.{Global}
use Rattle.command_line.specs.Line.{is_component}
use Rattle.command_line.specs.declared.line.Action.{Action}
use Rattle.command_line.specs.declared.line.Action.TheVariants.{Build, Links, Audit}
use Rattle.command_line.specs.declared.line.Input.{Input as LineInput}
use Rattle.command_line.specs.declared.line.Input.TheVariants as inputs
use Rattle.command_line.specs.declared.line.Line.{Line}
use Rattle.command_line.specs.declared.line.LineFault.{LineFault}
use Rattle.command_line.specs.declared.line.LineFault.TheVariants as faults
use Rattle.component_session.specs.Refusals.{IsCause, IsBuildCause, IsAuditCause, IsModuleCause}
use Rattle.component_session.specs.Input.{Input}
use Rattle.component_session.specs.Faults.{code, name, place}
use Rattle.component_session.specs.declared.fault.Fault.{Fault}
use Rattle.component_session.specs.declared.fault.Fault.TheVariants as causes
use Rattle.component_session.specs.Coming.{ResolveErrorKind}
use Rattle.component_session.specs.Errors as errors
use Rattle.component_session.specs.Errors.{of_selection, span_of}
use Rattle.component_session.specs.Pushes.{Resolved, AreTextsPushed, AreTextsError, AreTextsKept}
use Rattle.wit_selection.specs.Selection.{IsSelectCause}
use Rattle.wit_selection.specs.declared.selection.SelectFault.{SelectFault}
use Rattle.wit_types.specs.declared.«package».PackageName.{PackageName}
use Rattle.wit_words.specs.Sources.{SourceText, IsLocation}
use Rattle.wit_words.specs.declared.source_map.Span.{Span}
use Rattle.component_linker.specs.Program.{Files, IsFile, input_fault, file_fault, opened, packages_of, text_or, HasComponent, Handed, IsAnswer, IsLineAnswer}
use Rattle.component_linker.specs.declared.program.Stop.{Stop}
use Rattle.component_linker.specs.declared.program.Stop.TheVariants as stops

-- ---- lines

abbrev pub memory_text : List ℕ
memory_text = codes "error: out of memory" ++ 10 ∷ []

abbrev pub usage_text : List ℕ
usage_text = codes "error: usage" ++ 10 ∷ []

abbrev pub file_text : List ℕ → List ℕ
file_text path = codes "error: file " ++ (path ++ 10 ∷ [])

-- `error: CODE NAME`, or `error: CODE NAME at PLACE`; want of memory has no code
abbrev pub refusal_text : Option (List ℕ) → List ℕ → Option (List ℕ) → List ℕ
refusal_text None name place = memory_text
refusal_text (Some code) name None = codes "error: " ++ (code ++ 32 ∷ (name ++ 10 ∷ []))
refusal_text (Some code) name (Some place) = codes "error: " ++ (code ++ 32 ∷ (name ++ (codes " at " ++ (place ++ 10 ∷ []))))

abbrev pub fault_text : Fault → List ℕ
fault_text fault = refusal_text (code fault) (name fault) (place fault)

abbrev pub error_text : ResolveErrorKind → Option (String Global) → List ℕ
error_text error place = refusal_text (errors.code error) (errors.name error) (option_map string_bytes place)

abbrev pub stop_text : Stop → List ℕ
stop_text (stops.Refused fault) = fault_text fault
stop_text (stops.Unresolved error place) = error_text error place
stop_text (stops.File path) = file_text path.now
stop_text stops.Usage = usage_text

-- why words are no line; clap's text stands as it is
abbrev pub line_fault_text : LineFault → List ℕ
line_fault_text (faults.Clap text) = string_bytes text
line_fault_text faults.Usage = usage_text
line_fault_text faults.OutOfMemory = memory_text

-- what a writer has more is a front of a text: a write to it may fail
abbrev pub AppendsFront : Option (List ℕ) → Option (List ℕ) → List ℕ → Type 0
AppendsFront old new text = (k : ℕ) × Appends old new (take k text)

-- what a writer has more is a front of a text, and not the whole of it
abbrev pub AppendsPart : Option (List ℕ) → Option (List ℕ) → List ℕ → Type 0
AppendsPart old new text = (k : ℕ) × (k < length text) × Appends old new (take k text)

-- what a writer has more is a part of such a text, whatever the exit status with the whole
abbrev pub WritesPart : (ℕ → List ℕ → Type 0) → Option (List ℕ) → Option (List ℕ) → Type 0
WritesPart IsWanted old new = (status : ℕ) × (text : List ℕ) × IsWanted status text × AppendsPart old new text

-- ---- stops

abbrev pub stop_status : Stop → ℕ
stop_status (stops.Refused fault) = 1
stop_status (stops.Unresolved error place) = 1
stop_status (stops.File path) = 3
stop_status stops.Usage = 2

-- the stop names a path of which this is so
abbrev pub IsFileStop : (List ℕ → Type 0) → Stop → Type 0
IsFileStop IsWanted (stops.Refused fault) = ⊥
IsFileStop IsWanted (stops.Unresolved error place) = ⊥
IsFileStop IsWanted (stops.File path) = IsWanted path.now
IsFileStop IsWanted stops.Usage = ⊥

-- it is where that span begins in these texts, as `PATH:LINE:COLUMN`; what has no span has no place
abbrev pub IsPlaceAt : List SourceText → Option Span → Option (String Global) → Type 0
IsPlaceAt texts None place = place ≡ None
IsPlaceAt texts (Some at) place = (text : String Global) × (place ≡ Some text) × IsLocation texts at (string_bytes text)

-- it is the place of what isn't resolved
abbrev pub IsPlaceOf : List SourceText → ResolveErrorKind → Option (String Global) → Type 0
IsPlaceOf texts error place = IsPlaceAt texts (span_of error) place

-- packages can't be resolved for that, which stands there, or memory is wanting
abbrev pub IsResolveStop : (ResolveErrorKind → Option (String Global) → Type 0) → Stop → Type 0
IsResolveStop IsWanted (stops.Refused fault) = fault ≡ causes.OutOfMemory
IsResolveStop IsWanted (stops.Unresolved error place) = IsWanted error place
IsResolveStop IsWanted (stops.File path) = ⊥
IsResolveStop IsWanted stops.Usage = ⊥

-- of all inputs together: as `IsResolveStop`, or a file isn't there
abbrev pub IsTextsStop : Files → (ResolveErrorKind → Option (String Global) → Type 0) → List LineInput → Stop → Type 0
IsTextsStop files IsWanted is (stops.Refused fault) = fault ≡ causes.OutOfMemory
IsTextsStop files IsWanted is (stops.Unresolved error place) = IsWanted error place
IsTextsStop files IsWanted is (stops.File path) = file_fault files is ≢ None
IsTextsStop files IsWanted is stops.Usage = ⊥

-- texts aren't taken for that; its place is one in the texts that are there then, as `AreTextsKept` says which those are
pub record AreTextsNotTaken (eq : PackageName → PackageName → Bool) (old : Resolved) (packages : List (List SourceText)) (error : ResolveErrorKind) (place : Option (String Global)) : Type 0 where
  pub why : AreTextsError eq old packages error
  pub left : Resolved
  pub kept : AreTextsKept old packages error left
  pub stands : IsPlaceOf left.texts error place

-- a text names no world, where that is the main package; this has no place
abbrev pub IsNameError : Resolved → ℕ → List ℕ → ResolveErrorKind → Option (String Global) → Type 0
IsNameError r main text error place = (fault : SelectFault) × IsSelectCause r.graph.tables.packages (main ∷ []) (Some text) fault × (error ≡ of_selection fault) × (place ≡ None)

-- the bytes of a module aren't read
abbrev pub IsBytesCause : Files → Fault → LineInput → Type 0
IsBytesCause files fault (inputs.Text path) = ⊥
IsBytesCause files fault (inputs.Dep path) = ⊥
IsBytesCause files fault (inputs.Main world path) = (bytes : List ℕ) × IsFile files (string_bytes path) bytes × IsModuleCause bytes fault
IsBytesCause files fault (inputs.Component path) = ⊥

-- nor is its world there; an empty text stands for the chosen one's
abbrev pub IsMainError : Resolved → ℕ → List ℕ → ResolveErrorKind → Option (String Global) → LineInput → Type 0
IsMainError r main chosen error place (inputs.Text path) = ⊥
IsMainError r main chosen error place (inputs.Dep path) = ⊥
IsMainError r main chosen error place (inputs.Main world path) = IsNameError r main (text_or (string_bytes world) chosen) error place
IsMainError r main chosen error place (inputs.Component path) = ⊥

-- an input isn't taken
abbrev pub IsInputStop : Files → Resolved → ℕ → List ℕ → LineInput → Stop → Type 0
IsInputStop files r main chosen i (stops.Refused fault) = (fault ≡ causes.OutOfMemory) ⊎ IsBytesCause files fault i
IsInputStop files r main chosen i (stops.Unresolved error place) = IsMainError r main chosen error place i
IsInputStop files r main chosen i (stops.File path) = input_fault files i ≡ Some path.now
IsInputStop files r main chosen i stops.Usage = ⊥

-- one of the inputs isn't, or a file isn't there
abbrev pub IsHandStop : Files → Resolved → ℕ → List ℕ → List LineInput → Stop → Type 0
IsHandStop files r main chosen is (stops.Refused fault) = (fault ≡ causes.OutOfMemory) ⊎ Any (IsBytesCause files fault) is
IsHandStop files r main chosen is (stops.Unresolved error place) = Any (IsMainError r main chosen error place) is
IsHandStop files r main chosen is (stops.File path) = file_fault files is ≢ None
IsHandStop files r main chosen is stops.Usage = ⊥

-- the chosen world isn't there, or an input isn't taken
abbrev pub IsCompleteStop : Files → Resolved → ℕ → Line → Stop → Type 0
IsCompleteStop files r main l (stops.Refused fault) = (fault ≡ causes.OutOfMemory) ⊎ Any (IsBytesCause files fault) l.inputs.items
IsCompleteStop files r main l (stops.Unresolved error place) = IsNameError r main (string_bytes l.world) error place ⊎ Any (IsMainError r main (string_bytes l.world) error place) l.inputs.items
IsCompleteStop files r main l (stops.File path) = file_fault files l.inputs.items ≢ None
IsCompleteStop files r main l stops.Usage = ⊥

-- where the packages are those of the line's texts, the chosen world or one of a module isn't there
pub record IsUnnamed (eq : PackageName → PackageName → Bool) (files : Files) (l : Line) (error : ResolveErrorKind) (place : Option (String Global)) : Type 0 where
  pub resolved : Resolved
  pub main : ℕ
  pub packages : AreTextsPushed eq (opened l).resolved (packages_of files l.inputs.items) resolved main
  pub none : IsNameError resolved main (string_bytes l.world) error place ⊎ Any (IsMainError resolved main (string_bytes l.world) error place) l.inputs.items

-- the texts aren't taken, or what they say has no such world
abbrev pub IsUnresolved : (PackageName → PackageName → Bool) → Files → Line → ResolveErrorKind → Option (String Global) → Type 0
IsUnresolved eq files l error place = AreTextsNotTaken eq (opened l).resolved (packages_of files l.inputs.items) error place ⊎ IsUnnamed eq files l error place

-- the inputs aren't taken, or a file isn't there, the first at fault
abbrev pub IsPrepareStop : (PackageName → PackageName → Bool) → Files → Line → Stop → Type 0
IsPrepareStop eq files l (stops.Refused fault) = (fault ≡ causes.OutOfMemory) ⊎ Any (IsBytesCause files fault) l.inputs.items
IsPrepareStop eq files l (stops.Unresolved error place) = IsUnresolved eq files l error place
IsPrepareStop eq files l (stops.File path) = file_fault files l.inputs.items ≡ Some path.now
IsPrepareStop eq files l stops.Usage = ⊥

-- no component is named, or its file isn't there
abbrev pub IsComponentStop : Files → List LineInput → Stop → Type 0
IsComponentStop files is (stops.Refused fault) = ⊥
IsComponentStop files is (stops.Unresolved error place) = ⊥
IsComponentStop files is (stops.File path) = file_fault files is ≢ None
IsComponentStop files is stops.Usage = filter is_component is ≡ []

-- why an action has no answer to an input
abbrev pub IsAnswerCause : Files → List LineInput → Input → Action → Fault → Type 0
IsAnswerCause files is given Build fault = IsBuildCause given fault
IsAnswerCause files is given Links fault = IsCause given fault
IsAnswerCause files is given Audit fault = (bytes : List ℕ) × HasComponent files is bytes × IsAuditCause given bytes fault

-- a path, or `-` for standard output
abbrev pub written_path : Option (String Global) → List ℕ
written_path None = codes "-"
written_path (Some path) = string_bytes path

-- where the answer goes
abbrev pub out_path : Line → List ℕ
out_path l = written_path l.out

-- why an answer isn't written: nothing is and it is refused, or OUT can't be written and a part of it is
abbrev pub IsWriteStop : (Fault → Type 0) → List ℕ → Type 0 → Type 0 → Stop → Type 0
IsWriteStop Cause out Untouched Part (stops.Refused fault) = Untouched × Cause fault
IsWriteStop Cause out Untouched Part (stops.Unresolved error place) = ⊥
IsWriteStop Cause out Untouched Part (stops.File path) = (path.now ≡ out) × Part
IsWriteStop Cause out Untouched Part stops.Usage = ⊥

-- as `IsStop`, of what is handed to a session
abbrev pub IsAnswerStop : Files → Line → Input → Type 0 → Option (List ℕ) → Option (List ℕ) → Stop → Type 0
IsAnswerStop files l given Untouched old new (stops.Refused fault) = Untouched × IsAnswerCause files l.inputs.items given l.action fault
IsAnswerStop files l given Untouched old new (stops.Unresolved error place) = ⊥
IsAnswerStop files l given Untouched old new (stops.File path) = (path.now ≡ out_path l) × WritesPart (IsAnswer files l.inputs.items given l.action) old new
IsAnswerStop files l given Untouched old new stops.Usage = Untouched × (l.action ≡ Audit) × (filter is_component l.inputs.items ≡ [])

module _ (eq : PackageName → PackageName → Bool) (files : Files) (l : Line) (Untouched : Type 0) (old new : Option (List ℕ)) where
  -- why a line has no answer; only where OUT can't be written a part of the answer is
  abbrev pub IsStop : Stop → Type 0
  IsStop (stops.Refused fault) =
      Untouched
      × (((fault ≡ causes.OutOfMemory) ⊎ Any (IsBytesCause files fault) l.inputs.items)
      ⊎ ((given : Input) × Handed eq files l given × IsAnswerCause files l.inputs.items given l.action fault))
  IsStop (stops.Unresolved error place) = Untouched × IsUnresolved eq files l error place
  IsStop (stops.File path) =
      (Untouched × (file_fault files l.inputs.items ≡ Some path.now))
      ⊎ ((file_fault files l.inputs.items ≡ None) × (path.now ≡ out_path l) × WritesPart (IsLineAnswer eq files l) old new)
  IsStop stops.Usage = Untouched × (l.action ≡ Audit) × (filter is_component l.inputs.items ≡ [])

  -- the program ends without its answer, with the status and the line of why
  pub record IsStopped (status : ℕ) (err_old err_new : Option (List ℕ)) : Type 0 where
    pub stop : Stop
    pub why : IsStop stop
    pub status_is : status ≡ stop_status stop
    pub says : AppendsFront err_old err_new (stop_text stop)
