-- What the program writes.
use Rattle.std.specs.Prelude.{◌≡◌, ℕ, ◌<◌, Bool, not, List, [], ◌∷◌, ◌++◌, Option, Some, None, if◌then◌else◌, length, map, fold, bytes_eq, string_bytes}
use Rattle.std.specs.List.{HoldsAt, flat_map}
use Rattle.std.specs.Option.{option_or}
use Rattle.std.specs.Str.{is_utf8}
use Rattle.std.specs.Borrow.{Bor}
use Rattle.std.specs.Io.KnownBytes.{Appends}
use Rattle.command_line.specs.declared.line.Action.{Action}
use Rattle.command_line.specs.declared.line.Action.TheVariants.{Build, Links, Audit}
use Rattle.command_line.specs.declared.line.Encoding.{Encoding}
use Rattle.command_line.specs.declared.line.Encoding.TheVariants as encodings
use Rattle.command_line.specs.declared.line.Input.{Input as LineInput}
use Rattle.command_line.specs.declared.line.Input.TheVariants as inputs
use Rattle.command_line.specs.declared.line.Line.{Line}
use Rattle.command_line.specs.declared.line.LineFault.{LineFault}
use Rattle.command_line.specs.declared.line.LineFault.TheVariants as faults
use Rattle.component_session.specs.Passed.component_audit-Texts.{verdict_text}
use Rattle.component_session.specs.Passed.component_audit-declared-verdict-Verdict.{Verdict}
use Rattle.component_session.specs.Passed.component_audit-declared-verdict-Verdict-TheVariants.{Yes, Finding}
use Rattle.component_session.specs.Headline.{IsBuilt, IsLinkTable, IsJudged}
use Rattle.component_session.specs.Handed.{main_input}
use Rattle.component_session.specs.Input.{Input, OptionsInput, empty_input}
use Rattle.component_session.specs.Passed.handed_modules-Modules.{ModuleInput, with_module}
use Rattle.link_lines.specs.Line.{link_value}
use Rattle.link_lines.specs.Texts.{lines_text}
use Rattle.link_lines.specs.declared.line.Link.{Link}
use Rattle.link_lines.specs.declared.encoding.StringEncoding.{StringEncoding}
use Rattle.link_lines.specs.declared.encoding.StringEncoding.TheVariants.{UTF8, UTF16, CompactUTF16}
use Rattle.wit_features.specs.Features.{FeatureSet, with_name}
use Rattle.component_session.specs.Pushes.{Resolved, nothing_resolved, AreTextsPushed}
use Rattle.component_session.specs.Texts.{files_of}
use Rattle.wit_selection.specs.Selection.{IsSelected}
use Rattle.wit_types.specs.declared.«package».PackageName.{PackageName}
use Rattle.wit_words.specs.Sources.{SourceText}

-- the exit status for words that are no line
abbrev pub line_status : LineFault → ℕ
line_status (faults.Clap text) = 2
line_status faults.Usage = 2
line_status faults.OutOfMemory = 1

abbrev pub verdict_status : Verdict → ℕ
verdict_status Yes = 0
verdict_status (Finding kind offset) = 1

-- files by their paths
abbrev pub Files : Type 0
Files = List (Bor (List ℕ) × Bor (List ℕ))

-- the bytes of the first file under a path
abbrev pub file_at : Files → List ℕ → Option (List ℕ)
file_at [] path = None
file_at (f ∷ files) path = if bytes_eq f.0.now path then Some f.1.now else file_at files path

abbrev pub IsFile : Files → List ℕ → List ℕ → Type 0
IsFile files path bytes = file_at files path ≡ Some bytes

-- the path, if no file is there
abbrev pub missing_path : List ℕ → Option (List ℕ) → Option (List ℕ)
missing_path path None = Some path
missing_path path (Some bytes) = None

-- the path, if no text is there
abbrev pub textless_path : List ℕ → Option (List ℕ) → Option (List ℕ)
textless_path path None = Some path
textless_path path (Some bytes) = if is_utf8 bytes then None else Some path

-- the path of an input whose file isn't there, or is to be a text and isn't one
abbrev pub input_fault : Files → LineInput → Option (List ℕ)
input_fault files (inputs.Text path) = textless_path (string_bytes path) (file_at files (string_bytes path))
input_fault files (inputs.Dep path) = textless_path (string_bytes path) (file_at files (string_bytes path))
input_fault files (inputs.Main world path) = missing_path (string_bytes path) (file_at files (string_bytes path))
input_fault files (inputs.Component path) = missing_path (string_bytes path) (file_at files (string_bytes path))

-- the first such path of the inputs
abbrev pub file_fault : Files → List LineInput → Option (List ℕ)
file_fault files [] = None
file_fault files (i ∷ is) = option_or (input_fault files i) (file_fault files is)

-- ---- texts

-- the text at a path, if a file is there
abbrev pub text_of : List ℕ → Option (List ℕ) → List SourceText
text_of path None = []
text_of path (Some contents) = record { path = path; contents = contents } ∷ []

-- a file of the main package
abbrev pub main_text : Files → LineInput → List SourceText
main_text files (inputs.Text path) = text_of (string_bytes path) (file_at files (string_bytes path))
main_text files (inputs.Dep path) = []
main_text files (inputs.Main world path) = []
main_text files (inputs.Component path) = []

-- the text of another package
abbrev pub dep_text : Files → LineInput → List SourceText
dep_text files (inputs.Text path) = []
dep_text files (inputs.Dep path) = text_of (string_bytes path) (file_at files (string_bytes path))
dep_text files (inputs.Main world path) = []
dep_text files (inputs.Component path) = []

-- the files of each package of a line: all of its main package's, and each of the others' by itself
abbrev pub packages_of : Files → List LineInput → List (List SourceText)
packages_of files is = files_of (flat_map (main_text files) is) (flat_map (dep_text files) is)

-- ---- options

abbrev pub features_of : Line → FeatureSet
features_of l = record { all = l.all_features; names = fold with_name [] (map string_bytes l.features.items) }

abbrev pub options_of : Line → OptionsInput
options_of l = record {
  merge_imports_based_on_semver = not l.no_merge;
  emit_canonical_names = l.canonical;
  reject_legacy_names = l.reject_legacy;
  shim_return_call_ref = l.return_call_ref;
  debug_names = l.debug_names;
  validate = l.validate;
  import_name_map = [];
}

abbrev pub encoding_of : Encoding → StringEncoding
encoding_of encodings.Utf8 = UTF8
encoding_of encodings.Utf16 = UTF16
encoding_of encodings.Compact = CompactUTF16

-- what a session is before it is handed something
abbrev pub opened : Line → Input
opened l = record empty_input { resolved = record nothing_resolved { features = features_of l }; options = options_of l }

-- ---- worlds and modules

-- a text names that world, where this is the main package
abbrev pub Names : Resolved → ℕ → List ℕ → ℕ → Type 0
Names r main text w = IsSelected r.graph.tables.packages (main ∷ []) (Some text) w

-- what a line says of a module: the text that names its world, and its path
pub record MainWords : Type 0 where
  pub world : List ℕ
  pub path : List ℕ

-- what is said of a module, where one is handed in later than what is there
abbrev pub later_main : Option MainWords → LineInput → Option MainWords
later_main old (inputs.Text path) = old
later_main old (inputs.Dep path) = old
later_main old (inputs.Main world path) = Some (record { world = string_bytes world; path = string_bytes path })
later_main old (inputs.Component path) = old

-- what is said of the last module
abbrev pub last_main : List LineInput → Option MainWords
last_main = fold later_main None

-- an empty text stands for the chosen world's
abbrev pub text_or : List ℕ → List ℕ → List ℕ
text_or [] chosen = chosen
text_or (b ∷ bs) chosen = b ∷ bs

module _ (files : Files) (r : Resolved) («package» : ℕ) (line : Line) where
  -- the main module is what is said of it: it has the bytes of the file at the path, the world that the text names, and the line's encoding
  abbrev pub IsMain : MainWords → ModuleInput → Type 0
  IsMain words m = (bytes : List ℕ) × (w : ℕ) × IsFile files words.path bytes × Names r «package» (text_or words.world (string_bytes line.world)) w × (m ≡ main_input bytes w (encoding_of line.encoding))

  -- it is the only module, where something is said of it
  abbrev pub AreModules : Option MainWords → List ModuleInput → Type 0
  AreModules None ms = ms ≡ []
  AreModules (Some words) ms = (m : ModuleInput) × IsMain words m × (ms ≡ m ∷ [])

  -- an input that is a module is handed in, and another changes nothing
  abbrev pub HandsIn : LineInput → List ModuleInput → List ModuleInput → Type 0
  HandsIn (inputs.Text path) old new = new ≡ old
  HandsIn (inputs.Dep path) old new = new ≡ old
  HandsIn (inputs.Main world path) old new = (m : ModuleInput) × IsMain (record { world = string_bytes world; path = string_bytes path }) m × (new ≡ with_module m old)
  HandsIn (inputs.Component path) old new = new ≡ old

-- a session chooses the world of a line, and is handed its last module
pub record IsCompleted (files : Files) («package» : ℕ) (line : Line) (old new : Input) : Type 0 where
  pub chosen : ℕ
  pub world : Names old.resolved «package» (string_bytes line.world) chosen
  pub modules : AreModules files old.resolved «package» line (last_main line.inputs.items) new.modules
  pub rest : new ≡ record old { world = Some chosen; modules = new.modules }

-- What is handed to a session: the packages of a line's texts, with the features that it makes active, the world that it names and the
-- last module, with its options; each file is there.
pub record Handed (eq : PackageName → PackageName → Bool) (files : Files) (line : Line) (given : Input) : Type 0 where
  pub there : file_fault files line.inputs.items ≡ None
  pub «package» : ℕ
  pub packages : AreTextsPushed eq (opened line).resolved (packages_of files line.inputs.items) given.resolved «package»
  pub chosen : ℕ
  pub chooses : given.world ≡ Some chosen
  pub world : Names given.resolved «package» (string_bytes line.world) chosen
  pub modules : AreModules files given.resolved «package» line (last_main line.inputs.items) given.modules
  pub options : given.options ≡ options_of line

-- an input is the component with these bytes
abbrev pub IsComponentInput : Files → List ℕ → LineInput → Type 0
IsComponentInput files bytes (inputs.Text path) = ⊥
IsComponentInput files bytes (inputs.Dep path) = ⊥
IsComponentInput files bytes (inputs.Main world path) = ⊥
IsComponentInput files bytes (inputs.Component path) = IsFile files (string_bytes path) bytes

-- one of the inputs is the component with these bytes
abbrev pub HasComponent : Files → List LineInput → List ℕ → Type 0
HasComponent files is bytes = (k : ℕ) × (k < length is) × HoldsAt (IsComponentInput files bytes) is k

-- the text is the bytes of a component that is right for the input
abbrev pub IsComponentAnswer : Input → ℕ → List ℕ → Type 0
IsComponentAnswer given status text = (status ≡ 0) × IsBuilt given text

-- the text is the lines of the input's links, in order
abbrev pub IsLinksAnswer : Input → ℕ → List ℕ → Type 0
IsLinksAnswer given status text = (status ≡ 0) × ((links : List Link) × IsLinkTable given (map link_value links) × (text ≡ lines_text links))

-- the text is a verdict on a component, which is so of its bytes, and the exit status is its
abbrev pub IsVerdictAnswer : Input → List ℕ → ℕ → List ℕ → Type 0
IsVerdictAnswer given bytes status text = (verdict : Verdict) × IsJudged given bytes verdict × (status ≡ verdict_status verdict) × (text ≡ verdict_text verdict ++ 10 ∷ [])

-- the text of an action's answer to an input, and its exit status
abbrev pub IsAnswer : Files → List LineInput → Input → Action → ℕ → List ℕ → Type 0
IsAnswer files is given Build status text = IsComponentAnswer given status text
IsAnswer files is given Links status text = IsLinksAnswer given status text
IsAnswer files is given Audit status text = (bytes : List ℕ) × HasComponent files is bytes × IsVerdictAnswer given bytes status text

-- what the writer has more is such a text
abbrev pub Writes : (List ℕ → Type 0) → Option (List ℕ) → Option (List ℕ) → Type 0
Writes IsWanted old new = (text : List ℕ) × IsWanted text × Appends old new text

module _ (eq : PackageName → PackageName → Bool) (files : Files) where
  -- the text of a line's answer, to what is handed to a session, and its exit status
  abbrev pub IsLineAnswer : Line → ℕ → List ℕ → Type 0
  IsLineAnswer line status text = (given : Input) × Handed eq files line given × IsAnswer files line.inputs.items given line.action status text

  -- what the writer has more is the line's answer
  abbrev pub IsOutcome : Line → ℕ → Option (List ℕ) → Option (List ℕ) → Type 0
  IsOutcome line status old new = Writes (IsLineAnswer line status) old new
