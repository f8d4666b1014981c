-- The command line: its options and positionals, and what they say.
use Rattle.std.specs.Prelude.{◌≡◌, ◌≢◌, ℕ, ◌<◌, ◌==◌, Bool, true, false, List, [], ◌∷◌, ◌++◌, Option, Some, None, codes, length, slice_index, string_bytes, option_map, unwrap_or, map, filter}
use Rattle.std.specs.List.{AllByRecursion as Each, slice_split}
use Rattle.std.specs.Option.{option_map_or}
use Rattle.std.specs.Str.{bytes_eq}
use Rattle.clap.specs.Words.{App, Row, Rule, Text, new_app, new_rule, with_rule, first_of, one_of, all_of, fault_of, matches_of}
use Rattle.clap.specs.declared.builder.ArgAction.TheVariants.{Set, SetTrue, Append}
use Rattle.command_line.specs.declared.line.Action.{Action}
use Rattle.command_line.specs.declared.line.Action.TheVariants.{Build, Links, Audit}
use Rattle.command_line.specs.declared.line.Encoding.{Encoding}
use Rattle.command_line.specs.declared.line.Encoding.TheVariants.{Utf8, Utf16, Compact}
use Rattle.command_line.specs.declared.line.Input.{Input}
use Rattle.command_line.specs.declared.line.Input.TheVariants as inputs
use Rattle.command_line.specs.declared.line.Line.{Line}
use Rattle.command_line.specs.declared.line.LineFault.{LineFault}
use Rattle.command_line.specs.declared.line.LineFault.TheVariants as faults

abbrev pub action_rule : Rule
action_rule = record (new_rule (codes "action")) { required = true; action = Some Set }

abbrev pub world_rule : Rule
world_rule = record (new_rule (codes "world")) { long = Some (codes "world"); required = true; action = Some Set }

-- an option with a value, by its name
abbrev pub option_rule : Text → Rule
option_rule name = record (new_rule name) { long = Some name; action = Some Set }

-- a flag, by its name
abbrev pub flag_rule : Text → Rule
flag_rule name = record (new_rule name) { long = Some name; action = Some SetTrue }

-- 111 is `o`
abbrev pub out_rule : Rule
out_rule = record (new_rule (codes "out")) { short = Some 111; action = Some Set }

abbrev pub input_rule : Rule
input_rule = record (new_rule (codes "input")) { required = true; action = Some Append }

-- a command without the program's name among its words
abbrev pub unnamed : App → App
unnamed a = record a { top = record a.top { no_binary_name = true } }

-- a command with more rules, in their order
abbrev pub with_rules : App → List Rule → App
with_rules a [] = a
with_rules a (r ∷ rules) = with_rules (with_rule a r) rules

-- what is asked, of which world, and with which features
abbrev pub choice_rules : List Rule
choice_rules = action_rule ∷ world_rule ∷ option_rule (codes "features") ∷ flag_rule (codes "all-features") ∷ []

-- how worlds are merged and modules are read
abbrev pub reading_rules : List Rule
reading_rules = flag_rule (codes "no-merge") ∷ flag_rule (codes "canonical") ∷ flag_rule (codes "reject-legacy") ∷ []

-- how the component is written
abbrev pub writing_rules : List Rule
writing_rules = flag_rule (codes "return-call-ref") ∷ flag_rule (codes "debug-names") ∷ flag_rule (codes "validate") ∷ option_rule (codes "encoding") ∷ []

-- the command line's command
unfoldable pub line_app : App
line_app = with_rules (unnamed (new_app (codes "component_linker"))) (choice_rules ++ reading_rules ++ writing_rules ++ out_rule ∷ input_rule ∷ [])

abbrev pub action_named : Action → List ℕ
action_named Build = codes "build"
action_named Links = codes "links"
action_named Audit = codes "audit"

abbrev pub encoding_named : Encoding → List ℕ
encoding_named Utf8 = codes "utf8"
encoding_named Utf16 = codes "utf16"
encoding_named Compact = codes "compact"

-- the text of the encoding, which is utf8 where none is given
abbrev pub encoding_text : Option Text → Text
encoding_text given = unwrap_or given (codes "utf8")

-- the parts of a list between its commas, and none where there is no list; 44 is `,`
abbrev pub features_named : Option Text → List Text
features_named None = []
features_named (Some text) = slice_split (λ b. b == 44) text

-- a flag is given where the matches read `true` under its name
abbrev pub is_given : Text → List Row → Bool
is_given name rows = option_map_or (λ text. bytes_eq text (codes "true")) (one_of name rows) false

-- 61 is `=`
abbrev pub HasNoEquals : List ℕ → Type 0
HasNoEquals t = (i : ℕ) → i < length t → slice_index t i ≢ 61

-- the word of an input
abbrev pub input_word : Input → List ℕ
input_word (inputs.Text path) = codes "text=" ++ string_bytes path
input_word (inputs.Dep path) = codes "dep=" ++ string_bytes path
input_word (inputs.Main world path) = codes "main=" ++ string_bytes world ++ 61 ∷ string_bytes path
input_word (inputs.Component path) = codes "component=" ++ string_bytes path

-- the world of a main module ends at the first `=`
abbrev pub IsCut : Input → Type 0
IsCut (inputs.Text path) = Unit {0}
IsCut (inputs.Dep path) = Unit {0}
IsCut (inputs.Main world path) = HasNoEquals (string_bytes world)
IsCut (inputs.Component path) = Unit {0}

-- an input is its word, cut at its first `=`s
abbrev pub IsInput : List ℕ → Input → Type 0
IsInput word i = (input_word i ≡ word) × IsCut i

abbrev pub AreInputs : List (List ℕ) → List Input → Type 0
AreInputs words is = (map input_word is ≡ words) × Each IsCut is

abbrev pub is_text : Input → Bool
is_text (inputs.Text path) = true
is_text (inputs.Dep path) = false
is_text (inputs.Main world path) = false
is_text (inputs.Component path) = false

abbrev pub is_component : Input → Bool
is_component (inputs.Text path) = false
is_component (inputs.Dep path) = false
is_component (inputs.Main world path) = false
is_component (inputs.Component path) = true

-- how many components an action wants
abbrev pub components_of : Action → ℕ
components_of Build = 0
components_of Links = 0
components_of Audit = 1

-- each action wants a text, `audit` one component and the others none
abbrev pub Fits : Line → Type 0
Fits l = (0 < length (filter is_text l.inputs.items)) × (length (filter is_component l.inputs.items) ≡ components_of l.action)

-- the line's fields are those of the matches
pub record HasFields (rows : List Row) (l : Line) : Type 0 where
  pub action : first_of (codes "action") rows ≡ Some (action_named l.action)
  pub world : first_of (codes "world") rows ≡ Some (string_bytes l.world)
  pub features : map string_bytes l.features.items ≡ features_named (first_of (codes "features") rows)
  pub all_features : l.all_features ≡ is_given (codes "all-features") rows
  pub no_merge : l.no_merge ≡ is_given (codes "no-merge") rows
  pub canonical : l.canonical ≡ is_given (codes "canonical") rows
  pub reject_legacy : l.reject_legacy ≡ is_given (codes "reject-legacy") rows
  pub return_call_ref : l.return_call_ref ≡ is_given (codes "return-call-ref") rows
  pub debug_names : l.debug_names ≡ is_given (codes "debug-names") rows
  pub validate : l.validate ≡ is_given (codes "validate") rows
  pub encoding : encoding_named l.encoding ≡ encoding_text (first_of (codes "encoding") rows)
  pub out : first_of (codes "out") rows ≡ option_map string_bytes l.out
  pub inputs : (words : List Text) × (all_of (codes "input") rows ≡ Some words) × AreInputs words l.inputs.items

-- clap takes the words: no step of its parse fails
abbrev pub IsTaken : List Text → Type 0
IsTaken words = fault_of line_app words ≡ []

-- the line is that of the words, and its inputs fit its action
pub record IsLine (words : List Text) (l : Line) : Type 0 where
  pub taken : IsTaken words
  pub fields : HasFields (matches_of line_app words) l
  pub fits : Fits l

-- clap's text is given only for words that don't fit the command
abbrev pub IsClapCause : List Text → LineFault → Type 0
IsClapCause words (faults.Clap text) = IsTaken words → ⊥
IsClapCause words faults.Usage = ⊥
IsClapCause words faults.OutOfMemory = Unit {0}

-- as `IsClapCause`, and usage only where clap takes the words and they are no line
abbrev pub IsLineCause : List Text → LineFault → Type 0
IsLineCause words (faults.Clap text) = IsTaken words → ⊥
IsLineCause words faults.Usage = IsTaken words × ((l : Line) → IsLine words l → ⊥)
IsLineCause words faults.OutOfMemory = Unit {0}

-- usage only where nothing is as wanted
abbrev pub IsUsageCause : {T : Type 0} → (T → Type 0) → LineFault → Type 0
IsUsageCause IsWanted (faults.Clap text) = ⊥
IsUsageCause {T} IsWanted faults.Usage = (x : T) → IsWanted x → ⊥
IsUsageCause IsWanted faults.OutOfMemory = Unit {0}
