-- The headline: what `Session::links`, `Session::build` and `audit` say of an input. To be read from the top; Refusals.antt has why they
-- refuse.
--
-- An input (Input.antt) is packages of WIT texts, a chosen world, modules and options. Where the main module is the only one, it links the
-- world's functions with the core imports and exports of that: the link table (in link_table, Table.antt) has one entry for each, and its
-- lines are what `links` shows. The bytes of a component are a list of definitions by the grammar of components (in component_sections,
-- Component.antt). What their indices stand for is one fold over the list (in component_meaning, Spaces.antt), and what has to hold of that
-- is in right_components, Right.antt. Where plain functions alone are linked, the input is plain (Refusals.antt), and all of this stands in
-- definitions of its own, which the auditor decides: the table in wit_component, Table.antt; the grammar in known_definitions,
-- Component.antt; the fold in wit_component, Meaning.antt; and one condition for each kind of finding there, in Right.antt.
use Rattle.std.specs.Prelude.{◌≡◌, ◌⊎◌, ℕ, ◌≤◌, List, length, map}
use Rattle.wit_component.specs.Passed.known_definitions-Definition.{DefinitionValue}
use Rattle.wit_component.specs.Passed.known_definitions-Component.{IsComponent}
use Rattle.wit_component.specs.Linking.{Linking}
use Rattle.link_lines.specs.Line.{LinkValue}
use Rattle.wit_component.specs.Links.{AreLinks}
use Rattle.wit_component.specs.Table.{needed}
use Rattle.wit_component.specs.Meaning.{meaning}
use Rattle.wit_component.specs.Right.{MeetsAll, listed}
use Rattle.wit_component.specs.Cause.{IsTooLarge}
use Rattle.component_audit.specs.declared.verdict.Verdict.{Verdict}
use Rattle.component_audit.specs.declared.verdict.Verdict.TheVariants.{Yes, Finding}
use Rattle.component_audit.specs.Judged.{IsBeyond, IsFinding}
use Rattle.component_session.specs.Input.{Input, IsLinkingOf}
use Rattle.linked_components.specs.Build.{IsEncoding}
use Rattle.linked_components.specs.Passed.link_table-Linking.{Linking as WideLinking}
use Rattle.linked_components.specs.Passed.link_table-Lines.{AreLines}
use Rattle.component_session.specs.Refusals.{IsReady, IsWideReady}

-- ---- right for the input (Component Model Binary; Component Model, Explainer, Component Definitions)

-- the bytes are a component (F1), and the condition of each other kind of finding holds of what its definitions stand for: it imports what
-- links need and nothing that the world doesn't list (F2), exports what the world does (F3), instantiates the module once (F4), and each
-- core import and each export ends as its entry of the link table says (F5)
pub record IsRight (input : Input) (bytes : List ℕ) : Type 0 where
  pub linking : Linking
  pub links_input : IsLinkingOf input linking
  pub definitions : List DefinitionValue
  pub format : IsComponent bytes definitions
  pub meets : MeetsAll linking (meaning linking.main definitions)

-- ---- `links`

-- nothing stands in the way, and these are the lines of the link table of plain functions, in order
pub record IsPlainTable (input : Input) (found : List LinkValue) : Type 0 where
  pub linking : Linking
  pub ready : IsReady input linking
  pub links : AreLinks linking found

-- or of that of all that the world has
pub record IsWideTable (input : Input) (found : List LinkValue) : Type 0 where
  pub linking : WideLinking
  pub ready : IsWideReady input linking
  pub links : AreLines linking ready.table found

-- of the one or the other, as the input is plain or wide
pub data IsLinkTable (input : Input) (found : List LinkValue) : Type 0 where
  plain : IsPlainTable input found → IsLinkTable input found
  wide : IsWideTable input found → IsLinkTable input found

-- ---- `build`

-- nothing stands in the way of plain functions, and the bytes are right for the input; however they are read, they import exactly what
-- links need, in the order of the world
pub record IsPlainlyBuilt (input : Input) (bytes : List ℕ) : Type 0 where
  pub linking : Linking
  pub ready : IsReady input linking
  pub fits : IsTooLarge linking → ⊥
  pub right : IsRight input bytes
  pub imports : (ds : List DefinitionValue) → IsComponent bytes ds → (meaning linking.main ds).imports ≡ map listed (needed linking)

-- or of all that the world has, and the bytes are a component that is right for its link table: it imports exactly what links and the types
-- of exports need, exports what the world does, instantiates the module once, and each core import and each export ends as its entry says (in
-- right_components, Right.antt)
pub record IsWidelyBuilt (input : Input) (bytes : List ℕ) : Type 0 where
  pub linking : WideLinking
  pub ready : IsWideReady input linking
  pub right : IsEncoding linking ready.links_input.handed.bytes ready.table bytes

abbrev pub IsBuilt : Input → List ℕ → Type 0
IsBuilt input bytes = IsPlainlyBuilt input bytes ⊎ IsWidelyBuilt input bytes

-- ---- `audit`

-- yes is said of bytes that are right for the input, and a finding names a condition that fails of them, and a place in them
abbrev pub IsVerdict : Input → Linking → List ℕ → Verdict → Type 0
IsVerdict input l bytes Yes = IsRight input bytes
IsVerdict input l bytes (Finding kind offset) = (offset ≤ length bytes) × IsFinding l bytes kind offset

-- nothing stands in the way, the bytes have nothing that is still to come, and this is a verdict on them
pub record IsJudged (input : Input) (bytes : List ℕ) (verdict : Verdict) : Type 0 where
  pub linking : Linking
  pub ready : IsReady input linking
  pub here : IsBeyond linking bytes → ⊥
  pub says : IsVerdict input linking bytes verdict
