-- The link table as the code has it: for each core import the place of its function among the world's imports, for each exported
-- function the place of its core export (Canonical ABI, canon lift and canon lower).
use Rattle.std.specs.Prelude.{◌≡◌, ℕ, List, [], ◌∷◌, map, filter, flat_map, slice_get, Option, Some, option_and_then, false, bytes_eq}
use Rattle.std.specs.Borrow.{Bor}
use Rattle.plain_worlds.specs.World.{FunctionItem}
use Rattle.wit_component.specs.CoreNames.{root, standard, is_memory_name}
use Rattle.wit_component.specs.Flat.{flat}
use Rattle.wit_component.specs.Linking.{CoreImport, CoreExport, Linking}
use Rattle.link_lines.specs.Line.{LinkValue}
use Rattle.wit_component.specs.Line.{import_line, export_line}
use Rattle.wit_component.specs.Table.{imported_by, entries_of_import, exported_by, entries_of_export}
use Rattle.wit_component.specs.Links.{lines}

-- this core import is linked to this function
pub record ImportLink (l : Linking) (i : CoreImport) (f : FunctionItem) : Type 0 where
  pub only : imported_by l i ≡ f ∷ []
  pub matches : i.ty ≡ Some (flat f.ty)

-- this exported function is linked to this core export, whose text isn't the memory's too
pub record ExportLink (l : Linking) (f : FunctionItem) (e : CoreExport) : Type 0 where
  pub only : exported_by l f ≡ e ∷ []
  pub one_meaning : is_memory_name l.rejects_legacy e.name ≡ false
  pub matches : e.ty ≡ Some (flat f.ty)

-- a core import is linked to the function at this place
abbrev pub ImportPlace : Linking → CoreImport → ℕ → Type 0
ImportPlace l i p = (f : FunctionItem) × (slice_get l.world.imports p ≡ Some f) × ImportLink l i f

-- an exported function is linked to the core export at this place
abbrev pub ExportPlace : Linking → FunctionItem → ℕ → Type 0
ExportPlace l f p = (e : CoreExport) × (slice_get l.main.exports p ≡ Some e) × ExportLink l f e

-- each has its place
abbrev pub Placed : {X : Type 0} → (X → ℕ → Type 0) → List X → List ℕ → Type 0
Placed R [] [] = Unit {0}
Placed R [] (p ∷ ps) = ⊥
Placed R (x ∷ xs) [] = ⊥
Placed R (x ∷ xs) (p ∷ ps) = R x p × Placed R xs ps

-- what stands at the place that a list of places has
abbrev pub target : {X : Type 0} → List X → List ℕ → ℕ → Option X
target xs ps k = option_and_then (slice_get xs) (slice_get ps k)

-- the names that are imported under a module text, in order
abbrev pub names_under : Linking → List ℕ → List (List ℕ)
names_under l place = map (λ i. i.name) (filter (λ i. bytes_eq i.place place) l.main.imports)

pub record Places : Type 0 where
  pub legacy : List (List ℕ)
  pub standard : List (List ℕ)
  pub imports : List ℕ
  pub exports : List ℕ

-- these are the places of the links
pub record ArePlaces (l : Linking) (t : Places) : Type 0 where
  pub legacy : t.legacy ≡ names_under l root
  pub standard : t.standard ≡ names_under l standard
  pub imports : Placed (ImportPlace l) l.main.imports t.imports
  pub exports : Placed (ExportPlace l) l.world.exports t.exports

-- ---- lines

-- the texts of a line
abbrev pub import_text : Bor (List ℕ) × Bor (List ℕ) × Bor (List ℕ) → LinkValue
import_text t = import_line t.0.now t.1.now t.2.now

abbrev pub export_text : Bor (List ℕ) × Bor (List ℕ) → LinkValue
export_text t = export_line t.0.now t.1.now

-- the lines of one core import, of one exported function, and of all of them
abbrev pub lines_of_import : Linking → CoreImport → List LinkValue
lines_of_import l i = lines (entries_of_import l i)

abbrev pub lines_of_export : Linking → FunctionItem → List LinkValue
lines_of_export l f = lines (entries_of_export l f)

abbrev pub import_lines : Linking → List LinkValue
import_lines l = flat_map (lines_of_import l) l.main.imports

abbrev pub export_lines : Linking → List LinkValue
export_lines l = flat_map (lines_of_export l) l.world.exports
