-- Each function that a module exports has a type, where bytes are the module.
use Rattle.std.proofs.Common.{◌≡◌, ℕ, suc, ◌+◌, ◌≤◌, ◌<◌, List, [], ◌∷◌, length, Some, refl, ap, subst, ◌∙◌, arith, length-append}
use Rattle.std.specs.Prelude.{slice_get, flat_map, option_and_then}
use Rattle.std.specs.List.{AllByRecursion as Each}
use Rattle.std.proofs.lemmas.Grind.{flat_map-append}
use Rattle.binary_grammar.specs.Format as format
use Rattle.binary_grammar.specs.Several.{AreSteps, grown}
use Rattle.binary_grammar.specs.Syntax.{meaning}
use Rattle.wasm_types.specs.declared.spaces.Spaces.{Spaces}
use Rattle.wasm_types.specs.declared.types.EntityType.{EntityType}
use Rattle.wasm_types.specs.declared.types.EntityType.TheVariants as entities
use Rattle.wasm_types.specs.declared.types.ExportKind.{ExportKind}
use Rattle.wasm_types.specs.declared.types.ExportKind.TheVariants as kinds
use Rattle.wasm_types.specs.Types.{FuncTypeValue}
use Rattle.wasm_types.specs.Entries.{ImportValue, ExportValue}
use Rattle.wasm_sections.specs.declared.sections.Progress.{Progress}
use Rattle.wasm_sections.specs.Module.{Holding, types, imports, functions, tables, memories, globals, exports, framed, SectionValue, types_in, imports_in, functions_in, exports_in, imported, spaces_with, progress_with, next, nothing, file, sections}
use Rattle.wasm_format.specs.Module.{ModuleValue, module_of, function_in, function_type_at}
use Rattle.plain_meaning.specs.Law.{HasType, ExportsHaveTypes, ReadModulesHaveTypes}
use Rattle.plain_meaning.proofs.Lists.{each_append, each_more, each_flat, each_get}
use Rattle.plain_meaning.proofs.Sections.{NamesType, NamesFunction, IsWithin, step_within}

-- ---- how many there are behind sections

abbrev behind_all : Progress → List SectionValue → Spaces
behind_all p ss = (grown progress_with p ss).spaces

abbrev all_types : List SectionValue → List FuncTypeValue
all_types ss = flat_map (λ s. types_in s.holds) ss

abbrev all_imports : List SectionValue → List ImportValue
all_imports ss = flat_map (λ s. imports_in s.holds) ss

abbrev all_functions : List SectionValue → List ℕ
all_functions ss = flat_map (λ s. functions_in s.holds) ss

abbrev all_exports : List SectionValue → List ExportValue
all_exports ss = flat_map (λ s. exports_in s.holds) ss

-- the types of functions that are imported
abbrev imported_functions : List ImportValue → List ℕ
imported_functions is = flat_map (λ i. function_in i.ty) is

more_types : (there : Spaces) (h : Holding) → (spaces_with there h).types ≡ there.types + length (types_in h)
more_types there (types ts) = refl
more_types there (imports is) = omega arith
more_types there (functions fs) = omega arith
more_types there (tables ts) = omega arith
more_types there (memories ms) = omega arith
more_types there (globals gs) = omega arith
more_types there (exports es) = omega arith
more_types there framed = omega arith

types_behind : (p : Progress) (ss : List SectionValue) → (behind_all p ss).types ≡ p.spaces.types + length (all_types ss)
types_behind p [] = omega arith
types_behind p (s ∷ ss) =
    let rest = types_behind (progress_with p s) ss in
    let one = more_types p.spaces s.holds in
    let both = length-append (types_in s.holds) (all_types ss) in
    omega arith

one_import : (place name : List ℕ) (t : EntityType) (is : List ImportValue) → imported kinds.Func is ≡ length (imported_functions is)
    → imported kinds.Func (record { place = place; name = name; ty = t } ∷ is) ≡ length (imported_functions (record { place = place; name = name; ty = t } ∷ is))
one_import place name (entities.Function i) is e = ap suc e
one_import place name (entities.Table t) is e = e
one_import place name (entities.Memory m) is e = e
one_import place name (entities.Global g) is e = e

so_many_imported : (is : List ImportValue) → imported kinds.Func is ≡ length (imported_functions is)
so_many_imported [] = refl
so_many_imported (i ∷ is) = one_import i.place i.name i.ty is (so_many_imported is)

more_functions : (there : Spaces) (h : Holding) → (spaces_with there h).functions ≡ there.functions + length (imported_functions (imports_in h)) + length (functions_in h)
more_functions there (types ts) = omega arith
more_functions there (imports is) = let e = so_many_imported is in omega arith
more_functions there (functions fs) = omega arith
more_functions there (tables ts) = omega arith
more_functions there (memories ms) = omega arith
more_functions there (globals gs) = omega arith
more_functions there (exports es) = omega arith
more_functions there framed = omega arith

functions_behind : (p : Progress) (ss : List SectionValue) → (behind_all p ss).functions ≡ p.spaces.functions + length (imported_functions (all_imports ss)) + length (all_functions ss)
functions_behind p [] = omega arith
functions_behind p (s ∷ ss) =
    let rest = functions_behind (progress_with p s) ss in
    let one = more_functions p.spaces s.holds in
    let both = length-append (functions_in s.holds) (all_functions ss) in
    let joined = ap length (flat_map-append (λ (i : ImportValue). function_in i.ty) (imports_in s.holds) (all_imports ss)) in
    let sum = length-append (imported_functions (imports_in s.holds)) (imported_functions (all_imports ss)) in
    omega arith

-- ---- what sections name is there behind them all

below : (n k : ℕ) (xs : List ℕ) → n ≤ k → Each (λ i. i < n) xs → Each (λ i. i < k) xs
below n k xs le h = each_more (λ i. i < n) (λ i. i < k) (λ i lt. omega arith) xs h

names_on : (n k : ℕ) (kind : ExportKind) (i : ℕ) → n ≤ k → NamesFunction n kind i → NamesFunction k kind i
names_on n k kinds.Func i le h = omega arith
names_on n k kinds.Table i le h = tt
names_on n k kinds.Memory i le h = tt
names_on n k kinds.Global i le h = tt

imports_within : (n m k : ℕ) (h : Holding) → n ≤ m → IsWithin n k h → Each (λ (i : ImportValue). NamesType m i.ty) (imports_in h)
imports_within n m k (imports is) le w = each_more (λ (i : ImportValue). NamesType n i.ty) (λ (i : ImportValue). NamesType m i.ty) (λ i. below n m (function_in i.ty) le) is w
imports_within n m k (types ts) le w = tt
imports_within n m k (functions fs) le w = tt
imports_within n m k (tables ts) le w = tt
imports_within n m k (memories ms) le w = tt
imports_within n m k (globals gs) le w = tt
imports_within n m k (exports es) le w = tt
imports_within n m k framed le w = tt

functions_within : (n m k : ℕ) (h : Holding) → n ≤ m → IsWithin n k h → Each (λ i. i < m) (functions_in h)
functions_within n m k (functions fs) le w = below n m fs le w
functions_within n m k (types ts) le w = tt
functions_within n m k (imports is) le w = tt
functions_within n m k (tables ts) le w = tt
functions_within n m k (memories ms) le w = tt
functions_within n m k (globals gs) le w = tt
functions_within n m k (exports es) le w = tt
functions_within n m k framed le w = tt

exports_within : (n k m : ℕ) (h : Holding) → k ≤ m → IsWithin n k h → Each (λ (e : ExportValue). NamesFunction m e.kind e.index) (exports_in h)
exports_within n k m (exports es) le w =
    each_more (λ (e : ExportValue). NamesFunction k e.kind e.index) (λ (e : ExportValue). NamesFunction m e.kind e.index) (λ e. names_on k m e.kind e.index le) es w
exports_within n k m (types ts) le w = tt
exports_within n k m (imports is) le w = tt
exports_within n k m (functions fs) le w = tt
exports_within n k m (tables ts) le w = tt
exports_within n k m (memories ms) le w = tt
exports_within n k m (globals gs) le w = tt
exports_within n k m framed le w = tt

-- what is said of all sections, where so many types and functions are there behind them
pub record AreWithin (n k : ℕ) (ss : List SectionValue) : Type 0 where
  pub imports : Each (λ (i : ImportValue). NamesType n i.ty) (all_imports ss)
  pub functions : Each (λ i. i < n) (all_functions ss)
  pub exports : Each (λ (e : ExportValue). NamesFunction k e.kind e.index) (all_exports ss)

all_within : (p : Progress) (bytes : List ℕ) (ss : List SectionValue) → AreSteps (λ t. (format.◌>>=◌ format.byte (λ b. meaning (next b) t)).form) progress_with p bytes ss
    → AreWithin (behind_all p ss).types (behind_all p ss).functions ss
all_within p bytes [] h = record { imports = tt; functions = tt; exports = tt }
all_within p bytes (s ∷ ss) h =
    let q = progress_with p s in
    let rest = all_within q h.back ss h.second in
    let one = step_within p h.front s h.first in
    let types_there = more_types p.spaces s.holds in
    let functions_there = more_functions p.spaces s.holds in
    let types_on = types_behind q ss in
    let functions_on = functions_behind q ss in
    let n = (behind_all q ss).types in
    let k = (behind_all q ss).functions in
    let more : p.spaces.types ≤ n = omega arith in
    let others : p.spaces.functions ≤ k = omega arith in
    record {
      imports = each_append (λ (i : ImportValue). NamesType n i.ty) (imports_in s.holds) (all_imports ss) (imports_within p.spaces.types n p.spaces.functions s.holds more one) rest.imports;
      functions = each_append (λ i. i < n) (functions_in s.holds) (all_functions ss) (functions_within p.spaces.types n p.spaces.functions s.holds more one) rest.functions;
      exports = each_append (λ (e : ExportValue). NamesFunction k e.kind e.index) (exports_in s.holds) (all_exports ss) (exports_within p.spaces.types p.spaces.functions k s.holds others one) rest.exports;
    }

-- ---- modules

type_there : (m : ModuleValue) (k : ℕ) → Each (λ i. i < length m.types) m.function_space → k < length m.function_space → (t : FuncTypeValue) × (function_type_at m k ≡ Some t)
type_there m k each lt =
    let place = each_get (λ i. i < length m.types) m.function_space k each lt in
    let found = each_get (λ _. Unit {0}) m.types place.0 (all_there m.types) place.2 in
    (found.0, ap (option_and_then (slice_get m.types)) place.1 ∙ found.1)
  where
    all_there : (ts : List FuncTypeValue) → Each (λ _. Unit {0}) ts
    all_there [] = tt
    all_there (t ∷ ts) = (tt, all_there ts)

has_type : (m : ModuleValue) (kind : ExportKind) (i : ℕ) → Each (λ i. i < length m.types) m.function_space → NamesFunction (length m.function_space) kind i → HasType m kind i
has_type m kinds.Func i each lt = type_there m i each lt
has_type m kinds.Table i each lt = tt
has_type m kinds.Memory i each lt = tt
has_type m kinds.Global i each lt = tt

exports_typed : (ss : List SectionValue) → AreWithin (length (all_types ss)) (length (imported_functions (all_imports ss)) + length (all_functions ss)) ss → ExportsHaveTypes (module_of ss)
exports_typed ss h =
    let m = module_of ss in
    let each : Each (λ i. i < length m.types) m.function_space =
    each_append (λ i. i < length m.types) (imported_functions (all_imports ss)) (all_functions ss)
    (each_flat (λ i. i < length m.types) (λ (i : ImportValue). function_in i.ty) (all_imports ss) h.imports) h.functions in
    let many : length (imported_functions (all_imports ss)) + length (all_functions ss) ≤ length m.function_space = let e = length-append (imported_functions (all_imports ss)) (all_functions ss) in omega arith in
    each_more (λ (e : ExportValue). NamesFunction (length (imported_functions (all_imports ss)) + length (all_functions ss)) e.kind e.index) (λ (e : ExportValue). HasType m e.kind e.index)
    (λ e names. has_type m e.kind e.index each (names_on (length (imported_functions (all_imports ss)) + length (all_functions ss)) (length m.function_space) e.kind e.index many names)) (all_exports ss) h.exports

pub read_modules_have_types : ReadModulesHaveTypes
unfolding file sections
read_modules_have_types bytes m h =
    let ss = h.sections in
    let within = all_within nothing h.are.back ss h.are.second in
    let n : (behind_all nothing ss).types ≡ length (all_types ss) = let e = types_behind nothing ss in omega arith in
    let k : (behind_all nothing ss).functions ≡ length (imported_functions (all_imports ss)) + length (all_functions ss) = let e = functions_behind nothing ss in omega arith in
    subst ExportsHaveTypes h.made (exports_typed ss (subst (λ j. AreWithin (length (all_types ss)) j ss) k (subst (λ i. AreWithin i (behind_all nothing ss).functions ss) n within)))
