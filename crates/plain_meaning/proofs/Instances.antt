-- Core instances: what they export and are given.
use Rattle.std.proofs.Common.{◌≡◌, ℕ, zero, suc, List, [], ◌∷◌, ◌&&◌, Bool, true, false, Option, Some, None, refl, ap, ◌∙◌, inl, inr}
use Rattle.std.specs.Prelude.{map, option_map, option_and_then, bytes_eq, is_some, if◌then◌else◌}
use Rattle.std.specs.List.{AllByRecursion as Each, AllZip}
use Rattle.std.proofs.lemmas.Bool.{cases_Bool}
use Rattle.wasm_types.specs.declared.types.ExportKind.{ExportKind}
use Rattle.wasm_types.specs.declared.types.ExportKind.TheVariants as kinds
use Rattle.wasm_types.specs.Entries.{ImportValue, ExportValue}
use Rattle.wasm_format.specs.Module.{ModuleValue, imported_type, exported_type}
use Rattle.known_definitions.specs.Definition.{ArgumentValue, InlineExportValue}
use Rattle.known_definitions.specs.Known.{named_argument, named_function}
use Rattle.wit_component.specs.Linking as plain_main
use Rattle.wit_component.specs.Meaning as plain
use Rattle.wit_component.specs.Meaning.{CoreFunction}
use Rattle.component_meaning.specs.Core as cores
use Rattle.component_meaning.specs.Core.{CoreItem}
use Rattle.component_meaning.specs.Spaces as full
use Rattle.component_meaning.specs.Spaces.{if_of_kind}
use Rattle.right_components.specs.Main as full_main
use Rattle.right_components.specs.Main.{core_type}
use Rattle.plain_meaning.specs.Seen.{core_item, IsEntrySeenAs, IsInstanceSeenAs}
use Rattle.plain_meaning.specs.Law.{HasType, ExportsHaveTypes}
use Rattle.plain_meaning.proofs.Core.{given_same, is_function, core_found}

-- ---- what is exported under a name

entry_found : (name : List ℕ) (es : List plain.CoreEntry) (xs : List cores.CoreEntry) → AllZip IsEntrySeenAs es xs
    → if_of_kind kinds.Func (full.entry_named name xs) ≡ option_map core_item (plain.entry_named name es)
entry_found name [] [] h = refl
entry_found name [] (x ∷ xs) h = absurd h
entry_found name (e ∷ es) [] h = absurd h
entry_found name (e ∷ es) (x ∷ xs) h = elim (cases_Bool (bytes_eq name e.name)) [
  | inl called ↦ let same : bytes_eq name x.name ≡ true = rw h.0.name called in rw (same, called) h.0.item
  | inr other ↦ let same : bytes_eq name x.name ≡ false = rw h.0.name other in rw (same, other) (entry_found name es xs h.1)
]

pub export_found : (is : List plain.CoreInstance) (js : List cores.CoreInstance) (k : ℕ) (name : List ℕ) → AllZip IsInstanceSeenAs is js
    → if_of_kind kinds.Func (full.core_export js k name) ≡ option_map core_item (plain.exported is k name)
export_found [] [] k name h = refl
export_found [] (j ∷ js) k name h = absurd h
export_found (i ∷ is) [] k name h = absurd h
export_found (i ∷ is) (j ∷ js) zero name h = entry_found name i.exports j.exports h.0.exports
export_found (i ∷ is) (j ∷ js) (suc k) name h = export_found is js k name h.1

-- ---- what is given

argument_found : (args : List ArgumentValue) (place : List ℕ) → full.argument_named (map named_argument args) place ≡ plain.argument_named args place
argument_found [] place = refl
argument_found (a ∷ args) place = ap (λ more. if bytes_eq place a.name then Some a.instance else more) (argument_found args place)

looked_up : (is : List plain.CoreInstance) (js : List cores.CoreInstance) (name : List ℕ) (o : Option ℕ) → AllZip IsInstanceSeenAs is js
    → if_of_kind kinds.Func (option_and_then (λ k. full.core_export js k name) o) ≡ option_map core_item (option_and_then (λ k. plain.exported is k name) o)
looked_up is js name None h = refl
looked_up is js name (Some k) h = export_found is js k name h

given_one : (m : ModuleValue) (is : List plain.CoreInstance) (js : List cores.CoreInstance) (args : List ArgumentValue) (i : ImportValue) → AllZip IsInstanceSeenAs is js
    → full.given_for js (map named_argument args) (full_main.core_import m i) ≡ option_map core_item (plain.given_for is args (plain_main.core_import m i))
given_one m is js args i h =
    let found : if_of_kind kinds.Func (option_and_then (λ k. full.core_export js k i.name) (full.argument_named (map named_argument args) i.place))
    ≡ option_map core_item (option_and_then (λ k. plain.exported is k i.name) (plain.argument_named args i.place)) = rw (argument_found args i.place) (looked_up is js i.name (plain.argument_named args i.place) h) in
    given_same (imported_type m i.ty) (full_main.kind_of i.ty) (option_and_then (λ k. full.core_export js k i.name) (full.argument_named (map named_argument args) i.place))
    (option_and_then (λ k. plain.exported is k i.name) (plain.argument_named args i.place)) found

pub all_given_same : (m : ModuleValue) (is : List plain.CoreInstance) (js : List cores.CoreInstance) (args : List ArgumentValue) (imports : List ImportValue) → AllZip IsInstanceSeenAs is js
    → map (full.given_for js (map named_argument args)) (map (full_main.core_import m) imports) ≡ map (option_map core_item) (map (plain.given_for is args) (map (plain_main.core_import m) imports))
all_given_same m is js args [] h = refl
all_given_same m is js args (i ∷ imports) h =
    let one = given_one m is js args i h in
    let more = all_given_same m is js args imports h in
    λ k. one k ∷ more k

there_same : (o : Option CoreFunction) → is_some (option_map core_item o) ≡ is_some o
there_same None = refl
there_same (Some c) = refl

pub all_there_same : (given : List (Option CoreFunction)) → full.all_there (map (option_map core_item) given) ≡ plain.all_there given
all_there_same [] = refl
all_there_same (g ∷ given) =
    let one = there_same g in
    let more = all_there_same given in
    λ i. one i && more i

-- ---- what the main module exports

exported_kind : (m : ModuleValue) (n : ℕ) (name : List ℕ) (kind : ExportKind) (index : ℕ) → HasType m kind index
    → if_of_kind kinds.Func (Some (record { origin = cores.of_export n name; ty = core_type (exported_type m kind index) kind }))
    ≡ option_map core_item (option_map (λ t. record { origin = plain.of_export n name; ty = t }) (exported_type m kind index))
exported_kind m n name kinds.Func index h = rw h.1 refl
exported_kind m n name kinds.Table index h = refl
exported_kind m n name kinds.Memory index h = refl
exported_kind m n name kinds.Global index h = refl

pub exports_same : (m : ModuleValue) (n : ℕ) (es : List ExportValue) → Each (λ e. HasType m e.kind e.index) es
    → AllZip IsEntrySeenAs
    (map (λ (e : plain_main.CoreExport). record { name = e.name; item = option_map (λ t. record { origin = plain.of_export n e.name; ty = t }) e.ty }) (map (plain_main.core_export m) es))
    (map (λ (e : cores.CoreExport). record { name = e.name; item = Some (record { origin = cores.of_export n e.name; ty = e.ty }) }) (map (full_main.core_export m) es))
exports_same m n [] h = tt
exports_same m n (e ∷ es) h = (record { name = refl; item = exported_kind m n e.name e.kind e.index h.0 }, exports_same m n es h.1)

-- ---- instances

if_there : {X Y : Type 0} (R : X → Y → Type 0) (b : Bool) (xs : List X) (ys : List Y) → AllZip R xs ys → AllZip R (if b then xs else []) (if b then ys else [])
if_there R true xs ys h = h
if_there R false xs ys h = tt

pub main_same : (bytes : List ℕ) (m : ModuleValue) (n : ℕ) (given : List (Option CoreFunction)) → ExportsHaveTypes m
    → IsInstanceSeenAs (plain.main_instance (plain_main.main_of bytes m) n given) (full.main_instance (full_main.main_of bytes m) n (map (option_map core_item) given))
main_same bytes m n given h = record {
  source = refl;
  exports = rw (all_there_same given)
      (if_there IsEntrySeenAs (plain.all_there given) (plain.exports_of (plain_main.main_of bytes m) n) (full.exports_of (full_main.main_of bytes m) n) (exports_same m n m.exports h));
}

pub is_main_same : (bytes : List ℕ) (m : ModuleValue) (o : Option (List ℕ)) → full.is_main (full_main.main_of bytes m) o ≡ plain.is_main (plain_main.main_of bytes m) o
is_main_same bytes m None = refl
is_main_same bytes m (Some b) = refl

-- of core functions under names
pub inline_same : (s : plain.Spaces) (t : full.Spaces) (es : List InlineExportValue) → t.core_functions ≡ map (option_map core_item) s.core_functions
    → AllZip IsEntrySeenAs (plain.inline_entries s es) (map (full.inline_entry t) (map named_function es))
inline_same s t [] h = tt
inline_same s t (e ∷ es) h =
    let found : full.core_at kinds.Func t e.func ≡ option_map core_item (plain.item_at s.core_functions e.func) = rw h (core_found s.core_functions e.func) in
    (record { name = refl; item = ap (if_of_kind kinds.Func) found ∙ is_function (plain.item_at s.core_functions e.func) }, inline_same s t es h)
