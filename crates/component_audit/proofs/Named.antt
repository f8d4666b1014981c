-- First places of names.
use Rattle.std.proofs.Common.{◌≡◌, ℕ, zero, suc, List, [], ◌∷◌, Option, Some, None, refl, sym, ap, ◌∙◌, inl, inr}
use Rattle.std.specs.Prelude.{map, option_map, option_and_then, slice_get, bytes_eq}
use Rattle.std.proofs.lemmas.Bool.{cases_Bool}
use Rattle.name_places.specs.FirstPlaces.{place_of}
use Rattle.wasm_types.specs.declared.entries.Export.{Export}
use Rattle.wasm_types.specs.Types.{FuncTypeValue}
use Rattle.wasm_types.specs.Entries.{export_value}
use Rattle.wasm_format.specs.Module.{ModuleValue, exported_type}
use Rattle.wit_component.specs.Linking.{core_export}
use Rattle.known_definitions.specs.declared.definition.Argument.{Argument}
use Rattle.known_definitions.specs.declared.definition.InlineExport.{InlineExport}
use Rattle.known_definitions.specs.Definition.{argument_value, inline_export_value}
use Rattle.wit_component.specs.Meaning.{CoreFunction, CoreEntry, Spaces, of_export, item_at, entry_named, argument_named, exports_of, inline_entries}
use Rattle.component_audit.specs.SpacesView.{core_entries, entry_item, argument_item}

-- ---- looking a name up by its first place

no_item : (i : Option ℕ) → option_and_then (item_at {X = CoreFunction} []) i ≡ None
no_item None = refl
no_item (Some i) = refl

next_item : (f : Option CoreFunction) (fs : List (Option CoreFunction)) (i : Option ℕ) → option_and_then (item_at fs) i ≡ option_and_then (item_at (f ∷ fs)) (option_map suc i)
next_item f fs None = refl
next_item f fs (Some i) = refl

pub entry_at_place : (name : List ℕ) (ns : List (List ℕ)) (fs : List (Option CoreFunction)) → entry_named name (core_entries ns fs) ≡ option_and_then (item_at fs) (place_of name ns)
entry_at_place name [] fs = refl
entry_at_place name (n ∷ ns) [] = sym (no_item (place_of name (n ∷ ns)))
entry_at_place name (n ∷ ns) (f ∷ fs) = elim (cases_Bool (bytes_eq name n)) [
  | inl t ↦ rw t refl
  | inr t ↦ rw t (entry_at_place name ns fs ∙ next_item f fs (place_of name ns))
]

next_entry : (e : CoreEntry) (es : List CoreEntry) (i : Option ℕ) → option_and_then (entry_item es) i ≡ option_and_then (entry_item (e ∷ es)) (option_map suc i)
next_entry e es None = refl
next_entry e es (Some i) = refl

pub entry_named_at : (name : List ℕ) (es : List CoreEntry) → entry_named name es ≡ option_and_then (entry_item es) (place_of name (map (λ (e : CoreEntry). e.name) es))
entry_named_at name [] = refl
entry_named_at name (e ∷ es) = elim (cases_Bool (bytes_eq name e.name)) [
  | inl t ↦ rw t refl
  | inr t ↦ rw t (entry_named_at name es ∙ next_entry e es (place_of name (map (λ (x : CoreEntry). x.name) es)))
]

next_argument : (a : Argument) (args : List Argument) (i : Option ℕ) → option_and_then (argument_item args) i ≡ option_and_then (argument_item (a ∷ args)) (option_map suc i)
next_argument a args None = refl
next_argument a args (Some i) = refl

pub argument_at_place : (args : List Argument) (name : List ℕ) → argument_named (map argument_value args) name ≡ option_and_then (argument_item args) (place_of name (map (λ (a : Argument). a.name.now) args))
argument_at_place [] name = refl
argument_at_place (a ∷ args) name = elim (cases_Bool (bytes_eq name a.name.now)) [
  | inl t ↦ rw t refl
  | inr t ↦ rw t (argument_at_place args name ∙ next_argument a args (place_of name (map (λ (x : Argument). x.name.now) args)))
]

-- ---- what a look-up answers

pub entry_found : (name : List ℕ) (ns : List (List ℕ)) (fs : List (Option CoreFunction)) (p : ℕ) (r : Option CoreFunction) → Some p ≡ place_of name ns → r ≡ item_at fs p → r ≡ entry_named name (core_entries ns fs)
entry_found name ns fs p r at is = is ∙ ap (option_and_then (item_at fs)) at ∙ sym (entry_at_place name ns fs)

pub entry_missing : (name : List ℕ) (ns : List (List ℕ)) (fs : List (Option CoreFunction)) → None ≡ place_of name ns → None ≡ entry_named name (core_entries ns fs)
entry_missing name ns fs at = ap (option_and_then (item_at fs)) at ∙ sym (entry_at_place name ns fs)

module _ (args : List Argument) (ns : List (List ℕ)) (names : ns ≡ map (λ (a : Argument). a.name.now) args) (name : List ℕ) where
  pub argument_found : (p : ℕ) (r : Option ℕ) → Some p ≡ place_of name ns → r ≡ argument_item args p → r ≡ argument_named (map argument_value args) name
  argument_found p r at is = is ∙ ap (option_and_then (argument_item args)) (at ∙ ap (place_of name) names) ∙ sym (argument_at_place args name)

  pub argument_missing : None ≡ place_of name ns → None ≡ argument_named (map argument_value args) name
  argument_missing at = ap (option_and_then (argument_item args)) (at ∙ ap (place_of name) names) ∙ sym (argument_at_place args name)

-- the main module's exports, of these
module _ (m : ModuleValue) (bytes : List ℕ) (k : ℕ) where
  abbrev pub export_entries : List Export → List CoreEntry
  export_entries xs = exports_of (record { bytes = bytes; imports = []; exports = map (core_export m) (map export_value xs) }) k

  export_names : (xs : List Export) → map (λ (e : Export). e.name.now) xs ≡ map (λ (e : CoreEntry). e.name) (export_entries xs)
  export_names [] = refl
  export_names (x ∷ xs) = ap (λ (ns : List (List ℕ)). x.name.now ∷ ns) (export_names xs)

  abbrev pub export_item : Export → Option CoreFunction
  export_item e = option_map (λ (t : FuncTypeValue). record { origin = of_export k e.name.now; ty = t }) (exported_type m e.kind e.index)

  export_at_place : (xs : List Export) (i : ℕ) → entry_item (export_entries xs) i ≡ option_and_then export_item (slice_get xs i)
  export_at_place [] i = refl
  export_at_place (x ∷ xs) zero = refl
  export_at_place (x ∷ xs) (suc i) = export_at_place xs i

  pub export_here : (xs : List Export) (i : ℕ) (e : Export) (t : Option FuncTypeValue) → slice_get xs i ≡ Some e → t ≡ exported_type m e.kind e.index
      → option_map (λ (u : FuncTypeValue). record { origin = of_export k e.name.now; ty = u }) t ≡ entry_item (export_entries xs) i
  export_here xs i e t at is = ap (option_map (λ (u : FuncTypeValue). record { origin = of_export k e.name.now; ty = u })) is ∙ sym (export_at_place xs i ∙ ap (option_and_then export_item) at)

  module _ (xs : List Export) (ns : List (List ℕ)) (names : ns ≡ map (λ (e : Export). e.name.now) xs) (name : List ℕ) where
    whole : entry_named name (export_entries xs) ≡ option_and_then (entry_item (export_entries xs)) (place_of name ns)
    whole = entry_named_at name (export_entries xs) ∙ ap (λ (l : List (List ℕ)). option_and_then (entry_item (export_entries xs)) (place_of name l)) (sym (names ∙ export_names xs))

    pub export_found : (p : ℕ) (r : Option CoreFunction) → Some p ≡ place_of name ns → r ≡ entry_item (export_entries xs) p → r ≡ entry_named name (export_entries xs)
    export_found p r at is = is ∙ ap (option_and_then (entry_item (export_entries xs))) at ∙ sym whole

    pub export_missing : None ≡ place_of name ns → None ≡ entry_named name (export_entries xs)
    export_missing at = ap (option_and_then (entry_item (export_entries xs))) at ∙ sym whole

-- ---- lists

pub inline_are : (s : Spaces) (xs : List InlineExport) → core_entries (map (λ (e : InlineExport). e.name.now) xs) (map (λ (e : InlineExport). item_at s.core_functions e.func) xs) ≡ inline_entries s (map inline_export_value xs)
inline_are s [] = refl
inline_are s (x ∷ xs) = ap (λ (es : List CoreEntry). record { name = x.name.now; item = item_at s.core_functions x.func } ∷ es) (inline_are s xs)
