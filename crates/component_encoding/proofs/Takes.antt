-- A core export that is taken from the instance of the main module.
use Rattle.std.proofs.Common.{◌≡◌, ℕ, List, [], ◌∷◌, ◌++◌, length, Bool, true, false, Option, Some, None, refl, sym, ap, subst, ◌∙◌}
use Rattle.std.proofs.lemmas.List.{append-nil}
use Rattle.std.proofs.lemmas.Slice.Eq.{bytes_eq-Decides}
use Rattle.std.specs.Prelude.{if◌then◌else◌, map, slice_get, option_and_then, bytes_eq}
use Rattle.wasm_types.specs.declared.types.ExportKind.{ExportKind}
use Rattle.wasm_types.specs.declared.types.ExportKind.TheVariants as kinds
use Rattle.component_definitions.specs.Aliases.{core_instance_export}
use Rattle.component_entries.specs.Entries.{an_alias}
use Rattle.component_sections.specs.Component.{DefinitionValue, an_entry}
use Rattle.component_builder.specs.Builder.{index_behind}
use Rattle.linked_imports.specs.Passed.component_meaning-Core.{CoreType, is_of_kind, CoreExport, MainModule, of_export, CoreItem, CoreEntry, CoreInstance}
use Rattle.linked_imports.specs.Passed.component_meaning-Spaces.{Spaces, after, meaning, core_at, core_export, entry_named, if_of_kind}
use Rattle.linked_imports.proofs.Passed.component_meaning-Staying.{spaces_end}
use Rattle.wit_arena.proofs.Lists.{get_last}
use Rattle.component_encoding.specs.Growing.{AddsCoreItems, export_named, Offers, IsMainInstance, export_item}
use Rattle.component_encoding.proofs.Counts.{Lengths, counts}
use Rattle.component_encoding.proofs.Growth.{next}

abbrev pub taking : ExportKind → ℕ → List ℕ → DefinitionValue
taking kind instance name = an_entry (an_alias (core_instance_export kind instance name))

-- ---- what an instance of the main module exports

abbrev entries_of : ℕ → List CoreExport → List CoreEntry
entries_of n es = map (λ (e : CoreExport). record { name = e.name; item = Some (record { origin = of_export n e.name; ty = e.ty }) }) es

one_entry : (n : ℕ) (e : CoreExport) (es : List CoreExport) (name : List ℕ) (ty : CoreType) (b : Bool) → bytes_eq name e.name ≡ b → (export_named es name ≡ Some ty → entry_named name (entries_of n es) ≡ Some (export_item n name ty))
    → (if b then Some e.ty else export_named es name) ≡ Some ty → (if b then Some (record { origin = of_export n e.name; ty = e.ty }) else entry_named name (entries_of n es)) ≡ Some (export_item n name ty)
one_entry n e es name ty true is rest at =
    let same : name ≡ e.name = (bytes_eq-Decides name e.name).0 is in
    let typed : e.ty ≡ ty = cc in
    λ i. Some (export_item n (sym same i) (typed i))
one_entry n e es name ty false is rest at = rest at

named_entry : (n : ℕ) (es : List CoreExport) (name : List ℕ) (ty : CoreType) → export_named es name ≡ Some ty → entry_named name (entries_of n es) ≡ Some (export_item n name ty)
named_entry n [] name ty h = absurd cc
named_entry n (e ∷ es) name ty h = one_entry n e es name ty (bytes_eq name e.name) refl (named_entry n es name ty) h

exported : (main : MainModule) (s : Spaces) (instance : ℕ) (kind : ExportKind) (name : List ℕ) (ty : CoreType) → IsMainInstance main s instance → Offers main kind name ty → core_export s.core_instances instance name ≡ Some (export_item instance name ty)
exported main s instance kind name ty m o =
    ap (option_and_then (λ (i : CoreInstance). entry_named name i.exports)) m.there
    ∙ ap (entry_named name) m.has
    ∙ named_entry instance main.exports name ty o.there

of_kind : (kind : ExportKind) (found : Option CoreItem) (c : CoreItem) → found ≡ Some c → is_of_kind kind c.ty ≡ true → if_of_kind kind found ≡ Some c
of_kind kind found c e k = ap (if_of_kind kind) e ∙ ap (λ b. if b then Some c else None) k

-- ---- taking one

last : (xs : List (Option CoreItem)) (x : Option CoreItem) (c : CoreItem) (i : ℕ) → i ≡ length xs → x ≡ Some c → option_and_then (λ y. y) (slice_get (xs ++ x ∷ []) i) ≡ Some c
last xs x c i at is = ap (λ n. option_and_then (λ y. y) (slice_get (xs ++ x ∷ []) n)) at ∙ ap (option_and_then (λ y. y)) (get_last xs x) ∙ is

module _ (main : MainModule) (ds : List DefinitionValue) (instance : ℕ) (name : List ℕ) where
  taken : (kind : ExportKind) (ty : CoreType) (i : ℕ) → i ≡ index_behind ds (taking kind instance name) → IsMainInstance main (meaning main ds) instance → Offers main kind name ty
      → core_at kind (after main (meaning main ds) (taking kind instance name)) i ≡ Some (export_item instance name ty)
  taken kinds.Func ty i at m o =
      last (meaning main ds).core_functions (if_of_kind kinds.Func (core_export (meaning main ds).core_instances instance name)) (export_item instance name ty) i
      (at ∙ ap (λ (l : Lengths). l.core_functions) (counts main ds)) (of_kind kinds.Func (core_export (meaning main ds).core_instances instance name) (export_item instance name ty) (exported main (meaning main ds) instance kinds.Func name ty m o) o.kind_is)
  taken kinds.Table ty i at m o =
      last (meaning main ds).core_tables (if_of_kind kinds.Table (core_export (meaning main ds).core_instances instance name)) (export_item instance name ty) i
      (at ∙ ap (λ (l : Lengths). l.core_tables) (counts main ds)) (of_kind kinds.Table (core_export (meaning main ds).core_instances instance name) (export_item instance name ty) (exported main (meaning main ds) instance kinds.Table name ty m o) o.kind_is)
  taken kinds.Memory ty i at m o =
      last (meaning main ds).core_memories (if_of_kind kinds.Memory (core_export (meaning main ds).core_instances instance name)) (export_item instance name ty) i
      (at ∙ ap (λ (l : Lengths). l.core_memories) (counts main ds)) (of_kind kinds.Memory (core_export (meaning main ds).core_instances instance name) (export_item instance name ty) (exported main (meaning main ds) instance kinds.Memory name ty m o) o.kind_is)
  taken kinds.Global ty i at m o =
      last (meaning main ds).core_globals (if_of_kind kinds.Global (core_export (meaning main ds).core_instances instance name)) (export_item instance name ty) i
      (at ∙ ap (λ (l : Lengths). l.core_globals) (counts main ds)) (of_kind kinds.Global (core_export (meaning main ds).core_instances instance name) (export_item instance name ty) (exported main (meaning main ds) instance kinds.Global name ty m o) o.kind_is)

  only_core : (kind : ExportKind) → AddsCoreItems (meaning main ds) (after main (meaning main ds) (taking kind instance name))
  only_core kinds.Func = (let s = meaning main ds in record { scope = ap (λ (x : Spaces). x.scope) (spaces_end s); modules = append-nil s.modules; instances = append-nil s.core_instances })
  only_core kinds.Table = (let s = meaning main ds in record { scope = ap (λ (x : Spaces). x.scope) (spaces_end s); modules = append-nil s.modules; instances = append-nil s.core_instances })
  only_core kinds.Memory = (let s = meaning main ds in record { scope = ap (λ (x : Spaces). x.scope) (spaces_end s); modules = append-nil s.modules; instances = append-nil s.core_instances })
  only_core kinds.Global = (let s = meaning main ds in record { scope = ap (λ (x : Spaces). x.scope) (spaces_end s); modules = append-nil s.modules; instances = append-nil s.core_instances })

  pub takes : (kind : ExportKind) (ty : CoreType) (i : ℕ) (es : List DefinitionValue) → es ≡ ds ++ taking kind instance name ∷ [] → i ≡ index_behind ds (taking kind instance name) → IsMainInstance main (meaning main ds) instance → Offers main kind name ty
      → core_at kind (meaning main es) i ≡ Some (export_item instance name ty)
  takes kind ty i es is at m o = ap (λ l. core_at kind (meaning main l) i) is ∙ ap (λ s. core_at kind s i) (next main ds (taking kind instance name)) ∙ taken kind ty i at m o

  pub takes_only : (kind : ExportKind) (es : List DefinitionValue) → es ≡ ds ++ taking kind instance name ∷ [] → AddsCoreItems (meaning main ds) (meaning main es)
  takes_only kind es is = subst (AddsCoreItems (meaning main ds)) (sym (ap (meaning main) is ∙ next main ds (taking kind instance name))) (only_core kind)
