-- One function that is exported, and one more.
use Rattle.std.proofs.Common.{◌≡◌, ◌<◌, ℕ, zero, suc, ◌+◌, List, [], ◌∷◌, ◌++◌, length, map, get_or, Some, None, refl, sym, ap, subst, ◌∙◌, arith, append_assoc, inl, inr}
use Rattle.std.proofs.lemmas.List.{append-nil, length-append}
use Rattle.std.specs.Prelude.{slice_get, string_bytes}
use Rattle.std.specs.List.{AllByRecursion as Each}
use Rattle.component_definitions.specs.declared.canonical.CanonicalOption.{CanonicalOption}
use Rattle.component_sections.specs.Component.{DefinitionValue}
use Rattle.type_writing.specs.Passed.type_meaning-Words.{BinaryTree}
use Rattle.type_writing.specs.Passed.type_meaning-Items.{from_lift, Entry, type_at, is_function}
use Rattle.linked_imports.specs.Passed.component_meaning-Core.{MainModule, of_function}
use Rattle.linked_imports.specs.Passed.component_meaning-Spaces.{Spaces, core_at, meaning}
use Rattle.wasm_types.specs.declared.types.ExportKind.TheVariants as kinds
use Rattle.wasm_types.specs.declared.entries.Export.{Export}
use Rattle.wasm_types.specs.Entries.{ExportValue, export_value}
use Rattle.wit_types.specs.declared.function.Function.{Function}
use Rattle.type_writing.specs.Writing.{Begins}
use Rattle.linked_imports.specs.Passed.link_table-View.{name_at, IsLinkOf, AreLinksOfEntries}
use Rattle.linked_imports.specs.Passed.link_table-declared-exports-ExportLink.{ExportLink}
use Rattle.linked_imports.specs.Passed.link_table-Linking.{Linking}
use Rattle.linked_imports.specs.Passed.link_table-Table.{ExportEntry}
use Rattle.linked_imports.specs.Passed.right_components-Ends.{AreOptionsOf}
use Rattle.wit_arena.proofs.Lists.{get_more}
use Rattle.component_encoding.specs.Growing.{Grows, AddsCoreItems, IsMainInstance, export_item}
use Rattle.component_encoding.specs.declared.exports.Shared.{Shared}
use Rattle.component_encoding.specs.Exports.{AreShared, IsEntryOffered, IsExportOf, AddsExport, lifted, IsOneExported, AreTypes, AreExported}
use Rattle.component_encoding.proofs.Lists.{get_there, get_map, each_at}
use Rattle.component_encoding.proofs.Staying.{export_stays}
use Rattle.component_encoding.specs.Placing.{StayPlacedWith}
use Rattle.component_encoding.proofs.Behind.{StayPlacedTo, placed_next}
use Rattle.component_encoding.proofs.Growth.{grows, main_stays}

-- behind core items alone
pub adds_behind : (s t u : Spaces) (x : Entry) → AddsCoreItems s t → AddsExport t u x → AddsExport s u x
adds_behind s t u x a h = record {
  types = h.types ∙ ap (λ z. z.types) a.scope;
  imports = h.imports ∙ ap (λ z. z.imports) a.scope;
  exports = h.exports ∙ ap (λ z. z.exports ++ x ∷ []) a.scope;
  modules = h.modules ∙ a.modules;
  instances = h.instances ∙ a.instances;
}

-- the lift of the core export of an entry, with its options
pub one_exported : (l : Linking) (main : MainModule) (s t u : Spaces) (e : ExportEntry) (name : List ℕ) (instance core ty : ℕ) (options : List CanonicalOption) (tree : BinaryTree)
    → IsEntryOffered l main e → name ≡ string_bytes e.function.name → AddsCoreItems s t → AddsExport t u (lifted name core options tree) → Grows t u
    → (h : IsEntryOffered l main e) → core_at kinds.Func t core ≡ Some (export_item instance e.name (of_function h.ty)) → AreOptionsOf l t instance e.options options → type_at is_function s.scope.types ty ≡ Some tree
    → IsOneExported l s u e ty
one_exported l main s t u e name instance core ty options tree offered named items adds g h is are typed = (
  lifted name core options tree,
  adds_behind s t u (lifted name core options tree) items adds,
  export_stays l t u e ty (lifted name core options tree) g adds.types (record {
    named = named;
    origin = from_lift core options;
    tree = tree;
    type_is = ap (λ z. type_at is_function z.types ty) items.scope ∙ typed;
    is = refl;
    lifts = record {
      core = core;
      options = options;
      lifts = refl;
      instance = instance;
      item = export_item instance e.name (of_function h.ty);
      is = is;
      ends = refl;
      ty = h.ty;
      typed = h.typed;
      matches = refl;
      are = are;
    };
  }),
)

-- the name of a core export by its place
pub name_there : (es : List Export) (k : ℕ) (d : Export) (n : List ℕ) → name_at (map export_value es) k ≡ Some n → (get_or es k d).name.now ≡ n
name_there [] k d n h = absurd cc
name_there (e ∷ es) zero d n h = (let same : e.name.now ≡ n = cc in same)
name_there (e ∷ es) (suc k) d n h = name_there es k d n h

-- ---- one by one

-- as far as the first ones
pub record AreExportedTo (l : Linking) (old new : Spaces) (es : List ExportEntry) (types : List ℕ) (n : ℕ) : Type 0 where
  pub types_stay : new.scope.types ≡ old.scope.types
  pub imports : new.scope.imports ≡ old.scope.imports
  pub modules : new.modules ≡ old.modules
  pub instances : new.core_instances ≡ old.core_instances
  pub entries : List Entry
  pub exports : new.scope.exports ≡ old.scope.exports ++ entries
  pub so_many : length entries ≡ n
  pub each : (k : ℕ) (e : ExportEntry) (ty : ℕ) (x : Entry) → slice_get es k ≡ Some e → slice_get types k ≡ Some ty → slice_get entries k ≡ Some x → IsExportOf l new e ty x

pub none_exported : (l : Linking) (s : Spaces) (es : List ExportEntry) (types : List ℕ) → AreExportedTo l s s es types 0
none_exported l s es types = record {
  types_stay = refl;
  imports = refl;
  modules = refl;
  instances = refl;
  entries = [];
  exports = sym (append-nil s.scope.exports);
  so_many = refl;
  each = λ k e ty x a b at. absurd cc;
}

pub exported_next : (l : Linking) (old s t : Spaces) (es : List ExportEntry) (types : List ℕ) (n : ℕ) (e : ExportEntry) (ty : ℕ) → slice_get es n ≡ Some e → slice_get types n ≡ Some ty → Grows s t → AreExportedTo l old s es types n → IsOneExported l s t e ty
    → AreExportedTo l old t es types (n + 1)
exported_next l old s t es types n e ty at_e at_ty g h one =
    let x = one.0 in
    let adds = one.1 in
    let size = length-append h.entries (x ∷ []) in
    let many = h.so_many in
    record {
      types_stay = adds.types ∙ h.types_stay;
      imports = adds.imports ∙ h.imports;
      modules = adds.modules ∙ h.modules;
      instances = adds.instances ∙ h.instances;
      entries = h.entries ++ x ∷ [];
      exports = adds.exports ∙ ap (λ l. l ++ x ∷ []) h.exports ∙ append_assoc old.scope.exports h.entries (x ∷ []);
      so_many = omega (arith, size, many);
      each = λ k f u y a b at. elim (get_more h.entries x y k at) as (λ _. IsExportOf l t f u y) [
        | inl was ↦ export_stays l s t f u y g adds.types (h.each k f u y a b was)
        | inr last ↦
            let k_is : k ≡ n = last.0 ∙ many in
            let e_same : Some e ≡ Some f = sym at_e ∙ ap (slice_get es) (sym k_is) ∙ a in
            let ty_same : Some ty ≡ Some u = sym at_ty ∙ ap (slice_get types) (sym k_is) ∙ b in
            let e_is : e ≡ f = cc in
            let ty_is : ty ≡ u = cc in
            let y_is : x ≡ y = sym last.1 in
            subst (λ v. IsExportOf l t f u v) y_is (subst (λ v. IsExportOf l t f v x) ty_is (subst (λ v. IsExportOf l t v ty x) e_is one.2))
      ];
    }

pub all_exported : (l : Linking) (old new : Spaces) (es : List ExportEntry) (types : List ℕ) (n : ℕ) → n ≡ length es → AreExportedTo l old new es types n → AreExported l old new es types
all_exported l old new es types n all h = record {
  types_stay = h.types_stay;
  imports = h.imports;
  modules = h.modules;
  instances = h.instances;
  entries = h.entries;
  exports = h.exports;
  so_many = h.so_many ∙ all;
  each = h.each;
}

-- ---- of all entries

abbrev pub AreExportedBy : List ExportValue → List ExportLink → List Function → List ℕ → ℕ → List DefinitionValue → List DefinitionValue → Shared → ℕ → Type 0
AreExportedBy exports links functions types instance start new shared n = (l : Linking) (main : MainModule) (es : List ExportEntry) → exports ≡ l.main.exports → AreLinksOfEntries l.main.exports es links → map (λ (e : ExportEntry). e.function) es ≡ functions
    → Each (IsEntryOffered l main) es → IsMainInstance main (meaning main start) instance → AreTypes (meaning main start) types
    → AreExportedTo l (meaning main start) (meaning main new) es types n × AreShared l.main.exports (meaning main new) instance shared × StayPlacedTo start new functions n

abbrev pub ExportsOne : List ExportValue → ExportLink → Function → ℕ → ℕ → List DefinitionValue → List DefinitionValue → Shared → Shared → Type 0
ExportsOne exports link f ty instance old new shared next = (l : Linking) (main : MainModule) (e : ExportEntry) (tree : BinaryTree) → exports ≡ l.main.exports → IsLinkOf l.main.exports link e → e.function ≡ f → IsEntryOffered l main e
    → IsMainInstance main (meaning main old) instance → type_at is_function (meaning main old).scope.types ty ≡ Some tree → AreShared l.main.exports (meaning main old) instance shared
    → IsOneExported l (meaning main old) (meaning main new) e ty × AreShared l.main.exports (meaning main new) instance next × StayPlacedWith old new (string_bytes f.name)

pub exports_next : (exports : List ExportValue) (links : List ExportLink) (functions : List Function) (types : List ℕ) (instance : ℕ) (start old new : List DefinitionValue) (shared next : Shared) (n : ℕ) (link : ExportLink) (f : Function) (ty : ℕ)
    → n < length links → slice_get links n ≡ Some link → slice_get functions n ≡ Some f → slice_get types n ≡ Some ty → Begins old new
    → AreExportedBy exports links functions types instance start old shared n → ExportsOne exports link f ty instance old new shared next → AreExportedBy exports links functions types instance start new next (n + 1)
exports_next exports links functions types instance start old new shared next n link f ty lt at_link at_f at_ty begins was one l main es same are named offered m typed =
    let before = was l main es same are named offered m typed in
    let so_many = are.so_many in
    let there = get_there es n (omega (arith, lt, so_many)) in
    let e = there.0 in
    let at_e = there.1 in
    let both : Some e.function ≡ Some f = sym (get_map (λ (x : ExportEntry). x.function) es n e at_e) ∙ ap (λ fs. slice_get fs n) named ∙ at_f in
    let is_f : e.function ≡ f = cc in
    let tree = each_at (λ (i : ℕ). (t : BinaryTree) × (type_at is_function (meaning main start).scope.types i ≡ Some t)) types n ty typed at_ty in
    let made = one l main e tree.0 same (are.each n e link at_e at_link) is_f (each_at (IsEntryOffered l main) es n e offered at_e) (main_stays main (meaning main start) (meaning main old) instance before.0.instances m)
    (ap (λ ts. type_at is_function ts ty) before.0.types_stay ∙ tree.1) before.1 in
    (exported_next l (meaning main start) (meaning main old) (meaning main new) es types n e ty at_e at_ty (grows main old new begins) before.0 made.0, made.1, placed_next start old new functions n f at_f before.2 made.2)

pub no_exports : (exports : List ExportValue) (links : List ExportLink) (functions : List Function) (types : List ℕ) (instance : ℕ) (start : List DefinitionValue) → AreExportedBy exports links functions types instance start start (record { memory = None; realloc = None }) 0
no_exports exports links functions types instance start l main es same are named offered m typed = (
  none_exported l (meaning main start) es types,
  record { memory = λ x e. absurd cc; realloc = λ x e. absurd cc },
  λ differ placed. (differ, placed),
)
