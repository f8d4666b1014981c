-- What the main module has to offer, by the link table.
use Rattle.std.proofs.Common.{◌≡◌, ℕ, zero, suc, List, [], ◌∷◌, map, Bool, true, false, Option, Some, None, refl, sym, ap, subst, ◌∙◌, inl, inr, arith}
use Rattle.std.proofs.lemmas.Bool.{cases_Bool}
use Rattle.std.proofs.lemmas.Slice.Eq.{bytes_eq-Decides}
use Rattle.std.specs.Prelude.{slice_get, bytes_eq, if◌then◌else◌}
use Rattle.std.specs.List.{AllByRecursion as Each}
use Rattle.wasm_types.specs.declared.types.ExportKind.{ExportKind}
use Rattle.wasm_types.specs.declared.types.ExportKind.TheVariants as kinds
use Rattle.wasm_types.specs.Entries.{ExportValue}
use Rattle.wasm_types.specs.Types.{FuncTypeValue}
use Rattle.wasm_format.specs.Module.{ModuleValue, exported_type}
use Rattle.linked_imports.specs.Passed.component_meaning-Core.{of_function, of_kind}
use Rattle.core_links.specs.Names.{Names}
use Rattle.core_links.specs.Exports.{IsAt}
use Rattle.linked_imports.specs.Passed.link_table-Linking.{Linking}
use Rattle.linked_imports.specs.Passed.link_table-Options.{IsMemory, IsMemoryIf, IsRealloc, IsReallocIf, IsReallocAt, realloc_type}
use Rattle.linked_imports.specs.Passed.link_table-Table.{ExportEntry, IsExportEntry}
use Rattle.wit_types.specs.declared.mangling.AbiVariant.{AbiVariant}
use Rattle.linked_imports.specs.Passed.right_components-Main.{core_type, core_export, main_of}
use Rattle.linked_imports.specs.Passed.right_components-Ends.{IsNameOfMemory}
use Rattle.component_encoding.proofs.Lists.{get_has}
use Rattle.component_encoding.specs.Growing.{export_named, Offers}
use Rattle.component_encoding.specs.Exports.{IsOffered, IsEntryOffered}

-- ---- by a name that no other has

named_first : (m : ModuleValue) (es : List ExportValue) (k : ℕ) (e : ExportValue) → slice_get es k ≡ Some e → ((j : ℕ) (x : ExportValue) → slice_get es j ≡ Some x → x.name ≡ e.name → j ≡ k) → export_named (map (core_export m) es) e.name ≡ Some (core_export m e).ty
named_first m [] k e at only = absurd cc
named_first m (x ∷ xs) zero e at only =
    let same : x ≡ e = cc in
    ap (λ b. if b then Some (core_export m x).ty else export_named (map (core_export m) xs) e.name) ((bytes_eq-Decides e.name x.name).1 (ap (λ (y : ExportValue). y.name) (sym same))) ∙ ap (λ y. Some (core_export m y).ty) same
named_first m (x ∷ xs) (suc k) e at only = elim (cases_Bool (bytes_eq e.name x.name)) [
  | inl same ↦ (let z : zero ≡ suc k = only zero x refl (sym ((bytes_eq-Decides e.name x.name).0 same)) in absurd (omega (arith, z)))
  | inr differ ↦
      ap (λ b. if b then Some (core_export m x).ty else export_named (map (core_export m) xs) e.name) differ
      ∙ named_first m xs k e at (λ j y there named. (let z : suc j ≡ suc k = only (suc j) y there named in omega (arith, z)))
]

module _ (l : Linking) (bytes : List ℕ) where
  -- the core export at a place, whose name no other has
  at_place : (n : Names) (Is : List ℕ → Type 0) (place : ℕ) (e : ExportValue) → IsAt n l.main.exports Is place → slice_get l.main.exports place ≡ Some e → export_named (main_of bytes l.main).exports e.name ≡ Some (core_export l.main e).ty
  at_place n Is place e at there =
      let both : Some at.one ≡ Some e = sym at.there ∙ there in
      let same : at.one ≡ e = cc in
      named_first l.main l.main.exports place e there (λ j x here named. at.only j x here (subst Is (sym (named ∙ ap (λ (y : ExportValue). y.name) (sym same))) at.named))

  -- a function of this core type
  offers_function : (n : Names) (Is : List ℕ → Type 0) (place : ℕ) (e : ExportValue) (ty : FuncTypeValue) → IsAt n l.main.exports Is place → slice_get l.main.exports place ≡ Some e → exported_type l.main e.kind e.index ≡ Some ty → Offers (main_of bytes l.main) kinds.Func e.name (of_function ty)
  offers_function n Is place e ty at there typed = record { there = at_place n Is place e at there ∙ ap (λ t. Some (core_type t e.kind)) typed; kind_is = refl }

  of_memory : (e : ExportValue) → e.kind ≡ kinds.Memory → (core_export l.main e).ty ≡ of_kind kinds.Memory
  of_memory e is = ap (λ k. core_type (exported_type l.main k e.index) k) is

  offers_memory : (name : List ℕ) → IsMemory l name → IsNameOfMemory l name name × IsOffered (main_of bytes l.main) kinds.Memory name
  offers_memory name m =
      let e = m.at.export in (
        (m, e, get_has l.main.exports m.place e m.at.there, m.at.kind, refl, m.named),
        (of_kind kinds.Memory, record { there = ap (export_named (main_of bytes l.main).exports) m.named ∙ at_place l.names _ m.place e m.at.is m.at.there ∙ ap (λ t. Some t) (of_memory e m.at.kind); kind_is = refl }),
      )

  offers_realloc : (variant : AbiVariant) (name : List ℕ) → IsRealloc l variant name → IsOffered (main_of bytes l.main) kinds.Func name
  offers_realloc variant name r = (of_function realloc_type, subst (λ n. Offers (main_of bytes l.main) kinds.Func n (of_function realloc_type)) (sym r.named) (by r.is))
    where
      by : IsReallocAt l variant r.place → Offers (main_of bytes l.main) kinds.Func r.export.name (of_function realloc_type)
      by (inl own) = offers_function l.names _ r.place r.export realloc_type own r.there r.typed
      by (inr both) = offers_function l.names _ r.place r.export realloc_type both.1 r.there r.typed

  memory_if : (b : Bool) (found : Option (List ℕ)) (name : List ℕ) → IsMemoryIf l b found → found ≡ Some name → IsMemory l name
  memory_if false found name is e = (let no : None ≡ Some name = sym is ∙ e in absurd cc)
  memory_if true found name is e = (let both : Some is.0 ≡ Some name = sym is.2 ∙ e in let same : is.0 ≡ name = cc in subst (IsMemory l) same is.1)

  realloc_if : (variant : AbiVariant) (b : Bool) (found : Option (List ℕ)) (name : List ℕ) → IsReallocIf l variant b found → found ≡ Some name → IsRealloc l variant name
  realloc_if variant false found name is e = (let no : None ≡ Some name = sym is ∙ e in absurd cc)
  realloc_if variant true found name is e = (let both : Some is.0 ≡ Some name = sym is.2 ∙ e in let same : is.0 ≡ name = cc in subst (IsRealloc l variant) same is.1)

  pub entry_offered : (e : ExportEntry) → IsExportEntry l e → IsEntryOffered l (main_of bytes l.main) e
  entry_offered e h = record {
    ty = h.typed.0;
    typed = h.typed.1;
    offers = subst (λ n. Offers (main_of bytes l.main) kinds.Func n (of_function h.typed.0)) (sym h.named) (offers_function l.names _ h.place h.export h.typed.0 h.is h.there h.typed.2);
    options = record {
      memory = λ name e. offers_memory name (memory_if _ _ name h.options.2.memory e);
      realloc = λ name e. offers_realloc _ name (realloc_if _ _ _ name h.options.2.realloc e);
    };
  }

  pub entries_offered : (es : List ExportEntry) → Each (IsExportEntry l) es → Each (IsEntryOffered l (main_of bytes l.main)) es
  entries_offered [] h = tt
  entries_offered (e ∷ es) h = (entry_offered e h.0, entries_offered es h.1)
