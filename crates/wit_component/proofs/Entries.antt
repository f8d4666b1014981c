-- Entries of the link table, and what the code finds: the function, or the core export, of each.
use Rattle.std.proofs.Common.{◌≡◌, ℕ, Bool, true, false, List, [], ◌∷◌, ◌++◌, map, flat_map, refl, sym, ap, subst, ◌∙◌, inl, inr}
use Rattle.std.specs.Prelude.{filter, ◌||◌, bytes_eq}
use Rattle.std.specs.List.{AllByRecursion as Each, list_any}
use Rattle.std.proofs.lemmas.Bool.{cases_Bool}
use Rattle.std.proofs.lemmas.List.{map-append}
use Rattle.std.proofs.lemmas.List.Folds.{list_any-append}
use Rattle.plain_worlds.specs.World.{FunctionItem}
use Rattle.wit_component.specs.CoreNames.{is_import_name}
use Rattle.wit_component.specs.Linking.{CoreImport, CoreExport, Linking}
use Rattle.wit_component.specs.Links.{lines}
use Rattle.wit_component.specs.Table.{Entry, imported_by, import_entry, entries_of_import, import_entries, exported_by, export_entry, entries_of_export, export_entries, table, IsTyped, IsEntry, is_of_memory, IsExportEntry, IsLinked, is_item, is_needed}
use Rattle.wit_component.specs.Places.{ImportLink, ExportLink, import_lines, export_lines}
use Rattle.wit_component.specs.Right.{IsIn}
use Rattle.wit_component.proofs.Lists.{bytes_eq_refl, bytes_eq_is, list_any_map, any_in, filter_yes, filter_no}

-- ---- lines

lines_of_all : {X : Type 0} (entries : X → List Entry) (xs : List X) → lines (flat_map entries xs) ≡ flat_map (λ x. lines (entries x)) xs
lines_of_all entries [] = refl
lines_of_all entries (x ∷ xs) = map-append (λ (e : Entry). e.line) (entries x) (flat_map entries xs) ∙ ap (λ ls. lines (entries x) ++ ls) (lines_of_all entries xs)

pub table_lines : (l : Linking) → lines (table l) ≡ import_lines l ++ export_lines l
table_lines l =
    map-append (λ (e : Entry). e.line) (import_entries l) (export_entries l)
    ∙ ap (λ ls. ls ++ lines (export_entries l)) (lines_of_all (entries_of_import l) l.main.imports)
    ∙ ap (λ ls. import_lines l ++ ls) (lines_of_all (entries_of_export l) l.world.exports)

-- ---- one entry, one function or core export

pub one_of_map : {X Y : Type 0} (g : X → Y) (xs : List X) (y : Y) → map g xs ≡ y ∷ [] → (x : X) × (xs ≡ x ∷ []) × (g x ≡ y)
one_of_map g [] y e = absurd cc
one_of_map g (x ∷ []) y e = (x, refl, cc)
one_of_map g (x ∷ z ∷ zs) y e = absurd cc

pub import_entered : (l : Linking) (i : CoreImport) (f : FunctionItem) → ImportLink l i f → IsEntry (entries_of_import l i) (import_entry i f)
import_entered l i f h = record { only = ap (map (import_entry i)) h.only; typed = h.matches }

pub import_linked : (l : Linking) (i : CoreImport) (e : Entry) → IsEntry (entries_of_import l i) e → (f : FunctionItem) × ImportLink l i f × (import_entry i f ≡ e)
import_linked l i e h =
    let one = one_of_map (import_entry i) (imported_by l i) e h.only in
    (one.0, record { only = one.1; matches = subst IsTyped (sym one.2) h.typed }, one.2)

pub export_entered : (l : Linking) (f : FunctionItem) (x : CoreExport) → ExportLink l f x → IsExportEntry l f (export_entry f x)
export_entered l f x h = record { entry = record { only = ap (map (export_entry f)) h.only; typed = h.matches }; one_meaning = h.one_meaning }

pub export_linked : (l : Linking) (f : FunctionItem) (e : Entry) → IsExportEntry l f e → (x : CoreExport) × ExportLink l f x × (export_entry f x ≡ e)
export_linked l f e h =
    let one = one_of_map (export_entry f) (exported_by l f) e h.entry.only in
    (one.0, record { only = one.1; one_meaning = subst (λ (y : Entry). is_of_memory l.rejects_legacy y.line.item ≡ false) (sym one.2) h.one_meaning; matches = subst IsTyped (sym one.2) h.entry.typed }, one.2)

-- each is linked
pub record AreLinked (l : Linking) : Type 0 where
  pub imports : Each (λ i. (f : FunctionItem) × ImportLink l i f) l.main.imports
  pub exports : Each (λ f. (e : CoreExport) × ExportLink l f e) l.world.exports

each_one : {X : Type 0} (P Q : X → Type 0) (xs : List X) → ((x : X) → P x → Q x) → Each P xs → Each Q xs
each_one P Q [] f h = tt
each_one P Q (x ∷ xs) f h = (f x h.0, each_one P Q xs f h.1)

pub are_linked : (l : Linking) → IsLinked l → AreLinked l
are_linked l h = record {
  imports = each_one _ _ l.main.imports (λ i e. let found = import_linked l i e.0 e.1 in (found.0, found.1)) h.imports;
  exports = each_one _ _ l.world.exports (λ f e. let found = export_linked l f e.0 e.1 in (found.0, found.1)) h.exports;
}

pub all_entered : (l : Linking) → AreLinked l → IsLinked l
all_entered l h = record {
  imports = each_one _ _ l.main.imports (λ i e. (import_entry i e.0, import_entered l i e.0 e.1)) h.imports;
  exports = each_one _ _ l.world.exports (λ f e. (export_entry f e.0, export_entered l f e.0 e.1)) h.exports;
}

-- ---- what is needed is what a core import may stand for

in_filter : {X : Type 0} (test : X → Bool) (xs : List X) (x : X) → IsIn x xs → test x ≡ true → IsIn x (filter test xs)
in_filter test [] x m t = absurd m
in_filter test (y ∷ ys) x (inl e) t = subst (IsIn x) (sym (filter_yes test y ys (ap test (sym e) ∙ t))) (inl e)
in_filter test (y ∷ ys) x (inr m) t = elim (cases_Bool (test y)) [
  | inl u ↦ subst (IsIn x) (sym (filter_yes test y ys u)) (inr (in_filter test ys x m t))
  | inr u ↦ subst (IsIn x) (sym (filter_no test y ys u)) (in_filter test ys x m t)
]

module _ (test : List ℕ → Bool) (f : FunctionItem) where
  -- none of those that pass has the name of one that doesn't
  none_named : (fs : List FunctionItem) → test f.name ≡ false → list_any (λ (g : FunctionItem). bytes_eq f.name g.name) (filter (λ (g : FunctionItem). test g.name) fs) ≡ false
  none_named [] fails = refl
  none_named (g ∷ gs) fails = elim (cases_Bool (test g.name)) [
    | inl passes ↦ elim (cases_Bool (bytes_eq f.name g.name)) [
      | inl same ↦ absurd (let bad : true ≡ false = sym passes ∙ ap test (sym (bytes_eq_is f.name g.name same)) ∙ fails in cc)
      | inr other ↦ rw (passes, other) (none_named gs fails)
    ]
    | inr fails_too ↦ rw fails_too (none_named gs fails)
  ]

  named_passes : (fs : List FunctionItem) → IsIn f fs → list_any (λ (g : FunctionItem). bytes_eq f.name g.name) (filter (λ (g : FunctionItem). test g.name) fs) ≡ test f.name
  named_passes fs m = elim (cases_Bool (test f.name)) [
    | inl passes ↦ any_in (λ (g : FunctionItem). bytes_eq f.name g.name) (filter (λ (g : FunctionItem). test g.name) fs) f (bytes_eq_refl f.name) (in_filter (λ (g : FunctionItem). test g.name) fs f m passes) ∙ sym passes
    | inr fails ↦ none_named fs fails ∙ sym fails
  ]

-- one of the core imports may stand for the function
abbrev pub is_asked : Linking → FunctionItem → Bool
is_asked l f = list_any (λ i. is_import_name l.rejects_legacy i.place i.name f.name) l.main.imports

pub needed_is_asked : (l : Linking) (f : FunctionItem) → IsIn f l.world.imports → is_needed l f ≡ is_asked l f
needed_is_asked l f m = each l.main.imports
  where
    names : Entry → Bool
    names e = is_item f.name e.line.item

    each : (is : List CoreImport) → list_any names (flat_map (entries_of_import l) is) ≡ list_any (λ i. is_import_name l.rejects_legacy i.place i.name f.name) is
    each [] = refl
    each (i ∷ is) =
        list_any-append names (entries_of_import l i) (flat_map (entries_of_import l) is)
        ∙ ap (λ b. b || list_any names (flat_map (entries_of_import l) is)) (list_any_map names (import_entry i) (imported_by l i) ∙ named_passes (is_import_name l.rejects_legacy i.place i.name) f l.world.imports m)
        ∙ ap (λ b. is_import_name l.rejects_legacy i.place i.name f.name || b) (each is)

-- a filter looks at the items of the list alone
pub filter_among : {X : Type 0} (p q : X → Bool) (xs : List X) → ((x : X) → IsIn x xs → p x ≡ q x) → filter p xs ≡ filter q xs
filter_among p q [] same = refl
filter_among p q (x ∷ xs) same = rw (same x (inl refl), filter_among p q xs (λ y m. same y (inr m))) refl
