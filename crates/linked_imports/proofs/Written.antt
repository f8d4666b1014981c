-- What is imported, as the indices of a component tell it.
use Rattle.std.proofs.Common.{◌≡◌, ℕ, zero, suc, List, [], ◌∷◌, get_or, Option, Some, None, inl, inr, refl, sym, subst, ap, ◌∙◌}
use Rattle.std.proofs.lemmas.Option.{same_Some}
use Rattle.std.specs.Prelude.{slice_get, string_bytes}
use Rattle.wasm_types.specs.Entries.{ImportValue}
use Rattle.wit_order.specs.Order.{Has}
use Rattle.wit_types.specs.Package.{interface_text}
use Rattle.wit_reach.proofs.Holding.{mapped_has}
use Rattle.linked_types.proofs.Walks.{has_at}
use Rattle.wit_types.specs.declared.function.Function.{Function}
use Rattle.wit_types.specs.declared.interface.TypeDef.{TypeDef}
use Rattle.wit_types.specs.declared.«package».Package.{Package}
use Rattle.wit_types.specs.declared.«package».PackageName.{PackageName}
use Rattle.wit_types.specs.declared.world_key.WorldKey.{WorldKey}
use Rattle.wit_types.specs.declared.world_key.WorldKey.TheVariants as key
use Rattle.wit_types.specs.declared.interface.Interface.{Interface}
use Rattle.wit_types.specs.declared.mangling.Mangling.TheVariants.{Standard32, Legacy}
use Rattle.wit_names.specs.Names.{IsKeyText, text_of, named_in, text_at}
use Rattle.wit_core_names.specs.Items.{CoreImport}
use Rattle.wit_core_names.specs.Texts.{interface_text_in}
use Rattle.wit_core_items.specs.World.{IsImportedAs}
use Rattle.type_writing.specs.Passed.type_meaning-Words.{imported, Label, BinaryTree}
use Rattle.type_writing.specs.Passed.type_meaning-Items.{from_import, Item, a_function, an_instance, item_at}
use Rattle.type_writing.specs.Passed.type_meaning-Scope.{import_label}
use Rattle.type_writing.specs.Writing.{written}
use Rattle.type_writing.proofs.Standing.{begins_same}
use Rattle.component_imports.specs.Passed.type_sinks-Root.{InterfaceNames, root_label}
use Rattle.component_imports.specs.Passed.type_sinks-Views.{root_scope, interface_names, RootIsGood}
use Rattle.component_imports.specs.Passed.type_sinks-declared-root-Root.{Root}
use Rattle.component_imports.specs.World.{AreTypesOf, AreTypesWritten}
use Rattle.core_links.specs.Names.{Names, counts_legacy}
use Rattle.right_components.specs.Passed.link_table-Linking.{Linking, types_of, StandsForFunction, exported_functions}
use Rattle.right_components.specs.Passed.link_table-Pairwise.{Pairwise}
use Rattle.right_components.specs.Passed.link_table-Table.{ImportEntry, IsImportEntry, Table, IsTable}
use Rattle.right_components.proofs.Passed.link_table-Rows.{each_at}
use Rattle.right_components.specs.Ends.{IsImportOf, its_own, of_interface}
use Rattle.right_components.specs.Outside.{AreInterfaceNames, IsTextOf}
use Rattle.linked_imports.specs.Imports.{HasImport, IsLowered, IsTypeAt, AreImportsWritten}
use Rattle.linked_imports.specs.Imports as spec
use Rattle.linked_imports.specs.Roots.{IsInterfaceOf, Keeps, label_of, ComesFrom, of_root, of_instance, IsIndexOfEntry}
use Rattle.linked_imports.proofs.Entries.{entries_keep}

-- ---- texts of keys

some_text : (text other : PackageName → List ℕ → List ℕ) (packages : List Package) (d : Interface) (t : List ℕ) → Some t ≡ text_of text packages d → (u : List ℕ) × (Some u ≡ text_of other packages d)
some_text text other packages d t is = by d.«package» d.name is
  where
    at : (p : Option Package) (name : List ℕ) → Some t ≡ text_at text p name → (u : List ℕ) × (Some u ≡ text_at other p name)
    at None name e = absurd cc
    at (Some p) name e = (other p.name name, refl)

    by : (p : Option ℕ) (n : Option _) → Some t ≡ named_in text packages p n → (u : List ℕ) × (Some u ≡ named_in other packages p n)
    by p None e = absurd cc
    by None (Some n) e = absurd cc
    by (Some p) (Some n) e = at (slice_get packages p) (string_bytes n) e

-- a key that has a text of one kind has one of each
other_text : (text other : PackageName → List ℕ → List ℕ) (packages : List Package) (interfaces : List Interface) (k : WorldKey) (t : List ℕ) → IsKeyText text packages interfaces k (Some t) → (u : List ℕ) × IsKeyText other packages interfaces k (Some u)
other_text text other packages interfaces (key.Name name) t is = (string_bytes name, refl)
other_text text other packages interfaces (key.Interface i) t is =
    let u = some_text text other packages is.0 t is.2 in
    (u.0, (is.0, is.1, u.1))

-- where a core import stands for a function of an interface, the interface's key has a text
key_text : (n : Names) (i : ImportValue) (k : WorldKey) (f : Function) → StandsForFunction n i (Some k) f → (t : List ℕ) × IsTextOf n k t
key_text n i k f s =
    let same : s.means.stands.0 ≡ CoreImport.func (Some k) f = same_Some s.means.stands.0 (CoreImport.func (Some k) f) (sym s.means.stands.1 ∙ s.is) in
    elim (subst (λ (x : CoreImport). IsImportedAs n.known (counts_legacy n) x i.place i.name) same s.means.stands.2) as (λ _. (t : List ℕ) × IsTextOf n k t) [
      | inl standard ↦ other_text (interface_text_in Standard32) interface_text n.known.packages n.known.interfaces k standard.0.0 standard.0.1
      | inr legacy ↦ other_text (interface_text_in Legacy) interface_text n.known.packages n.known.interfaces k legacy.1.0.0 legacy.1.0.1
    ]

-- ---- functions that are lowered

label_is : (n : Names) (is : List ImportValue) (names : InterfaceNames) (e : ImportEntry) (interface : Option ℕ) → AreInterfaceNames n is names → Has is e.import → StandsForFunction n e.import e.key e.function → IsInterfaceOf n e.key interface
    → IsImportOf n e (label_of names interface e.function)
label_is n is names e interface named among stands of = by e.key interface refl stands of
  where
    by : (k : Option WorldKey) (i : Option ℕ) → e.key ≡ k → StandsForFunction n e.import k e.function → IsInterfaceOf n k i → IsImportOf n e (label_of names i e.function)
    by None None at s h = its_own at refl
    by None (Some id) at s h = absurd h
    by (Some k) None at s h = absurd h
    by (Some k) (Some id) at s h =
        let t = key_text n e.import k e.function s in
        let under : get_or names id [] ≡ t.0 = named.needed k id e.function t.0 h.0 (e.import, among, s) t.1 in
        of_interface k t.0 at t.1 (let of : List ℕ → Label = λ text. record { site = imported text; name = string_bytes e.function.name } in ap of under)

is_imported : (r : Root) (types : List TypeDef) (label : Label) (i : ℕ) (t : BinaryTree) → RootIsGood r types → item_at (root_scope r).functions i ≡ a_function (from_import label) t → ComesFrom r label (a_function (from_import label) t)
    → HasImport (root_scope r) label (a_function (from_import label) t)
is_imported r types label i t good is (of_root here) =
    let own : label ≡ import_label label.name = (λ k. record { site = here k; name = label.name }) in
    let item : Label → Item = λ l. a_function (from_import l) t in
    let has = good.imports.functions i label.name t (is ∙ ap item own) in
    spec.its_own here (subst (λ (l : Label). Has (root_scope r).imports (record { name = label.name; item = item l })) (sym own) has)
is_imported r types label i t good is (of_instance k items at has) =
    let there = good.imports.instances k label.site items at in
    spec.of_instance (record { name = there.name; item = an_instance label.site items }) items there.has refl has

module _ (l : Linking) (names : InterfaceNames) (r : Root) (same : interface_names r ≡ names) (good : RootIsGood r (types_of l)) (named : AreInterfaceNames l.names l.main.imports names) where
  lowered_is : (e : ImportEntry) (i : ℕ) → Has l.main.imports e.import → IsImportEntry l e → IsIndexOfEntry l r e i → IsLowered l names (root_scope r) e i
  lowered_is e i among entry (interface, of, at) =
      let Item_of : InterfaceNames → Item = λ ns. a_function (from_import (label_of ns interface e.function)) (written (root_label ns) at.tree) in
      let Imported : InterfaceNames → Type 0 = λ ns. HasImport (root_scope r) (label_of ns interface e.function) (Item_of ns) in
      let has : Imported (interface_names r) = is_imported r (types_of l) (label_of (interface_names r) interface e.function) i (written (root_label (interface_names r)) at.tree) good at.is at.from in
      record {
        label = label_of names interface e.function;
        is_import = label_is l.names l.main.imports names e interface named among entry.stands of;
        tree = at.tree;
        unfolds = at.unfolds;
        is = at.is ∙ ap Item_of same;
        imported = subst Imported same has;
      }

  pub lowered_are : (t : Table) (is : List ℕ) → IsTable l t → Pairwise (IsIndexOfEntry l r) t.imports is → Pairwise (IsLowered l names (root_scope r)) t.imports is
  lowered_are t is table all = record { so_many = all.so_many; each = λ k e i at there. lowered_is e i (subst (λ (is : List ImportValue). Has is e.import) table.imports (mapped_has (λ (x : ImportEntry). x.import) t.imports e (has_at t.imports k e at))) (each_at (IsImportEntry l) t.imports k e table.imports_are at) (all.each k e i at there) }

-- ---- types of functions that are lifted

types_at : (l : Linking) (names : InterfaceNames) (r : Root) (fs : List Function) (is : List ℕ) → interface_names r ≡ names → AreTypesOf r (types_of l) fs is → Pairwise (IsTypeAt l names (root_scope r)) fs is
types_at l names r [] [] same all = record { so_many = refl; each = λ k f i at there. absurd cc }
types_at l names r [] (i ∷ is) same all = absurd all
types_at l names r (f ∷ fs) [] same all = absurd all
types_at l names r (f ∷ fs) (i ∷ is) same all =
    let rest = types_at l names r fs is same all.1 in
    record { so_many = ap suc rest.so_many; each = each rest }
  where
    each : Pairwise (IsTypeAt l names (root_scope r)) fs is → (k : ℕ) (g : Function) (j : ℕ) → slice_get (f ∷ fs) k ≡ Some g → slice_get (i ∷ is) k ≡ Some j → IsTypeAt l names (root_scope r) g j
    each rest zero g j at there =
        subst (λ (h : Function). IsTypeAt l names (root_scope r) h j) (same_Some f g at) (subst (λ (n : ℕ). IsTypeAt l names (root_scope r) f n) (same_Some i j there) (subst (λ (ns : InterfaceNames). IsTypeAt l ns (root_scope r) f i) same all.0))
    each rest (suc k) g j at there = rest.each k g j at there

-- ---- all

pub typed_keeps : (old new : Root) (types : List TypeDef) (fs : List Function) (is : List ℕ) → AreTypesWritten old new types fs is → Keeps old new types
typed_keeps old new types fs is h = record {
  interfaces = h.interfaces;
  names = h.names;
  types_stay = h.types_stay;
  functions_stay = begins_same (root_scope old).functions (root_scope new).functions h.functions_stay;
  instances_stay = h.instances_stay;
  good = h.good;
}

pub all_written : (l : Linking) (t : Table) (names : InterfaceNames) (old new : Root) (fs : List Function) (lowered lifted : List ℕ) → IsTable l t → AreInterfaceNames l.names l.main.imports names → interface_names old ≡ names → fs ≡ exported_functions l.names.world
    → Pairwise (IsIndexOfEntry l old) t.imports lowered → AreTypesWritten old new (types_of l) fs lifted → AreImportsWritten l t names (root_scope new) lowered lifted
all_written l t names old new fs lowered lifted is named same exported all types =
    let keeps = typed_keeps old new (types_of l) fs lifted types in
    let names_are = types.interfaces ∙ same in
    record {
      lowered_are = lowered_are l names new names_are types.good named t lowered is (entries_keep l old new t.imports lowered keeps all);
      lifted_are = types_at l names new (exported_functions l.names.world) lifted names_are (subst (λ (gs : List Function). AreTypesOf new (types_of l) gs lifted) exported types.are);
      exports = types.good.imports.exports;
    }
