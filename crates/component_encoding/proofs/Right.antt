-- A component that imports what the link table needs, instantiates the main module with that, and exports what lifts it, is right for the
-- table.
use Rattle.std.proofs.Common.{◌≡◌, ℕ, zero, suc, List, [], ◌∷◌, ◌++◌, map, Option, Some, None, refl, sym, ap, subst, ◌∙◌, inl, inr, arith}
use Rattle.std.specs.Prelude.{slice_get}
use Rattle.std.specs.List.{AllByRecursion as Each}
use Rattle.std.proofs.lemmas.Option.{slice_get_within}
use Rattle.wit_order.specs.Order.{Has}
use Rattle.wit_types.specs.declared.function.Function.{Function}
use Rattle.type_writing.specs.Passed.type_meaning-Words.{Label, BinaryTree, seen}
use Rattle.type_writing.specs.Passed.type_meaning-Items.{Origin, from_import, Item, nothing, a_function, item_at, or_nothing, Entry, type_at, is_function}
use Rattle.type_writing.specs.Passed.type_meaning-Scope.{Scope}
use Rattle.type_writing.proofs.Standing.{get_begin}
use Rattle.type_writing.specs.Writing.{written}
use Rattle.linked_imports.specs.Passed.type_sinks-Root.{InterfaceNames, root_label}
use Rattle.linked_imports.specs.Passed.component_meaning-Core.{of_function, CoreItem, of_lower, CoreInstance}
use Rattle.linked_imports.specs.Passed.component_meaning-Spaces.{Spaces, lowering, all_given}
use Rattle.flat_trees.specs.Flat.{signature, core_type}
use Rattle.wit_types.specs.declared.mangling.AbiVariant.TheVariants.{GuestImport}
use Rattle.linked_imports.specs.Passed.link_table-Linking.{Linking, exported_functions}
use Rattle.linked_imports.specs.Passed.link_table-Pairwise.{Pairwise}
use Rattle.linked_imports.specs.Passed.link_table-Table.{ImportEntry, ExportEntry, Table, IsTable}
use Rattle.linked_imports.specs.Passed.right_components-Main.{main_of}
use Rattle.linked_imports.specs.Passed.right_components-Needed.{AreInOrder}
use Rattle.linked_imports.specs.Passed.right_components-Outside.{AreInterfaceNames, resource_label, IsListed, AreTypesHeld, IsExported}
use Rattle.linked_imports.specs.Passed.right_components-Ends.{IsImportOf, IsLoweringOf}
use Rattle.linked_imports.specs.Passed.right_components-Right.{IsImported, ImportsRight, ExportsRight, ModulesRight, AreGiven, TakesOwn, LiftsOwn, LinksRight, IsRightFor}
use Rattle.linked_imports.specs.Imports.{HasImport, its_own, of_instance, IsLowered, IsTypeAt, AreImportsWritten, AreImportsListed}
use Rattle.component_encoding.specs.Growing.{Grows}
use Rattle.component_encoding.specs.Instances.{lowered, IsInstantiated}
use Rattle.component_encoding.specs.Exports.{IsExportOf, AreExported}
use Rattle.linked_imports.proofs.Passed.link_table-Pairwise.{placed}
use Rattle.component_encoding.proofs.Lists.{get_has, get_there, get_map, map_got, each_of}

-- ---- lists

pairs_behind : {X Y : Type 0} (R : X → Y → Type 0) (x : X) (y : Y) (xs : List X) (ys : List Y) → Pairwise R (x ∷ xs) (y ∷ ys) → Pairwise R xs ys
pairs_behind R x y xs ys h = record { so_many = (let n = h.so_many in omega (arith, n)); each = λ k a b at bt. h.each (suc k) a b at bt }

-- ---- what holds of the component

-- it is made in these steps: what is imported, the main module behind that, and what is exported
pub record IsMade (l : Linking) (names : InterfaceNames) (bytes : List ℕ) (t : Table) (first second last : Spaces) (lowered lifted : List ℕ) (instance : ℕ) : Type 0 where
  pub table : IsTable l t
  pub written : AreImportsWritten l t names first.scope lowered lifted
  pub listed : AreImportsListed l names first.scope
  pub modules : first.modules ≡ []
  pub instances : first.core_instances ≡ []
  pub instantiated : IsInstantiated (main_of bytes l.main) first second lowered instance
  pub exported : AreExported l second last t.exports lifted
  pub grows : Grows second last

module _ (l : Linking) (names : InterfaceNames) (bytes : List ℕ) (t : Table) (first second last : Spaces) (lowers lifts : List ℕ) (instance : ℕ) (m : IsMade l names bytes t first second last lowers lifts instance) where
  imports_are : last.scope.imports ≡ first.scope.imports
  imports_are = m.exported.imports ∙ ap (λ (z : Scope). z.imports) m.instantiated.scope

  instances_are : last.core_instances ≡ second.core_instances
  instances_are = m.exported.instances

  modules_are : last.modules ≡ bytes ∷ []
  modules_are = m.exported.modules ∙ m.instantiated.modules ∙ ap (λ ms. ms ++ bytes ∷ []) m.modules

  functions_stay : (i : ℕ) (x : Item) → slice_get first.scope.functions i ≡ Some x → slice_get last.scope.functions i ≡ Some x
  functions_stay i x at =
      ap (λ (z : Spaces). slice_get z.scope.functions i) m.grows.1
      ∙ get_begin second.scope.functions m.grows.0.scope.functions i x (ap (λ (z : Scope). slice_get z.functions i) m.instantiated.scope ∙ at)

  none_exported : second.scope.exports ≡ []
  none_exported = ap (λ (z : Scope). z.exports) m.instantiated.scope ∙ m.written.exports

  -- ---- imports

  abbrev own_entry : (e : ImportEntry) (f : ℕ) → IsLowered l names first.scope e f → Entry
  own_entry e f h = record { name = h.label.name; item = a_function (from_import h.label) (written (root_label names) h.tree) }

  needed_by : (e : ImportEntry) (f : ℕ) (h : IsLowered l names first.scope e f) → HasImport first.scope h.label (a_function (from_import h.label) (written (root_label names) h.tree)) → IsImported l names last e h.label
  needed_by e f h (its_own site has) = IsImported.its_own site (own_entry e f h) (subst (λ xs. Has xs (own_entry e f h)) (sym imports_are) has) refl (record { tree = h.tree; unfolds = h.unfolds; binary = written (root_label names) h.tree; is = refl; same = refl })
  needed_by e f h (of_instance x items has is named) = IsImported.of_instance x items (subst (λ xs. Has xs x) (sym imports_are) has) is (record { tree = h.tree; unfolds = h.unfolds; binary = written (root_label names) h.tree; is = named; same = refl })

  low_at : (e : ImportEntry) (k : ℕ) → slice_get t.imports k ≡ Some e → (f : ℕ) × IsLowered l names first.scope e f
  low_at e k at =
      let size = m.written.lowered_are.so_many in
      let below = slice_get_within t.imports k e at in
      let there = get_there lowers k (omega (arith, size, below)) in
      (there.0, m.written.lowered_are.each k e there.0 at there.1)

  needed : (e : ImportEntry) → Has t.imports e → (label : Label) × IsImportOf l.names e label × IsImported l names last e label
  needed e has =
      let place = placed t.imports e has in
      let low = low_at e place.0 place.1 in
      (low.1.label, low.1.is_import, needed_by e low.0 low.1 low.1.imported)

  imports_right : ImportsRight l names t last
  imports_right = record { needed = each_of _ t.imports needed; listed = subst (Each (IsListed l names)) (sym imports_are) m.listed.each; types = subst (AreTypesHeld l names) (sym imports_are) m.listed.types; order = subst (AreInOrder l names) (sym imports_are) m.listed.order }

  -- ---- exports

  exports_are : last.scope.exports ≡ m.exported.entries
  exports_are = m.exported.exports ∙ ap (λ xs. xs ++ m.exported.entries) none_exported

  export_places : (k : ℕ) (e : ExportEntry) → slice_get t.exports k ≡ Some e → (ty : ℕ) × IsTypeAt l names first.scope e.function ty × ((x : Entry) × (slice_get m.exported.entries k ≡ Some x) × IsExportOf l last e ty x)
  export_places k e at =
      let function : slice_get (exported_functions l.names.world) k ≡ Some e.function = ap (λ fs. slice_get fs k) (sym m.table.exports) ∙ get_map (λ (y : ExportEntry). y.function) t.exports k e at in
      let below = slice_get_within (exported_functions l.names.world) k e.function function in
      let size = m.written.lifted_are.so_many in
      let ty = get_there lifts k (omega (arith, size, below)) in
      let below_entry = slice_get_within t.exports k e at in
      let so_many = m.exported.so_many in
      let x = get_there m.exported.entries k (omega (arith, so_many, below_entry)) in
      (ty.0, m.written.lifted_are.each k e.function ty.0 function ty.1, (x.0, x.1, m.exported.each k e ty.0 x.0 at ty.1 x.1))

  is_exported : (e : ExportEntry) (ty : ℕ) (x : Entry) → IsTypeAt l names first.scope e.function ty → IsExportOf l last e ty x → IsExported l.names names e.function x
  is_exported e ty x typed is =
      let types_are : last.scope.types ≡ first.scope.types = m.exported.types_stay ∙ ap (λ (z : Scope). z.types) m.instantiated.scope in
      let both : Some is.tree ≡ Some (written (root_label names) typed.0) = sym is.type_is ∙ ap (λ ts. type_at is_function ts ty) types_are ∙ typed.2 in
      let same : is.tree ≡ written (root_label names) typed.0 = cc in
      (is.named, (is.origin, record { tree = typed.0; unfolds = typed.1; binary = is.tree; is = is.is; same = ap (seen resource_label) same }))

  each_exported : (f : Function) → Has (exported_functions l.names.world) f → (x : Entry) × Has last.scope.exports x × IsExported l.names names f x
  each_exported f has =
      let place = placed (exported_functions l.names.world) f has in
      let entry = map_got (λ (e : ExportEntry). e.function) t.exports place.0 f (ap (λ fs. slice_get fs place.0) m.table.exports ∙ place.1) in
      let made = export_places place.0 entry.0 entry.1 in
      let is = is_exported entry.0 made.0 made.2.0 made.1 made.2.2 in
      (made.2.0, subst (λ xs. Has xs made.2.0) (sym exports_are) (get_has m.exported.entries place.0 made.2.0 made.2.1), subst (λ f. IsExported l.names names f made.2.0) entry.2 is)

  -- an export is that of an entry
  export_of : (x : Entry) → Has last.scope.exports x → (e : ExportEntry) × (ty : ℕ) × Has t.exports e × IsTypeAt l names first.scope e.function ty × IsExportOf l last e ty x
  export_of x has =
      let place = placed m.exported.entries x (subst (λ xs. Has xs x) exports_are has) in
      let so_many = m.exported.so_many in
      let below = slice_get_within m.exported.entries place.0 x place.1 in
      let e = get_there t.exports place.0 (omega (arith, so_many, below)) in
      let made = export_places place.0 e.0 e.1 in
      let both : Some made.2.0 ≡ Some x = sym made.2.1 ∙ place.1 in
      let same : made.2.0 ≡ x = cc in
      (e.0, made.0, get_has t.exports place.0 e.0 e.1, made.1, subst (IsExportOf l last e.0 made.0) same made.2.2)

  only_exported : (x : Entry) → Has last.scope.exports x → (f : Function) × Has (exported_functions l.names.world) f × IsExported l.names names f x
  only_exported x has =
      let of = export_of x has in
      let place = placed t.exports of.0 of.2 in
      let function : slice_get (exported_functions l.names.world) place.0 ≡ Some of.0.function = ap (λ fs. slice_get fs place.0) (sym m.table.exports) ∙ get_map (λ (y : ExportEntry). y.function) t.exports place.0 of.0 place.1 in
      (of.0.function, get_has (exported_functions l.names.world) place.0 of.0.function function, is_exported of.0 of.1 x of.3 of.4)

  exports_right : ExportsRight l names last
  exports_right = record { each = each_exported; only = only_exported }

  -- ---- modules

  modules_right : ModulesRight bytes last
  modules_right = record {
    modules = subst (Each (λ m. m ≡ bytes)) (sym modules_are) (refl, tt);
    once = (m.instantiated.given, ap all_given instances_are ∙ m.instantiated.all ∙ ap (λ is. all_given is ++ map (λ c. Some c) m.instantiated.given ∷ []) m.instances);
  }

  -- ---- links

  there_item : (i : ℕ) (o : Origin) (b : BinaryTree) → item_at first.scope.functions i ≡ a_function o b → slice_get first.scope.functions i ≡ Some (a_function o b)
  there_item i o b is = by (slice_get first.scope.functions i) refl
    where
      by : (found : Option Item) → slice_get first.scope.functions i ≡ found → slice_get first.scope.functions i ≡ Some (a_function o b)
      by None e = (let no : nothing ≡ a_function o b = ap or_nothing (sym e) ∙ is in absurd cc)
      by (Some x) e = (let same : x ≡ a_function o b = ap or_nothing (sym e) ∙ is in e ∙ ap (λ z. Some z) same)

  lowering_is : (e : ImportEntry) (f : ℕ) (c : CoreItem) → IsLowered l names first.scope e f → lowered first f ≡ Some c → IsLoweringOf l.names last e c
  lowering_is e f c low is =
      let tree = written (root_label names) low.tree in
      let item : CoreItem = record { origin = of_lower f []; ty = of_function (core_type (signature GuestImport tree)) } in
      let both : Some item ≡ Some c = sym (ap (lowering f []) low.is) ∙ is in
      let same : item ≡ c = cc in
      record {
        function = f;
        lowers = ap (λ (z : CoreItem). z.origin) (sym same);
        label = low.label;
        is_import = low.is_import;
        binary = tree;
        is = ap or_nothing (functions_stay f (a_function (from_import low.label) tree) (there_item f (from_import low.label) tree low.is));
      }

  given_from : (es : List ImportEntry) (fs : List ℕ) (cs : List CoreItem) → Pairwise (IsLowered l names first.scope) es fs → Pairwise (λ (f : ℕ) (c : CoreItem). lowered first f ≡ Some c) fs cs → AreGiven l last es (map (λ c. Some c) cs)
  given_from [] [] [] low is = tt
  given_from [] [] (c ∷ cs) low is = (let size = is.so_many in omega (arith, size))
  given_from [] (f ∷ fs) cs low is = (let size = low.so_many in absurd (omega (arith, size)))
  given_from (e ∷ es) [] cs low is = (let size = low.so_many in absurd (omega (arith, size)))
  given_from (e ∷ es) (f ∷ fs) [] low is = (let size = is.so_many in omega (arith, size))
  given_from (e ∷ es) (f ∷ fs) (c ∷ cs) low is = (
    (c, refl, lowering_is e f c (low.each zero e f refl refl) (is.each zero f c refl refl)),
    given_from es fs cs (pairs_behind _ e f es fs low) (pairs_behind _ f c fs cs is),
  )

  takes : (c : CoreInstance) → Has last.core_instances c → TakesOwn l t last c.source
  takes c has = elim (m.instantiated.only c (subst (λ is. Has is c) instances_are has)) as (λ _. TakesOwn l t last c.source) [
    | inl old ↦ (let no : Has [] c = subst (λ is. Has is c) m.instances old in absurd no)
    | inr (inl items) ↦ subst (TakesOwn l t last) (sym items) tt
    | inr (inr main) ↦ subst (TakesOwn l t last) (sym main) (given_from t.imports lowers m.instantiated.given m.written.lowered_are m.instantiated.each)
  ]

  lifts_own : (x : Entry) → Has last.scope.exports x → LiftsOwn l t last x
  lifts_own x has =
      let of = export_of x has in
      let is = of.4 in
      (of.0, of.2, is.named, (is.origin, is.tree, is.is, is.lifts))

  links_right : LinksRight l t last
  links_right = record { imports = each_of _ last.core_instances takes; exports = each_of _ last.scope.exports lifts_own }

  pub is_right : AreInterfaceNames l.names l.main.imports names → IsRightFor l bytes t last
  is_right named = record { names = names; names_are = named; imports = imports_right; exports = exports_right; modules = modules_right; links = links_right }
