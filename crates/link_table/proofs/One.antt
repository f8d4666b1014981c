-- A module and a world have one link table at most, and where they have it, nothing forbids it.
use Rattle.std.proofs.Common.{◌≡◌, ℕ, true, false, ◌⊎◌, List, [], ◌∷◌, map, Option, Some, None, inl, inr, refl, sym, subst, ap, ◌∙◌}
use Rattle.std.proofs.lemmas.Option.{same_Some}
use Rattle.std.specs.List.{AllByRecursion as Each}
use Rattle.std.specs.Prelude.{slice_get}
use Rattle.wasm_types.specs.Entries.{ImportValue, ExportValue}
use Rattle.wasm_types.specs.Types.{FuncTypeValue}
use Rattle.wasm_format.specs.Module.{imported_type, exported_type}
use Rattle.wit_order.specs.Order.{Has}
use Rattle.wit_reach.proofs.Holding.{has_flat, flat_has, mapped_has}
use Rattle.wit_reach.specs.Ids.{function_ids}
use Rattle.wit_reach.specs.Paths.{Reaches}
use Rattle.wit_reach.specs.Types.{AreTypesBackward, IsMadeOf}
use Rattle.wit_types.specs.declared.function.Function.{Function}
use Rattle.wit_types.specs.declared.interface.TypeDef.{TypeDef}
use Rattle.wit_types.specs.declared.mangling.AbiVariant.{AbiVariant}
use Rattle.wit_types.specs.declared.mangling.AbiVariant.TheVariants.{GuestImport, GuestExport}
use Rattle.wit_types.specs.declared.world_key.WorldKey.{WorldKey}
use Rattle.core_links.specs.Passed.wit_core_items-World.{ImportStandsFor}
use Rattle.wit_core_names.specs.Items.{CoreImport}
use Rattle.canonical_options.specs.Passed.flat_types-Signature.{RequiredValue}
use Rattle.flat_trees.specs.Flat.{core_type}
use Rattle.flat_trees.specs.Law.{UnfoldedFunctionsAreFlat}
use Rattle.linked_types.proofs.Walks.{has_at}
use Rattle.linked_types.specs.Kinds.{kind_fault}
use Rattle.linked_types.specs.Reached.{function_fault, IsCause as IsReachedCause}
use Rattle.linked_types.specs.declared.fault.TypeFault.{TypeFault}
use Rattle.linked_types.specs.declared.fault.TypeFault.TheVariants as type_faults
use Rattle.core_links.specs.Names.{Names, IsImport}
use Rattle.core_links.specs.Imports.{IsMeaning, IsUnknown, IsAmbiguous, IsLegacyAlone, OneOf}
use Rattle.core_links.specs.Exports.{IsUnclear}
use Rattle.core_links.specs.declared.fault.LinkFault.{LinkFault}
use Rattle.core_links.specs.declared.fault.LinkFault.TheVariants as link_faults
use Rattle.link_table.proofs.Opposed.{one_export, one_place, not_missing, not_unclear, plain_memory, plain_realloc, plain_clear, plain_typed, found_memory, found_realloc, found_clear, found_typed, one_options}
use Rattle.link_table.proofs.Standing.{stands_for_one, one_function}
use Rattle.link_table.specs.Cause as cause
use Rattle.link_table.specs.Cause.{IsAsked, OfAsked, NamesOfFunction, IsLinkMistyped, OfExported, IsLinkCause, IsTypeCause, IsTypeFault, IsTableCause}
use Rattle.link_table.specs.Law.{TablesAreOne}
use Rattle.link_table.specs.Linking as linking
use Rattle.link_table.specs.Linking.{Linking, types_of, StandsForFunction, exported_functions, IsLinked}
use Rattle.link_table.specs.Options.{IsThere, IsMissing, Options, AreOptions, AreOptionsOf, asks, LacksMemory, LacksRealloc, AreOptionsUnclear, AreOptionsMistyped}
use Rattle.link_table.specs.Table.{ImportEntry, IsImportEntry, ExportEntry, IsExportEntry, Table, IsTable}
use Rattle.link_table.specs.Types.{HasCoreType, Requires, IsOfType, IsMistyped}
use Rattle.link_table.specs.declared.fault.TableFault.{TableFault}
use Rattle.link_table.specs.declared.fault.TableFault.TheVariants as faults

-- ---- lists

found_each : {X Y : Type 0} (P : X → Type 0) (g : X → Y) (xs : List X) (y : Y) → Each P xs → Has (map g xs) y → (x : X) × Has xs x × P x × (y ≡ g x)
found_each P g [] y all h = absurd h
found_each P g (x ∷ xs) y all (inl e) = (x, inl refl, all.0, e)
found_each P g (x ∷ xs) y all (inr h) = (let r = found_each P g xs y all.1 h in (r.0, inr r.1, r.2, r.3))

one_head : {X : Type 0} (x y : X) (xs ys : List X) → x ∷ xs ≡ y ∷ ys → x ≡ y
one_head x y xs ys e = cc

one_tail : {X : Type 0} (x y : X) (xs ys : List X) → x ∷ xs ≡ y ∷ ys → xs ≡ ys
one_tail x y xs ys e = cc

-- lists of what is told apart by something are one where that is one
one_list : {X Y : Type 0} (P : X → Type 0) (g : X → Y) (one : (x y : X) → P x → P y → g x ≡ g y → x ≡ y) (xs ys : List X) → Each P xs → Each P ys → map g xs ≡ map g ys → xs ≡ ys
one_list P g one [] [] all are e = refl
one_list P g one [] (y ∷ ys) all are e = absurd cc
one_list P g one (x ∷ xs) [] all are e = absurd cc
one_list P g one (x ∷ xs) (y ∷ ys) all are e =
    let here = one x y all.0 are.0 (one_head (g x) (g y) (map g xs) (map g ys) e) in
    let there = one_list P g one xs ys all.1 are.1 (one_tail (g x) (g y) (map g xs) (map g ys) e) in
    ap (λ (z : _). z ∷ xs) here ∙ ap (λ (zs : _). y ∷ zs) there

-- ---- core types

module _ (law : UnfoldedFunctionsAreFlat) (types : List TypeDef) (backward : AreTypesBackward types) (variant : AbiVariant) (f : Function) where
  pub one_required : (r q : RequiredValue) → Requires types variant f r → Requires types variant f q → r ≡ q
  one_required r q a b =
      a.is ∙ sym (law.options types variant f.params.items f.result a.tree backward a.unfolds) ∙ law.options types variant f.params.items f.result b.tree backward b.unfolds ∙ sym b.is

  pub one_core : (a b : FuncTypeValue) → HasCoreType types variant f a → HasCoreType types variant f b → a ≡ b
  one_core a b has is =
      has.is ∙ ap core_type (sym (law.signatures types variant f.params.items f.result has.tree backward has.unfolds) ∙ law.signatures types variant f.params.items f.result is.tree backward is.unfolds) ∙ sym is.is

  pub not_mistyped : (found : Option FuncTypeValue) → IsOfType types variant f found → IsMistyped types variant f found → ⊥
  not_mistyped found is isnt = isnt.2 (is.2 ∙ ap (λ (ty : FuncTypeValue). Some ty) (one_core is.0 isnt.0 is.1 isnt.1))

-- ---- core imports

module _ (n : Names) (i : ImportValue) (place : ℕ) (means : IsMeaning n i place) where
  known_anyway : (j : ℕ) → IsImport n i.place i.name j → ImportStandsFor n.known n.world true i.place i.name j
  known_anyway j (x, at, inl standard) = (x, at, inl standard)
  known_anyway j (x, at, inr legacy) = (x, at, inr (refl, legacy.1))

  not_unknown : IsUnknown n i → ⊥
  not_unknown unknown = unknown.1 place (known_anyway place means.stands)

  not_ambiguous : IsAmbiguous n i → ⊥
  not_ambiguous two = two.4 (means.only two.0 two.2 ∙ sym (means.only two.1 two.3))

  not_legacy : IsLegacyAlone n i → ⊥
  not_legacy legacy = legacy.none place means.stands

abbrev key_of : CoreImport → Option (Option WorldKey)
key_of (CoreImport.func key f) = Some key
key_of (CoreImport.intrinsic key resource what) = None

one_key : (n : Names) (i : ImportValue) (key other : Option WorldKey) (f g : Function) → StandsForFunction n i key f → StandsForFunction n i other g → key ≡ other
one_key n i key other f g s r = same_Some key other (ap key_of (stands_for_one n i (CoreImport.func key f) (CoreImport.func other g) s r))

-- ---- entries

module _ (law : UnfoldedFunctionsAreFlat) (l : Linking) (backward : AreTypesBackward (types_of l)) where
  one_import : (d e : ImportEntry) → IsImportEntry l d → IsImportEntry l e → d.import ≡ e.import → d ≡ e
  one_import d e is are same =
      let stands = subst (λ (i : ImportValue). StandsForFunction l.names i d.key d.function) same is.stands in
      let key = one_key l.names e.import d.key e.key d.function e.function stands are.stands in
      let function = one_function l.names e.import d.key e.key d.function e.function stands are.stands in
      ap (λ (i : ImportValue). record { import = i; key = d.key; function = d.function }) same
      ∙ ap (λ (k : Option WorldKey). record { import = e.import; key = k; function = d.function }) key
      ∙ ap (λ (f : Function). record { import = e.import; key = e.key; function = f }) function

  options_of : (f : Function) (o p : Options) → AreOptionsOf l GuestExport f o → AreOptionsOf l GuestExport f p → o ≡ p
  options_of f o p a b =
      let same = one_required law (types_of l) backward GuestExport f a.0 b.0 a.1 b.1 in
      one_options l GuestExport b.0 o p (subst (λ (r : RequiredValue). AreOptions l GuestExport r o) same a.2) b.2

  one_export_entry : (d e : ExportEntry) → IsExportEntry l d → IsExportEntry l e → d.function ≡ e.function → d ≡ e
  one_export_entry d e is are same =
      let there = subst (λ (f : Function). IsThere l (NamesOfFunction l f) is.place) same is.is in
      let place = one_place l (NamesOfFunction l e.function) is.place are.place there are.is in
      let name = is.named ∙ ap (λ (x : ExportValue). x.name) (one_export l.main.exports is.place are.place is.«export» are.«export» place is.there are.there) ∙ sym are.named in
      let options = options_of e.function d.options e.options (subst (λ (f : Function). AreOptionsOf l GuestExport f d.options) same is.options) are.options in
      ap (λ (f : Function). record { function = f; name = d.name; options = d.options }) same
      ∙ ap (λ (x : List ℕ). record { function = e.function; name = x; options = d.options }) name
      ∙ ap (λ (o : Options). record { function = e.function; name = e.name; options = o }) options

  pub one_table : (t u : Table) → IsTable l t → IsTable l u → t ≡ u
  one_table t u a b =
      let imports = one_list (IsImportEntry l) (λ (e : ImportEntry). e.import) one_import t.imports u.imports a.imports_are b.imports_are (a.imports ∙ sym b.imports) in
      let exports = one_list (IsExportEntry l) (λ (e : ExportEntry). e.function) one_export_entry t.exports u.exports a.exports_are b.exports_are (a.exports ∙ sym b.exports) in
      ap (λ (is : List ImportEntry). record { imports = is; exports = t.exports }) imports ∙ ap (λ (es : List ExportEntry). record { imports = u.imports; exports = es }) exports

-- ---- no cause

module _ (law : UnfoldedFunctionsAreFlat) (l : Linking) (t : Table) (backward : AreTypesBackward (types_of l)) (is : IsTable l t) where
  import_entry : (i : ImportValue) → Has l.main.imports i → (e : ImportEntry) × Has t.imports e × IsImportEntry l e × (i ≡ e.import)
  import_entry i h = found_each (IsImportEntry l) (λ (e : ImportEntry). e.import) t.imports i is.imports_are (subst (λ (js : List ImportValue). Has js i) (sym is.imports) h)

  export_entry : (f : Function) → Has (exported_functions l.names.world) f → (e : ExportEntry) × Has t.exports e × IsExportEntry l e × (f ≡ e.function)
  export_entry f h = found_each (IsExportEntry l) (λ (e : ExportEntry). e.function) t.exports f is.exports_are (subst (λ (fs : List Function). Has fs f) (sym is.exports) h)

  -- the function for which it stands is that of its entry
  function_is : (i : ImportValue) (key : Option WorldKey) (f : Function) (h : Has l.main.imports i) → StandsForFunction l.names i key f → f ≡ (import_entry i h).0.function
  function_is i key f h stands =
      let e = import_entry i h in
      one_function l.names e.0.import key e.0.key f e.0.function (subst (λ (j : ImportValue). StandsForFunction l.names j key f) e.3 stands) e.2.stands

  meaning : (i : ImportValue) → Has l.main.imports i → (place : ℕ) × IsMeaning l.names i place
  meaning i h = (let e = import_entry i h in (e.2.stands.place, subst (λ (j : ImportValue). IsMeaning l.names j e.2.stands.place) (sym e.3) e.2.stands.means))

  no_one : (P : ImportValue → Type 0) → ((i : ImportValue) (place : ℕ) → IsMeaning l.names i place → P i → ⊥) → OneOf P l.main.imports → ⊥
  no_one P never one = (let m = meaning one.1 (has_at l.main.imports one.0 one.1 one.2) in never one.1 m.0 m.1 one.3)

  no_exported : (P : Function → Type 0) → ((f : Function) (place : ℕ) → IsThere l (NamesOfFunction l f) place → P f → ⊥) → OfExported l P → ⊥
  no_exported P never one =
      let e = export_entry one.0 one.1 in
      never one.0 e.2.place (subst (λ (f : Function). IsThere l (NamesOfFunction l f) e.2.place) (sym e.3) e.2.is) one.2

  -- what is asked for is there
  asked : (variant : AbiVariant) (r : RequiredValue) → IsAsked l variant r → (asks r ≡ false) ⊎ ((o : Options) × AreOptions l variant r o)
  asked variant r (cause.imported i key f at h stands requires) =
      let e = import_entry i h in
      inl (e.2.plain r (subst (λ (g : Function). Requires (types_of l) GuestImport g r) (function_is i key f h stands) requires))
  asked variant r (cause.exported f at h requires) =
      let e = export_entry f h in
      let asks_for = subst (λ (g : Function). Requires (types_of l) GuestExport g r) e.3 requires in
      let same = one_required law (types_of l) backward GuestExport e.0.function e.2.options.0 r e.2.options.1 asks_for in
      inr (e.0.options, subst (λ (v : AbiVariant). AreOptions l v r e.0.options) (sym at) (subst (λ (q : RequiredValue). AreOptions l GuestExport q e.0.options) same e.2.options.2))

  no_asked : (P : AbiVariant → RequiredValue → Type 0) → ((variant : AbiVariant) (r : RequiredValue) → asks r ≡ false → P variant r → ⊥)
      → ((variant : AbiVariant) (r : RequiredValue) (o : Options) → AreOptions l variant r o → P variant r → ⊥) → OfAsked l P → ⊥
  no_asked P plain found (variant, r, it, p) = by (asked variant r it)
    where
      by : (asks r ≡ false) ⊎ ((o : Options) × AreOptions l variant r o) → ⊥
      by (inl none) = plain variant r none p
      by (inr are) = found variant r are.0 are.1 p

  typed : IsLinkMistyped l → ⊥
  typed (cause.of_import i key f h stands mistyped) =
      let e = import_entry i h in
      let same = function_is i key f h stands in
      let this = subst (λ (g : Function). IsMistyped (types_of l) GuestImport g (imported_type l.main i.ty)) same mistyped in
      let there = subst (λ (j : ImportValue). IsMistyped (types_of l) GuestImport e.0.function (imported_type l.main j.ty)) e.3 this in
      not_mistyped law (types_of l) backward GuestImport e.0.function (imported_type l.main e.0.import.ty) e.2.typed there
  typed (cause.of_export f place x h at there mistyped) =
      let e = export_entry f h in
      let here = subst (λ (g : Function). IsThere l (NamesOfFunction l g) place) e.3 at in
      let same = one_export l.main.exports place e.2.place x e.2.«export» (one_place l (NamesOfFunction l e.0.function) place e.2.place here e.2.is) there e.2.there in
      let this = subst (λ (g : Function). IsMistyped (types_of l) GuestExport g (exported_type l.main x.kind x.index)) e.3 mistyped in
      let found = subst (λ (y : ExportValue). IsMistyped (types_of l) GuestExport e.0.function (exported_type l.main y.kind y.index)) same this in
      not_mistyped law (types_of l) backward GuestExport e.0.function (exported_type l.main e.2.«export».kind e.2.«export».index) e.2.typed found

  no_link : (fault : LinkFault) → IsLinkCause l fault → ⊥
  no_link link_faults.NotYet c = c
  no_link link_faults.DuplicateImport c = is.distinct c
  no_link link_faults.UnknownImport c = no_one (IsUnknown l.names) (not_unknown l.names) c
  no_link link_faults.Ambiguous (inl c) = no_one (IsAmbiguous l.names) (not_ambiguous l.names) c
  no_link link_faults.Ambiguous (inr (inl c)) = no_exported (λ f. IsUnclear l.names l.main.exports (NamesOfFunction l f)) (λ f place at two. not_unclear l (NamesOfFunction l f) place at two) c
  no_link link_faults.Ambiguous (inr (inr c)) = no_asked (AreOptionsUnclear l) (plain_clear l) (found_clear l) c
  no_link link_faults.LegacyName c = no_one (IsLegacyAlone l.names) (not_legacy l.names) c
  no_link link_faults.WrongCoreType (inl c) = typed c
  no_link link_faults.WrongCoreType (inr c) = no_asked (AreOptionsMistyped l) (plain_typed l) (found_typed l) c
  no_link link_faults.MissingCoreExport c = no_exported (λ f. IsMissing l (NamesOfFunction l f)) (λ f place at missing. not_missing l (NamesOfFunction l f) place at missing) c
  no_link link_faults.OutOfMemory c = c

  -- ---- types

  abbrev functions_imported : List Function
  functions_imported = map (λ (e : ImportEntry). e.function) t.imports

  imported_has : (i : ImportValue) (key : Option WorldKey) (f : Function) → Has l.main.imports i → StandsForFunction l.names i key f → Has functions_imported f
  imported_has i key f h stands =
      let e = import_entry i h in
      subst (λ (g : Function). Has functions_imported g) (sym (function_is i key f h stands)) (mapped_has (λ (x : ImportEntry). x.function) t.imports e.0 e.1)

  may_function : (f : Function) → IsLinked l f → function_fault f ≡ None
  may_function f (linking.imported i key h stands) = is.linked.functions f (imported_has i key f h stands)
  may_function f (linking.exported h) = is.linked_exports.functions f h

  may_types : (f : Function) (s i : ℕ) (d : TypeDef) → IsLinked l f → Has (function_ids f) s → Reaches (IsMadeOf (types_of l)) s i → slice_get (types_of l) i ≡ Some d → kind_fault d.kind ≡ None
  may_types f s i d (linking.imported j key h stands) from reaches at =
      is.linked.types_are i d (s, flat_has function_ids functions_imported f s (imported_has j key f h stands) from, reaches) at
  may_types f s i d (linking.exported h) from reaches at =
      is.linked_exports.types_are i d (s, flat_has function_ids (exported_functions l.names.world) f s h from, reaches) at

  no_reached : (fs : List Function) (fault : TypeFault) → ((f : Function) → Has fs f → IsLinked l f) → (fault ≡ type_faults.OutOfMemory → ⊥) → IsReachedCause (types_of l) fs fault → ⊥
  no_reached fs fault all other (inl (inl (f, h, e))) = absurd (let g : None ≡ Some fault = sym (may_function f (all f h)) ∙ e in cc)
  no_reached fs fault all other (inl (inr e)) = other e
  no_reached fs fault all other (inr (i, d, reached, at, e)) =
      let f = has_flat function_ids fs reached.0 reached.1 in
      absurd (let g : None ≡ Some fault = sym (may_types f.0 reached.0 i d (all f.0 f.1) f.2 reached.2 at) ∙ e in cc)

  no_types : (fault : TypeFault) → (fault ≡ type_faults.OutOfMemory → ⊥) → IsTypeCause l fault → ⊥
  no_types fault other c = no_reached c.0 fault c.1 other c.2

  no_type : (fault : TypeFault) → IsTypeFault l fault → ⊥
  no_type type_faults.NotYet c = c
  no_type type_faults.AsyncReached c = no_types type_faults.AsyncReached (λ e. absurd cc) c
  no_type type_faults.EmptyTypeReached c = no_types type_faults.EmptyTypeReached (λ e. absurd cc) c
  no_type type_faults.TooManyFlags c = no_types type_faults.TooManyFlags (λ e. absurd cc) c
  no_type type_faults.OutOfMemory c = c

  pub no_cause : (fault : TableFault) → IsTableCause l fault → fault ≡ faults.OutOfMemory
  no_cause faults.NotYet (inl come) = absurd (is.here come)
  no_cause faults.NotYet (inr c) = absurd (no_types type_faults.NotYet (λ e. absurd cc) c)
  no_cause (faults.Link fault) c = absurd (no_link fault c)
  no_cause faults.NoMemory c = absurd (no_asked (λ variant r. LacksMemory l r) (plain_memory l) (found_memory l) c)
  no_cause faults.NoRealloc c = absurd (no_asked (LacksRealloc l) (plain_realloc l) (found_realloc l) c)
  no_cause (faults.Types fault) c = absurd (no_type fault c)
  no_cause faults.OutOfMemory c = refl

pub tables_are_one : UnfoldedFunctionsAreFlat → TablesAreOne
tables_are_one law = record {
  one = λ l t u backward a b. one_table law l backward t u a b;
  no_cause = λ l t fault backward is c. no_cause law l t backward is fault c;
}
