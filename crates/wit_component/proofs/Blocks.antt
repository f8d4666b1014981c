-- What each part of the written component adds to the spaces.
use Rattle.std.proofs.Common.{◌≡◌, ℕ, suc, List, [], ◌∷◌, ◌++◌, length, Option, Some, None, refl, ap, ◌∙◌, append_assoc}
use Rattle.std.specs.Prelude.{map, fold, slice_get}
use Rattle.std.specs.List.{AllByRecursion as Each, flat_map}
use Rattle.std.proofs.lemmas.List.{append-nil}
use Rattle.std.proofs.lemmas.List.Sums.{fold-append}
use Rattle.plain_worlds.specs.World.{FunctionTypeValue}
use Rattle.known_definitions.specs.Definition.{InlineExportValue, DefinitionValue, alias_of, type_of, lift_of, lower_of, import_of, export_of}
use Rattle.plain_worlds.specs.World.{FunctionItem}
use Rattle.wit_component.specs.Flat.{flat}
use Rattle.wit_component.specs.Linking.{CoreExport, MainModule, Linking}
use Rattle.wit_component.specs.Table.{exported_by}
use Rattle.wit_component.specs.Meaning.{Spaces, CoreFunction, ComponentFunction, CoreEntry, CoreInstance, ExportEntry, of_export, of_items, after, import_with, lowering, lifting, item_at, exported}
use Rattle.wit_component.specs.Component.{numbered, types_of, instance_with}
use Rattle.wit_component.specs.Right.{listed}
use Rattle.wit_component.proofs.Joined.{one_instance, one_core, one_type, one_function, one_import, one_export}
use Rattle.wit_component.proofs.Lists.{slice_get_at, length_one_more, moved}

-- these definitions lead from some spaces to others
pub record Leads (main : MainModule) (s : Spaces) (ds : List DefinitionValue) (t : Spaces) : Type 0 where
  pub is : fold (after main) s ds ≡ t

-- one part after the other
pub then : {main : MainModule} {s between t : Spaces} {xs ys : List DefinitionValue} → Leads main s xs between → Leads main between ys t → Leads main s (xs ++ ys) t
then {main} {s} {between} {t} {xs} {ys} e f = record { is = fold-append (after main) s xs ys ∙ ap (λ u. fold (after main) u ys) e.is ∙ f.is }

one_more : (main : MainModule) (s next t : Spaces) (d : DefinitionValue) (ds : List DefinitionValue) → after main s d ≡ next → fold (after main) next ds ≡ t → fold (after main) s (d ∷ ds) ≡ t
one_more main s next t d ds e f = ap (λ u. fold (after main) u ds) e ∙ f

-- ---- what a function of the world is, in each space

abbrev pub imported_function : FunctionItem → Option ComponentFunction
imported_function f = Some (import_with f.name f.ty)

-- the lowering of the function with that index
abbrev pub lowered_function : ℕ → FunctionItem → Option CoreFunction
lowered_function n f = Some (lowering n (import_with f.name f.ty))

-- the name of the first, or nothing
abbrev pub first_name : List CoreExport → List ℕ
first_name [] = []
first_name (e ∷ es) = e.name

-- the core function that an exported function lifts, of the instance with that index
abbrev pub own_export : Linking → ℕ → FunctionItem → Option CoreFunction
own_export l k f = Some (record { origin = of_export k (first_name (exported_by l f)); ty = flat f.ty })

-- the lift of the core function with that index
abbrev pub own_lift : ℕ → FunctionItem → Option ComponentFunction
own_lift n f = Some (lifting n f.ty)

abbrev pub own_entry : ℕ → FunctionItem → ExportEntry
own_entry n f = record { name = f.name; item = own_lift n f }

-- what an instance of inline exports exports, and that instance, where it would export anything
abbrev pub entries_of : List (Option CoreFunction) → List InlineExportValue → List CoreEntry
entries_of cores es = map (λ e. record { name = e.name; item = item_at cores e.func }) es

abbrev pub made_of : List CoreEntry → CoreInstance
made_of es = record { source = of_items; exports = es }

abbrev pub instance_of : List (Option CoreFunction) → List InlineExportValue → List CoreInstance
instance_of cores [] = []
instance_of cores (x ∷ xs) = made_of (entries_of cores (x ∷ xs)) ∷ []

pub length-instance_of : (cores : List (Option CoreFunction)) (es : List InlineExportValue) → length (instance_of cores es) ≡ length (instance_with es)
length-instance_of cores [] = refl
length-instance_of cores (x ∷ xs) = refl

-- the instance with that index exports the function's core export, which is the only one
pub record HasExport (l : Linking) (is : List CoreInstance) (k : ℕ) (f : FunctionItem) : Type 0 where
  pub export : CoreExport
  pub only : exported_by l f ≡ export ∷ []
  pub found : exported is k export.name ≡ Some (record { origin = of_export k export.name; ty = flat f.ty })

-- ---- the parts

pub types_block : (main : MainModule) (s : Spaces) (fs : List FunctionItem) → fold (after main) s (types_of fs) ≡ record s { types = s.types ++ map (λ f. f.ty) fs }
types_block main s [] = simp append-nil
types_block main s (f ∷ fs) =
    let next : Spaces = record s { types = s.types ++ f.ty ∷ [] } in
    one_more main s next _ (type_of f.ty) (types_of fs) (one_type s f.ty) (types_block main next fs ∙ simp append_assoc)

pub imports_block : (main : MainModule) (s : Spaces) (n : ℕ) (front : List FunctionTypeValue) (fs : List FunctionItem) (back : List FunctionTypeValue)
    → length front ≡ n → s.types ≡ front ++ (map (λ f. f.ty) fs ++ back)
    → fold (after main) s (numbered (λ k f. import_of f.name k) n fs) ≡ record s { functions = s.functions ++ map imported_function fs; imports = s.imports ++ map listed fs }
imports_block main s n front [] back long e = simp append-nil
imports_block main s n front (f ∷ fs) back long e =
    let found : slice_get s.types n ≡ Some f.ty = rw e (slice_get_at front f.ty (map (λ x. x.ty) fs ++ back) n long) in
    let next : Spaces = record s { functions = s.functions ++ imported_function f ∷ []; imports = s.imports ++ listed f ∷ [] } in
    let grown = moved s.types front f.ty (map (λ x. x.ty) fs ++ back) e in
    one_more main s next _ (import_of f.name n) (numbered (λ k x. import_of x.name k) (suc n) fs) (rw found (one_import s (imported_function f) (listed f)))
    (imports_block main next (suc n) (front ++ f.ty ∷ []) fs back (length_one_more front f.ty n long) grown ∙ simp append_assoc)

pub lowers_block : (main : MainModule) (s : Spaces) (n : ℕ) (front : List (Option ComponentFunction)) (fs : List FunctionItem) (back : List (Option ComponentFunction))
    → length front ≡ n → s.functions ≡ front ++ (map imported_function fs ++ back)
    → fold (after main) s (numbered (λ k f. lower_of k) n fs) ≡ record s { core_functions = s.core_functions ++ numbered lowered_function n fs }
lowers_block main s n front [] back long e = simp append-nil
lowers_block main s n front (f ∷ fs) back long e =
    let found : slice_get s.functions n ≡ Some (imported_function f) = rw e (slice_get_at front (imported_function f) (map imported_function fs ++ back) n long) in
    let next : Spaces = record s { core_functions = s.core_functions ++ lowered_function n f ∷ [] } in
    let grown = moved s.functions front (imported_function f) (map imported_function fs ++ back) e in
    one_more main s next _ (lower_of n) (numbered (λ k x. lower_of k) (suc n) fs) (rw found (one_core s (lowered_function n f)))
    (lowers_block main next (suc n) (front ++ imported_function f ∷ []) fs back (length_one_more front (imported_function f) n long) grown ∙ simp append_assoc)

pub inline_block : (main : MainModule) (s : Spaces) (es : List InlineExportValue) → fold (after main) s (instance_with es) ≡ record s { instances = s.instances ++ instance_of s.core_functions es }
inline_block main s [] = simp append-nil
inline_block main s (x ∷ xs) = one_instance s (made_of (entries_of s.core_functions (x ∷ xs)))

pub aliases_block : (main : MainModule) (l : Linking) (s : Spaces) (k : ℕ) (fs : List FunctionItem)
    → Each (HasExport l s.instances k) fs
    → fold (after main) s (flat_map (λ f. map (λ e. alias_of k e.name) (exported_by l f)) fs) ≡ record s { core_functions = s.core_functions ++ map (own_export l k) fs }
aliases_block main l s k [] h = simp append-nil
aliases_block main l s k (f ∷ fs) h =
    let e = h.0.export in
    let next : Spaces = record s { core_functions = s.core_functions ++ own_export l k f ∷ [] } in
    let made : after main s (alias_of k e.name) ≡ next = rw (h.0.found, h.0.only) (one_core s (Some (record { origin = of_export k e.name; ty = flat f.ty }))) in
    let rest : fold (after main) next (flat_map (λ x. map (λ y. alias_of k y.name) (exported_by l x)) fs) ≡ record s { core_functions = s.core_functions ++ map (own_export l k) (f ∷ fs) } = aliases_block main l next k fs h.1 ∙ simp append_assoc in
    ap (λ (xs : List CoreExport). fold (after main) s (map (λ y. alias_of k y.name) xs ++ flat_map (λ x. map (λ y. alias_of k y.name) (exported_by l x)) fs)) h.0.only
    ∙ one_more main s next _ (alias_of k e.name) (flat_map (λ x. map (λ y. alias_of k y.name) (exported_by l x)) fs) made rest

pub lifts_block : (main : MainModule) (s : Spaces) (n : ℕ) (types : List FunctionTypeValue) (fs : List FunctionItem)
    → length types ≡ n → s.types ≡ types ++ map (λ f. f.ty) fs
    → fold (after main) s (numbered (λ k f. lift_of k k) n fs) ≡ record s { functions = s.functions ++ numbered own_lift n fs }
lifts_block main s n types [] m g = simp append-nil
lifts_block main s n types (f ∷ fs) m g =
    let asked : slice_get s.types n ≡ Some f.ty = rw g (slice_get_at types f.ty (map (λ x. x.ty) fs) n m) in
    let next : Spaces = record s { functions = s.functions ++ own_lift n f ∷ [] } in
    one_more main s next _ (lift_of n n) (numbered (λ k x. lift_of k k) (suc n) fs) (rw asked (one_function s (own_lift n f)))
    (lifts_block main next (suc n) (types ++ f.ty ∷ []) fs (length_one_more types f.ty n m) (moved s.types types f.ty (map (λ x. x.ty) fs) g) ∙ simp append_assoc)

pub exports_block : (main : MainModule) (s : Spaces) (n : ℕ) (front : List (Option ComponentFunction)) (fs : List FunctionItem) (back : List (Option ComponentFunction))
    → length front ≡ n → s.functions ≡ front ++ (numbered own_lift n fs ++ back)
    → fold (after main) s (numbered (λ k f. export_of f.name k None) n fs) ≡ record s { functions = s.functions ++ numbered own_lift n fs; exports = s.exports ++ numbered own_entry n fs }
exports_block main s n front [] back long e = simp append-nil
exports_block main s n front (f ∷ fs) back long e =
    let found : slice_get s.functions n ≡ Some (own_lift n f) = rw e (slice_get_at front (own_lift n f) (numbered own_lift (suc n) fs ++ back) n long) in
    let next : Spaces = record s { functions = s.functions ++ own_lift n f ∷ []; exports = s.exports ++ own_entry n f ∷ [] } in
    let grown : next.functions ≡ (front ++ own_lift n f ∷ []) ++ (numbered own_lift (suc n) fs ++ (back ++ own_lift n f ∷ [])) = rw e (simp append_assoc) in
    one_more main s next _ (export_of f.name n None) (numbered (λ k x. export_of x.name k None) (suc n) fs) (rw found (one_export s (own_lift n f) (own_entry n f)))
    (exports_block main next (suc n) (front ++ own_lift n f ∷ []) fs (back ++ own_lift n f ∷ []) (length_one_more front (own_lift n f) n long) grown ∙ simp append_assoc)
