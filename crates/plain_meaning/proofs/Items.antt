-- Functions of components: looked up, lifted, imported and exported.
use Rattle.std.proofs.Common.{◌≡◌, ℕ, List, [], Option, Some, None, refl, ap, ◌∙◌, inl, inr}
use Rattle.std.specs.Prelude.{map, slice_get, option_map, option_and_then, if◌then◌else◌}
use Rattle.std.proofs.lemmas.Bool.{cases_Bool}
use Rattle.std.proofs.lemmas.Option.{slice_get-map}
use Rattle.component_definitions.specs.declared.externs.Description.TheVariants as descriptions
use Rattle.plain_worlds.specs.World.{FunctionTypeValue}
use Rattle.wit_component.specs.Meaning as plain
use Rattle.wit_component.specs.Meaning.{Spaces, ComponentFunction, same_type}
use Rattle.type_meaning.specs.Items.{Item, nothing, a_function, or_nothing, item_at, type_at, is_function, function_import}
use Rattle.type_meaning.specs.Scope.{import_label, is_same, function_if_same, exported_item}
use Rattle.component_meaning.specs.Spaces as full
use Rattle.plain_meaning.specs.Trees.{function_tree}
use Rattle.plain_meaning.specs.Seen.{type_item, origin_seen, function_item, import_item}
use Rattle.plain_meaning.proofs.Trees.{same_types, same_tree_if, type_found}

-- ---- looked up

seen_function : (o : Option (Option ComponentFunction)) → or_nothing (option_map function_item o) ≡ function_item (option_and_then (λ x. x) o)
seen_function None = refl
seen_function (Some f) = refl

pub function_found : (fs : List (Option ComponentFunction)) (i : ℕ) → item_at (map function_item fs) i ≡ function_item (plain.item_at fs i)
function_found fs i = rw (slice_get-map function_item fs i) (seen_function (slice_get fs i))

-- ---- lifted and imported

pub lifted : (c : ℕ) (o : Option FunctionTypeValue) → full.lifting c [] (option_map function_tree o) ≡ function_item (option_map (plain.lifting c) o)
lifted c None = refl
lifted c (Some t) = refl

pub imported : (name : List ℕ) (o : Option FunctionTypeValue) → function_import (import_label name) (option_map function_tree o) ≡ import_item name o
imported name None = refl
imported name (Some t) = refl

pub imported_function : (name : List ℕ) (o : Option FunctionTypeValue) → function_import (import_label name) (option_map function_tree o) ≡ function_item (option_map (plain.import_with name) o)
imported_function name None = refl
imported_function name (Some t) = refl

-- ---- exported

-- with a type of its own, if it is the same
if_same : (u : FunctionTypeValue) (f : ComponentFunction)
    → (if is_same (function_tree u) (function_tree f.ty) then a_function (origin_seen f.origin) (function_tree u) else nothing) ≡ function_item (if same_type u f.ty then Some f else None)
if_same u f = elim (cases_Bool (same_type u f.ty)) [
  | inl yes_same ↦ rw (same_types u f.ty, yes_same) (ap (a_function (origin_seen f.origin)) (same_tree_if u f.ty yes_same))
  | inr not_same ↦ rw (same_types u f.ty, not_same) refl
]

ascribed_type : (f : ComponentFunction) (o : Option FunctionTypeValue)
    → function_if_same (origin_seen f.origin) (function_tree f.ty) (option_map function_tree o) ≡ function_item (option_and_then (λ asked. if same_type asked f.ty then Some f else None) o)
ascribed_type f None = refl
ascribed_type f (Some u) = if_same u f

pub exported_as : (s : Spaces) (types : List Item) (name : List ℕ) (t : Option ℕ) (o : Option ComponentFunction) → types ≡ map type_item s.types
    → exported_item types name (option_map (λ i. descriptions.Function i) t) (function_item o) ≡ function_item (option_and_then (plain.ascribed s t) o)
exported_as s types name None None e = refl
exported_as s types name None (Some f) e = refl
exported_as s types name (Some t) None e = refl
exported_as s types name (Some t) (Some f) e =
    let found : type_at is_function types t ≡ option_map function_tree (slice_get s.types t) = rw e (type_found s.types t) in
    ap (function_if_same (origin_seen f.origin) (function_tree f.ty)) found ∙ ascribed_type f (slice_get s.types t)
