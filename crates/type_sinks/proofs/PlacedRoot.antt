-- One more entry of a root may stand where it does.
use Rattle.std.proofs.Common.{◌≡◌, ◌<◌, ℕ, List, [], ◌∷◌, ◌++◌, length, map, Option, Some, None, true, refl, sym, ap, subst, ◌∙◌, arith, append_assoc, length-append}
use Rattle.std.proofs.lemmas.List.{append-nil}
use Rattle.distinct_names.specs.Names.{is_new}
use Rattle.component_value_types.specs.Types.{DefinedTypeValue}
use Rattle.component_definitions.specs.declared.sorts.ComponentSort.{ComponentSort}
use Rattle.component_definitions.specs.declared.externs.Description.TheVariants as descriptions
use Rattle.component_definitions.specs.Aliases.{instance_export}
use Rattle.component_sections.specs.Passed.component_instances-Declarators.{DeclaratorValue}
use Rattle.component_sections.specs.Passed.component_instances-TypeDefinitions.{defined, of_instance}
use Rattle.component_sections.specs.Passed.component_entries-declared-entry-Entry.{Entry}
use Rattle.component_sections.specs.Passed.component_entries-Entries.{EntryValue, entry_value, an_alias, a_type, an_import}
use Rattle.wit_types.specs.declared.kind.«Type».{«Type» as Ref}
use Rattle.wit_types.specs.declared.function.Param.{Param}
use Rattle.wit_types.specs.declared.interface.TypeDef.{TypeDef}
use Rattle.type_writing.specs.Passed.type_meaning-Words.{Label, BinaryTree}
use Rattle.type_writing.specs.Passed.type_meaning-Items.{Item, nothing, an_instance, item_at, is_function, type_if, type_at}
use Rattle.type_writing.specs.Passed.type_meaning-Scope.{Scope, adds, meaning}
use Rattle.type_writing.specs.Unfolding.{OwnName}
use Rattle.type_writing.specs.Functions.{FunctionStands}
use Rattle.type_writing.specs.Placing.{MayBeDefined}
use Rattle.type_writing.proofs.Placing.{item_below}
use Rattle.type_sinks.specs.declared.root.Root.{Root}
use Rattle.type_sinks.specs.Root.{InterfaceNames, IsHome}
use Rattle.type_sinks.specs.Imports.{entry_names}
use Rattle.type_sinks.specs.Placing.{DeclaratorsFollow, ArePlaced, known_of}
use Rattle.type_sinks.specs.Views.{entry_values, root_scope, root_names, RootIsPlaced, IsSameRoot, IsAdded, IsWrittenUnder}
use Rattle.type_sinks.proofs.Following.{type_follows, instance_type_follows, import_type_follows, import_function_follows, import_instance_follows, alias_follows}
use Rattle.type_sinks.proofs.Placed.{placed_push}
use Rattle.type_sinks.proofs.Rooted.{scope_after, types_added, fresh_import}

-- ---- what is there

function_there : (space : List Item) (i : ℕ) (t : BinaryTree) → type_at is_function space i ≡ Some t → i < length space
function_there space i t h = item_below space i (λ none. let bad : None ≡ Some t = sym (ap (type_if is_function) none) ∙ h in absurd cc)

instance_there : (space : List Item) (i : ℕ) (t : Item) → item_at space i ≡ t → (nothing ≡ t → ⊥) → i < length space
instance_there space i t h other = item_below space i (λ none. other (sym none ∙ h))

pub home_there : (names : InterfaceNames) (types : List TypeDef) (instances : List Item) (id k : ℕ) → IsHome names types instances id k → k < length instances
home_there names types instances id k h = instance_there instances k (an_instance h.site h.items) h.is (λ e. absurd cc)

-- the index that a type has taken
pub type_there : (old new : Root) (e : EntryValue) (i : ℕ) → length (adds (root_scope old) e).types ≡ 1 → i ≡ length (root_scope old).types → IsAdded old new e → i < length (root_scope new).types
type_there old new e i one at a =
    let count : length (root_scope new).types ≡ length ((root_scope old).types ++ (adds (root_scope old) e).types) = ap length (types_added old new e a) in
    let both = length-append (root_scope old).types (adds (root_scope old) e).types in
    omega (arith, count, both, one, at)

-- ---- one more entry

pub none_placed : (es : List Entry) → es ≡ [] → ArePlaced (map entry_value es)
none_placed es e = subst (λ (l : List Entry). ArePlaced (map entry_value l)) (sym e) tt

pub same_placed : (old new : Root) → IsSameRoot old new → RootIsPlaced old → RootIsPlaced new
same_placed old new a p = subst ArePlaced (sym a.entries) p

pub type_placed : (old new : Root) (d : DefinedTypeValue) → IsAdded old new (a_type (defined d)) → MayBeDefined (length (root_scope old).types) d → RootIsPlaced old → RootIsPlaced new
type_placed old new d a h p = placed_push (entry_values old) (entry_values new) (a_type (defined d)) a.entries p (type_follows (known_of (root_scope old)) d h)

pub import_type_placed : (old new : Root) (n : List ℕ) (t : ℕ) → is_new (root_names old) n ≡ true → t < length (root_scope old).types → IsAdded old new (an_import (record { name = n; description = descriptions.Equal t })) → RootIsPlaced old → RootIsPlaced new
import_type_placed old new n t fresh lt a p =
    placed_push (entry_values old) (entry_values new) (an_import (record { name = n; description = descriptions.Equal t })) a.entries p (import_type_follows (known_of (root_scope old)) n t (fresh_import old n fresh) lt)

pub import_function_placed : (old new : Root) (n : List ℕ) (t : ℕ) (label : OwnName → Label) (types : List TypeDef) (params : List Param) (result : Option Ref)
    → is_new (root_names old) n ≡ true → FunctionStands label types (root_scope old).types params result t → IsAdded old new (an_import (record { name = n; description = descriptions.Function t })) → RootIsPlaced old → RootIsPlaced new
import_function_placed old new n t label types params result fresh h a p =
    placed_push (entry_values old) (entry_values new) (an_import (record { name = n; description = descriptions.Function t })) a.entries p
    (import_function_follows (known_of (root_scope old)) n t (fresh_import old n fresh) (function_there (root_scope old).types t _ h.2))

pub alias_placed : (old new : Root) (s : ComponentSort) (i : ℕ) (n : List ℕ) → i < length (root_scope old).instances → IsAdded old new (an_alias (instance_export s i n)) → RootIsPlaced old → RootIsPlaced new
alias_placed old new s i n lt a p = placed_push (entry_values old) (entry_values new) (an_alias (instance_export s i n)) a.entries p (alias_follows (known_of (root_scope old)) s i n lt)

-- ---- an instance that is imported

one_type_more : (es news : List EntryValue) (ds : List DeclaratorValue) → news ≡ es ++ a_type (of_instance ds) ∷ [] → length (meaning es).types < length (meaning news).types
one_type_more es news ds e =
    let count = ap (λ (s : Scope). length s.types) (scope_after es news (a_type (of_instance ds)) e) ∙ length-append (meaning es).types _ in
    omega (arith, count)

names_same : (es news : List EntryValue) (ds : List DeclaratorValue) → news ≡ es ++ a_type (of_instance ds) ∷ [] → entry_names (meaning news).imports ≡ entry_names (meaning es).imports
names_same es news ds e = ap (λ (s : Scope). entry_names s.imports) (scope_after es news (a_type (of_instance ds)) e) ∙ ap entry_names (append-nil (meaning es).imports)

instance_placed : (es mid news : List EntryValue) (ds : List DeclaratorValue) (n : List ℕ) → mid ≡ es ++ a_type (of_instance ds) ∷ [] → news ≡ mid ++ an_import (record { name = n; description = descriptions.Instance (length (meaning es).types) }) ∷ []
    → is_new (entry_names (meaning es).imports) n ≡ true → DeclaratorsFollow (length (meaning es).types) ds → ArePlaced es → ArePlaced news
instance_placed es mid news ds n e f fresh follow p =
    let first = placed_push es mid (a_type (of_instance ds)) e p (instance_type_follows (known_of (meaning es)) ds follow) in
    placed_push mid news (an_import (record { name = n; description = descriptions.Instance (length (meaning es).types) })) f first
    (import_instance_follows (known_of (meaning mid)) n (length (meaning es).types) (ap (λ l. is_new l n) (names_same es mid ds e) ∙ fresh) (one_type_more es mid ds e))

pub import_placed : (old new : Root) (n : List ℕ) (ds : List DeclaratorValue) → IsWrittenUnder old new n ds → DeclaratorsFollow (length (root_scope old).types) ds → RootIsPlaced old → RootIsPlaced new
import_placed old new n ds a follow p =
    let es = entry_values old in
    let d = a_type (of_instance ds) in
    let e = an_import (record { name = n; description = descriptions.Instance (length (root_scope old).types) }) in
    instance_placed es (es ++ d ∷ []) (entry_values new) ds n refl (a.entries ∙ sym (append_assoc es (d ∷ []) (e ∷ []))) (fresh_import old n a.fresh) follow p
