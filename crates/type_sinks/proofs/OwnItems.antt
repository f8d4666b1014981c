-- What an instance has when it is imported is its own: each function is imported with it, and each type has a name there.
use Rattle.std.proofs.Common.{◌≡◌, ℕ, zero, suc, List, [], ◌∷◌, Option, Some, None, true, refl, sym, ap, subst, ◌∙◌, inl, inr}
use Rattle.std.specs.Prelude.{fold, bytes_eq, if◌then◌else◌}
use Rattle.std.specs.List.{AllByRecursion as Each}
use Rattle.std.proofs.lemmas.Bool.{cases_Bool}
use Rattle.component_definitions.specs.declared.sorts.ComponentSort.{ComponentSort}
use Rattle.component_definitions.specs.declared.sorts.ComponentSort.TheVariants as sorts
use Rattle.component_definitions.specs.declared.sorts.Sort.{Sort}
use Rattle.component_definitions.specs.declared.sorts.Sort.TheVariants.{Component, Core}
use Rattle.component_definitions.specs.declared.externs.Description.{Description}
use Rattle.component_definitions.specs.declared.externs.Description.TheVariants as descriptions
use Rattle.component_definitions.specs.Aliases.{AliasValue, core_instance_export, instance_export, outer}
use Rattle.component_sections.specs.Passed.component_instances-Declarators.{DeclaratorValue, declared_type, declared_alias, declared_export}
use Rattle.component_sections.specs.Passed.component_instances-TypeDefinitions.{TypeDefinitionValue, defined, of_instance}
use Rattle.component_sections.specs.Passed.component_instances-TypeDefinitions as definitions
use Rattle.component_sections.specs.Passed.component_entries-Entries.{EntryValue, an_alias, an_import, an_export}
use Rattle.component_sections.specs.Passed.component_entries-Entries as entries
use Rattle.type_writing.specs.Passed.type_meaning-Tree.{named, resource, put, is_resource}
use Rattle.type_writing.specs.Passed.type_meaning-Words.{Site, itself, imported, Label, Resource, its_own, BinaryTree, moved}
use Rattle.type_writing.specs.Passed.type_meaning-Items.{Origin, from_import, Item, Items, nothing, a_type, a_function, an_instance_type, an_instance, no_items, and_item, Entry, items_of, item_named, item_at, is_function, type_if, type_at, type_or_nothing, Inside, no_inside, own_label, named_item, function_import, declared_item, type_space, alias_space, outer_item, declared, inside_of, put_origin, put_item, put_items, new_resource}
use Rattle.type_writing.specs.Passed.type_meaning-Scope.{Scope, no_scope, in_space, of_sort, exported, definition_item, alias_scope, export_label, renamed, is_same, type_if_same, ascribed, exported_item, export_scope, adds, after, meaning}
use Rattle.type_sinks.specs.Imports.{HasOwnFunctions, HasOwnTypes}
use Rattle.type_sinks.proofs.Keeping.{each_push, each_append}

-- what holds of each item of a list, and of nothing, holds at each index
pub at_each : (P : Item → Type 0) (xs : List Item) → P nothing → Each P xs → (i : ℕ) → P (item_at xs i)
at_each P [] n h i = n
at_each P (x ∷ xs) n h zero = h.0
at_each P (x ∷ xs) n h (suc i) = at_each P xs n h.1 i

-- ---- among types there is no function

abbrev IsNoFunction : Item → Type 0
IsNoFunction item = (o : Origin) (t : BinaryTree) → item ≡ a_function o t → ⊥

abbrev pub AreNoFunctions : List Item → Type 0
AreNoFunctions items = Each IsNoFunction items

nothing_no : IsNoFunction nothing
nothing_no o t h = absurd cc

type_no : (x : Option BinaryTree) → IsNoFunction (type_or_nothing x)
type_no None o t h = absurd cc
type_no (Some u) o t h = absurd cc

named_no : (l : Label) (i : Item) → IsNoFunction i → IsNoFunction (named_item l i)
named_no l nothing n o t h = absurd cc
named_no l (a_type u) n o t h = absurd cc
named_no l (a_function p u) n o t h = n o t h
named_no l (an_instance_type is) n o t h = absurd cc
named_no l (an_instance s is) n o t h = absurd cc

outer_no : (scopes : List (List Item)) (count i : ℕ) → Each AreNoFunctions scopes → IsNoFunction (outer_item scopes count i)
outer_no [] count i h = nothing_no
outer_no (s ∷ scopes) zero i h = at_each IsNoFunction s nothing_no h.0 i
outer_no (s ∷ scopes) (suc count) i h = outer_no scopes count i h.1

-- ---- nor in the types of a component

sort_no : (i : Item) → IsNoFunction (of_sort sorts.Type_ i)
sort_no nothing o t h = absurd cc
sort_no (a_type u) o t h = absurd cc
sort_no (a_function p u) o t h = absurd cc
sort_no (an_instance_type is) o t h = absurd cc
sort_no (an_instance s is) o t h = absurd cc

space_no : (sort : ComponentSort) (item : Item) → IsNoFunction item → AreNoFunctions (in_space sort item).types
space_no sorts.Function item n = tt
space_no sorts.Type_ item n = (n, tt)
space_no sorts.Instance item n = tt

alias_no : (s : Scope) (a : AliasValue) → AreNoFunctions s.types → AreNoFunctions (alias_scope s a).types
alias_no s (instance_export sorts.Function k n) h = tt
alias_no s (instance_export sorts.Type_ k n) h = (sort_no (exported (item_at s.instances k) n), tt)
alias_no s (instance_export sorts.Instance k n) h = tt
alias_no s (core_instance_export kind k n) h = tt
alias_no s (outer count i) h = (outer_no (s.types ∷ []) count i (h, tt), tt)

definition_no : (s : Scope) (d : TypeDefinitionValue) → IsNoFunction (definition_item s d)
definition_no s (defined d) = type_no _
definition_no s (definitions.resource f) = λ o t h. absurd cc
definition_no s (of_instance ds) = λ o t h. absurd cc

renamed_no : (n : List ℕ) (i : Item) → IsNoFunction i → IsNoFunction (renamed n i)
renamed_no n nothing h o t e = absurd cc
renamed_no n (a_type u) h o t e = absurd cc
renamed_no n (a_function p u) h o t e = h o t e
renamed_no n (an_instance_type is) h o t e = absurd cc
renamed_no n (an_instance s is) h o t e = absurd cc

same_no : (l : Label) (u : BinaryTree) (x : Option BinaryTree) → IsNoFunction (type_if_same l u x)
same_no l u None = nothing_no
same_no l u (Some w) = λ o t h. elim (cases_Bool (is_same w u)) [
  | inl b ↦ let k : a_type (named l w) ≡ a_function o t = rw b at h in absurd cc
  | inr b ↦ let k : nothing ≡ a_function o t = rw b at h in absurd cc
]

resource_no : (l : Label) (u : BinaryTree) → IsNoFunction (if is_resource u then a_type (named l u) else nothing)
resource_no l u o t h = elim (cases_Bool (is_resource u)) [
  | inl b ↦ let k : a_type (named l u) ≡ a_function o t = rw b at h in absurd cc
  | inr b ↦ let k : nothing ≡ a_function o t = rw b at h in absurd cc
]

ascribed_no : (types : List Item) (n : List ℕ) (d : Description) (i : Item) → IsNoFunction i → IsNoFunction (ascribed types n d i)
ascribed_no types n (descriptions.Function k) (a_function p u) h = λ o t e. h p u refl
ascribed_no types n (descriptions.Function k) nothing h = nothing_no
ascribed_no types n (descriptions.Function k) (a_type u) h = nothing_no
ascribed_no types n (descriptions.Function k) (an_instance_type is) h = nothing_no
ascribed_no types n (descriptions.Function k) (an_instance s is) h = nothing_no
ascribed_no types n (descriptions.Equal k) nothing h = nothing_no
ascribed_no types n (descriptions.Equal k) (a_type u) h = same_no (export_label n) u (type_if (λ _. true) (item_at types k))
ascribed_no types n (descriptions.Equal k) (a_function p u) h = nothing_no
ascribed_no types n (descriptions.Equal k) (an_instance_type is) h = nothing_no
ascribed_no types n (descriptions.Equal k) (an_instance s is) h = nothing_no
ascribed_no types n descriptions.Resource nothing h = nothing_no
ascribed_no types n descriptions.Resource (a_type u) h = resource_no (export_label n) u
ascribed_no types n descriptions.Resource (a_function p u) h = nothing_no
ascribed_no types n descriptions.Resource (an_instance_type is) h = nothing_no
ascribed_no types n descriptions.Resource (an_instance s is) h = nothing_no
ascribed_no types n (descriptions.Instance k) i h = nothing_no

exported_no : (types : List Item) (n : List ℕ) (d : Option Description) (i : Item) → IsNoFunction i → IsNoFunction (exported_item types n d i)
exported_no types n None i h = renamed_no n i h
exported_no types n (Some d) i h = ascribed_no types n d i h

export_no : (s : Scope) (n : List ℕ) (sort : Sort) (i : ℕ) (d : Option Description) → AreNoFunctions s.types → AreNoFunctions (export_scope s n sort i d).types
export_no s n (Component sorts.Function) i d h = tt
export_no s n (Component sorts.Type_) i d h = (exported_no s.types n d (item_at s.types i) (at_each IsNoFunction s.types nothing_no h i), tt)
export_no s n (Component sorts.Instance) i d h = tt
export_no s n (Core kind) i d h = tt

import_no : (s : Scope) (n : List ℕ) (d : Description) → AreNoFunctions s.types → AreNoFunctions (adds s (an_import (record { name = n; description = d }))).types
import_no s n (descriptions.Function i) h = tt
import_no s n (descriptions.Equal i) h = (named_no _ (item_at s.types i) (at_each IsNoFunction s.types nothing_no h i), tt)
import_no s n descriptions.Resource h = ((λ o t e. absurd cc), tt)
import_no s n (descriptions.Instance i) h = tt

adds_no : (s : Scope) (e : EntryValue) → AreNoFunctions s.types → AreNoFunctions (adds s e).types
adds_no s (an_alias a) h = alias_no s a h
adds_no s (entries.a_type d) h = (definition_no s d, tt)
adds_no s (an_import i) h = import_no s i.name i.description h
adds_no s (an_export e) h = export_no s e.name e.sort e.index e.ascribed h

types_no : (s : Scope) (es : List EntryValue) → AreNoFunctions s.types → AreNoFunctions (fold after s es).types
types_no s [] h = h
types_no s (e ∷ es) h = types_no (after s e) es (each_append IsNoFunction s.types (adds s e).types h (adds_no s e h))

pub types_are_no_functions : (es : List EntryValue) → AreNoFunctions (meaning es).types
unfolding meaning
types_are_no_functions es = types_no no_scope es tt

-- ---- what is exported in an instance type is its own

record IsOwn (site : Site) (item : Item) : Type 0 where
  function : (o : Origin) (t : BinaryTree) → item ≡ a_function o t → (n : List ℕ) × (o ≡ from_import (record { site = site; name = n }))
  its_type : (t : BinaryTree) → item ≡ a_type t → (n : List ℕ) × (u : BinaryTree) × (t ≡ named (record { site = site; name = n }) u)

nothing_own : (site : Site) → IsOwn site nothing
nothing_own site = record { function = λ o t h. absurd cc; its_type = λ t h. absurd cc }

function_own : (n : List ℕ) (x : Option BinaryTree) → IsOwn itself (function_import (own_label n) x)
function_own n None = nothing_own itself
function_own n (Some u) = record { function = λ o t h. (n, cc); its_type = λ t h. absurd cc }

type_own : (n : List ℕ) (i : Item) → IsNoFunction i → IsOwn itself (named_item (own_label n) i)
type_own n nothing clear = nothing_own itself
type_own n (a_type u) clear = record { function = λ o t h. absurd cc; its_type = λ t h. (n, u, cc) }
type_own n (a_function p u) clear = absurd (clear p u refl)
type_own n (an_instance_type is) clear = record { function = λ o t h. absurd cc; its_type = λ t h. absurd cc }
type_own n (an_instance s is) clear = record { function = λ o t h. absurd cc; its_type = λ t h. absurd cc }

declared_own : (types : List Item) (n : List ℕ) (d : Description) → AreNoFunctions types → IsOwn itself (declared_item types n d)
declared_own types n (descriptions.Function i) h = function_own n (type_at is_function types i)
declared_own types n (descriptions.Equal i) h = type_own n (item_at types i) (at_each IsNoFunction types nothing_no h i)
declared_own types n descriptions.Resource h = record { function = λ o t e. absurd cc; its_type = λ t e. (n, resource (its_own n), cc) }
declared_own types n (descriptions.Instance i) h = nothing_own itself

record AreOwn (s : Inside) : Type 0 where
  types : AreNoFunctions s.types
  items : Each (λ (e : Entry). IsOwn itself e.item) s.items

taken_no : (scopes : List (List Item)) (a : AliasValue) → Each AreNoFunctions scopes → AreNoFunctions (alias_space scopes a)
taken_no scopes (outer count i) h = (outer_no scopes count i h, tt)
taken_no scopes (instance_export sort k n) h = tt
taken_no scopes (core_instance_export kind k n) h = tt

spaced_no : (types : List Item) (n : List ℕ) (d : Description) → AreNoFunctions types → AreNoFunctions (type_space d (declared_item types n d))
spaced_no types n (descriptions.Function i) h = tt
spaced_no types n (descriptions.Equal i) h = (named_no (own_label n) (item_at types i) (at_each IsNoFunction types nothing_no h i), tt)
spaced_no types n descriptions.Resource h = ((λ o t e. absurd cc), tt)
spaced_no types n (descriptions.Instance i) h = tt

declared_are_own : (around : List Item) (s : Inside) (d : DeclaratorValue) → AreNoFunctions around → AreOwn s → AreOwn (declared (around ∷ []) s d)
declared_are_own around s (declared_type t) clear own = record { types = each_append IsNoFunction s.types _ own.types (type_no _, tt); items = own.items }
declared_are_own around s (declared_alias a) clear own = record { types = each_append IsNoFunction s.types _ own.types (taken_no (s.types ∷ around ∷ []) a (own.types, (clear, tt))); items = own.items }
declared_are_own around s (declared_export n d) clear own = record {
  types = each_append IsNoFunction s.types _ own.types (spaced_no s.types n d own.types);
  items = each_push (λ (e : Entry). IsOwn itself e.item) s.items (record { name = n; item = declared_item s.types n d }) own.items (declared_own s.types n d own.types);
}

own_from : (around : List Item) (s : Inside) (ds : List DeclaratorValue) → AreNoFunctions around → AreOwn s → AreOwn (fold (declared (around ∷ [])) s ds)
own_from around s [] clear own = own
own_from around s (d ∷ ds) clear own = own_from around (declared (around ∷ []) s d) ds clear (declared_are_own around s d clear own)

own_named : (n : List ℕ) (es : List Entry) → Each (λ (e : Entry). IsOwn itself e.item) es → IsOwn itself (item_named n (items_of es))
own_named n [] h = nothing_own itself
own_named n (e ∷ es) h = elim (cases_Bool (bytes_eq n e.name)) [
  | inl b ↦ let is : item_named n (items_of (e ∷ es)) ≡ e.item = rw b refl in subst (IsOwn itself) (sym is) h.0
  | inr b ↦ let is : item_named n (items_of (e ∷ es)) ≡ item_named n (items_of es) = rw b refl in subst (IsOwn itself) (sym is) (own_named n es h.1)
]

-- ---- and so is what the instance has

own_moved : (m : List ℕ) (g : Resource → BinaryTree) (i : Item) → IsOwn itself i → IsOwn (imported m) (put_item (moved itself (imported m)) g i)
own_moved m g nothing own = nothing_own (imported m)
own_moved m g (a_type u) own = record {
  function = λ o t h. absurd cc;
  its_type = λ t h.
      let r = own.its_type u refl in
      let is : t ≡ put (moved itself (imported m)) g u = cc in
      (r.0, put (moved itself (imported m)) g r.1, is ∙ ap (put (moved itself (imported m)) g) r.2);
}
own_moved m g (a_function p u) own = record {
  function = λ o t h.
      let r = own.function p u refl in
      let is : o ≡ put_origin (moved itself (imported m)) p = cc in
      (r.0, is ∙ ap (put_origin (moved itself (imported m))) r.1);
  its_type = λ t h. absurd cc;
}
own_moved m g (an_instance_type is) own = record { function = λ o t h. absurd cc; its_type = λ t h. absurd cc }
own_moved m g (an_instance s is) own = record { function = λ o t h. absurd cc; its_type = λ t h. absurd cc }

-- an item keeps its name
pub put_named : (f : Label → Label) (g : Resource → BinaryTree) (n : List ℕ) (is : Items) → item_named n (put_items f g is) ≡ put_item f g (item_named n is)
put_named f g n no_items = refl
put_named f g n (and_item m i more) = elim (cases_Bool (bytes_eq n m)) [
  | inl e ↦ rw e refl
  | inr e ↦ rw e (put_named f g n more)
]

own_imported : (around : List Item) (ds : List DeclaratorValue) (m n : List ℕ) → AreNoFunctions around
    → IsOwn (imported m) (item_named n (put_items (moved itself (imported m)) (new_resource m) (items_of (inside_of (around ∷ []) ds).items)))
own_imported around ds m n clear =
    let items = items_of (inside_of (around ∷ []) ds).items in
    let own = own_from around no_inside ds clear (record { types = tt; items = tt }) in
    subst (IsOwn (imported m)) (sym (put_named (moved itself (imported m)) (new_resource m) n items)) (own_moved m (new_resource m) (item_named n items) (own_named n (inside_of (around ∷ []) ds).items own.items))

pub own_functions : (around : List Item) (ds : List DeclaratorValue) (m : List ℕ) → AreNoFunctions around
    → HasOwnFunctions (imported m) (put_items (moved itself (imported m)) (new_resource m) (items_of (inside_of (around ∷ []) ds).items))
own_functions around ds m clear name = (own_imported around ds m name clear).function

pub own_types : (around : List Item) (ds : List DeclaratorValue) (m : List ℕ) → AreNoFunctions around
    → HasOwnTypes (imported m) (put_items (moved itself (imported m)) (new_resource m) (items_of (inside_of (around ∷ []) ds).items))
own_types around ds m clear name = (own_imported around ds m name clear).its_type
