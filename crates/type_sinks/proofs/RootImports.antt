-- One more entry: the indices go on telling what is imported.
use Rattle.std.proofs.Common.{◌≡◌, ℕ, zero, suc, List, [], ◌∷◌, ◌++◌, length, Option, Some, None, true, refl, sym, ap, subst, ◌∙◌, append_assoc}
use Rattle.std.specs.Prelude.{fold, option_map}
use Rattle.std.specs.List.{AllByRecursion as Each, flat_map}
use Rattle.std.proofs.lemmas.List.{append-nil, map-append}
use Rattle.distinct_names.specs.Names.{is_new, all_new}
use Rattle.wit_order.specs.Order.{Has}
use Rattle.component_definitions.specs.declared.sorts.ComponentSort.{ComponentSort}
use Rattle.component_definitions.specs.declared.sorts.ComponentSort.TheVariants as sorts
use Rattle.component_definitions.specs.declared.sorts.Sort.{Sort}
use Rattle.component_definitions.specs.declared.sorts.Sort.TheVariants.{Component, Core}
use Rattle.component_definitions.specs.declared.externs.Description.{Description}
use Rattle.component_definitions.specs.declared.externs.Description.TheVariants as descriptions
use Rattle.component_definitions.specs.Aliases.{AliasValue, core_instance_export, instance_export, outer}
use Rattle.component_sections.specs.Passed.component_instances-Declarators.{DeclaratorValue}
use Rattle.component_sections.specs.Passed.component_instances-TypeDefinitions.{defined, of_instance}
use Rattle.component_value_types.specs.Types.{DefinedTypeValue}
use Rattle.component_sections.specs.Passed.component_entries-Entries.{EntryValue, an_alias, an_import, an_export}
use Rattle.component_sections.specs.Passed.component_entries-Entries as entries
use Rattle.type_writing.specs.Passed.type_meaning-Tree.{Form, Parts, named, of}
use Rattle.type_writing.specs.Passed.type_meaning-Words.{Site, root_import, itself, imported, Label, Resource, BinaryTree, moved}
use Rattle.type_writing.specs.Passed.type_meaning-Syntax.{syntax_of}
use Rattle.type_writing.specs.Passed.type_meaning-Items.{Item, Items, nothing, a_type, a_function, from_import, an_instance_type, an_instance, Entry, items_of, item_named, item_at, is_function, type_at, parts_in, type_or_nothing, named_item, function_import, instance_type, instance_import, inside_of, put_items, new_resource}
use Rattle.type_writing.specs.Passed.type_meaning-Scope.{Scope, no_scope, joined, in_space, of_sort, sort_of, exported, import_label, imported_item, export_scope, adds, after, meaning}
use Rattle.type_sinks.specs.Root.{imported_name, imported_names}
use Rattle.type_sinks.specs.Inside.{exported_names}
use Rattle.type_sinks.specs.Imports.{names_in, entry_names, IsInstanceImported, AreImportsOf}
use Rattle.type_writing.proofs.Standing.{new_item}
use Rattle.type_sinks.proofs.Names.{has_before, has_last, all_new_push}
use Rattle.type_sinks.proofs.OwnItems.{at_each, AreNoFunctions, own_functions, own_types}
use Rattle.type_sinks.proofs.Insides.{items_named, names_of_items, names_put}

-- ---- the names of what is imported

space_imports : (sort : ComponentSort) (item : Item) → (in_space sort item).imports ≡ []
space_imports sorts.Function item = refl
space_imports sorts.Type_ item = refl
space_imports sorts.Instance item = refl

export_imports : (s : Scope) (n : List ℕ) (sort : Sort) (i : ℕ) (d : Option Description) → (export_scope s n sort i d).imports ≡ []
export_imports s n (Component sorts.Function) i d = refl
export_imports s n (Component sorts.Type_) i d = refl
export_imports s n (Component sorts.Instance) i d = refl
export_imports s n (Core kind) i d = refl

alias_imports : (s : Scope) (a : AliasValue) → (adds s (an_alias a)).imports ≡ []
alias_imports s (instance_export sort k n) = space_imports sort _
alias_imports s (core_instance_export kind k n) = refl
alias_imports s (outer count i) = refl

added_names : (s : Scope) (e : EntryValue) → entry_names (adds s e).imports ≡ imported_name e
added_names s (an_alias a) = ap entry_names (alias_imports s a)
added_names s (entries.a_type d) = refl
added_names s (an_import i) = ap (λ (l : List Entry). entry_names (l ++ record { name = i.name; item = imported_item s i.name i.description } ∷ [])) (space_imports (sort_of i.description) (imported_item s i.name i.description))
added_names s (an_export e) = ap entry_names (export_imports s e.name e.sort e.index e.ascribed)

names_from : (s : Scope) (es : List EntryValue) → entry_names (fold after s es).imports ≡ entry_names s.imports ++ flat_map imported_name es
names_from s [] = sym (append-nil _)
names_from s (e ∷ es) =
    let one : entry_names (after s e).imports ≡ entry_names s.imports ++ imported_name e =
    map-append (λ (x : Entry). x.name) s.imports (adds s e).imports ∙ ap (λ l. entry_names s.imports ++ l) (added_names s e) in
    names_from (after s e) es ∙ ap (λ l. l ++ flat_map imported_name es) one ∙ append_assoc (entry_names s.imports) (imported_name e) (flat_map imported_name es)

pub imports_named : (es : List EntryValue) → imported_names es ≡ entry_names (meaning es).imports
unfolding imported_names meaning
imports_named es = sym (names_from no_scope es)

-- ---- what is added, behind what there was

abbrev IsTypeThere : List Entry → Item → Type 0
IsTypeThere imports item = (x : List ℕ) (t : BinaryTree) → item ≡ a_type (named (import_label x) t) → Has imports (record { name = x; item = a_type (named (import_label x) t) })

abbrev IsFunctionThere : List Entry → Item → Type 0
IsFunctionThere imports item = (x : List ℕ) (t : BinaryTree) → item ≡ a_function (from_import (import_label x)) t → Has imports (record { name = x; item = a_function (from_import (import_label x)) t })

abbrev IsInstanceThere : List Entry → Item → Type 0
IsInstanceThere imports item = (site : Site) (items : Items) → item ≡ an_instance site items → IsInstanceImported imports site items

-- what the scope adds is so of the imports with it
record AreThere (s more : Scope) : Type 0 where
  types : Each (IsTypeThere (s.imports ++ more.imports)) more.types
  functions : Each (IsFunctionThere (s.imports ++ more.imports)) more.functions
  instances : Each (IsInstanceThere (s.imports ++ more.imports)) more.instances
  distinct : all_new [] (entry_names (s.imports ++ more.imports)) ≡ true
  exports : more.exports ≡ []

behind_each : (P : Item → Type 0) (xs ys : List Item) → P nothing → ((i : ℕ) → P (item_at xs i)) → Each P ys → (i : ℕ) → P (item_at (xs ++ ys) i)
behind_each P [] ys n before h i = at_each P ys n h i
behind_each P (x ∷ xs) ys n before h zero = before zero
behind_each P (x ∷ xs) ys n before h (suc i) = behind_each P xs ys n (λ j. before (suc j)) h i

instance_before : (xs ys : List Entry) (site : Site) (items : Items) → IsInstanceImported xs site items → IsInstanceImported (xs ++ ys) site items
instance_before xs ys site items h = record { name = h.name; at = h.at; has = has_before xs ys _ h.has; distinct = h.distinct; functions = h.functions; types = h.types }

joined_imports : (s more : Scope) → AreImportsOf s → AreThere s more → AreImportsOf (joined s more)
joined_imports s more a b =
    let es = s.imports ++ more.imports in
    record {
      types = behind_each (IsTypeThere es) s.types more.types (λ x t h. absurd cc) (λ i x t h. has_before s.imports more.imports _ (a.types i x t h)) b.types;
      functions = behind_each (IsFunctionThere es) s.functions more.functions (λ x t h. absurd cc) (λ i x t h. has_before s.imports more.imports _ (a.functions i x t h)) b.functions;
      instances = behind_each (IsInstanceThere es) s.instances more.instances (λ site items h. absurd cc) (λ k site items h. instance_before s.imports more.imports site items (a.instances k site items h)) b.instances;
      distinct = b.distinct;
      exports = ap (λ l. l ++ more.exports) a.exports ∙ b.exports;
    }

-- ---- entries

-- behind the entry they tell it too
abbrev pub KeepsImports : Scope → EntryValue → Type 0
KeepsImports s e = AreImportsOf s → AreImportsOf (after s e)

distinct_here : (s : Scope) → AreImportsOf s → all_new [] (entry_names (s.imports ++ [])) ≡ true
distinct_here s a = ap (λ l. all_new [] (entry_names l)) (append-nil s.imports) ∙ a.distinct

distinct_more : (s : Scope) (e : Entry) → AreImportsOf s → is_new (entry_names s.imports) e.name ≡ true → all_new [] (entry_names (s.imports ++ e ∷ [])) ≡ true
distinct_more s e a fresh = ap (all_new []) (map-append (λ (x : Entry). x.name) s.imports (e ∷ [])) ∙ all_new_push (entry_names s.imports) e.name a.distinct fresh

-- ---- types that are defined

form_unnamed : (f : Form) (ps : Option (Parts Label Resource)) (l : Label) (t : BinaryTree) → type_or_nothing (option_map (of f) ps) ≡ a_type (named l t) → ⊥
form_unnamed f None l t h = absurd cc
form_unnamed f (Some ps) l t h = absurd cc

pub define_keeps : (s : Scope) (d : DefinedTypeValue) → KeepsImports s (entries.a_type (defined d))
define_keeps s d a = joined_imports s _ a (record {
  types = (λ x t h. absurd (form_unnamed (syntax_of d).form (parts_in (syntax_of d).form.kind s.types (syntax_of d).parts) (import_label x) t h), tt);
  functions = tt;
  instances = tt;
  distinct = distinct_here s a;
  exports = refl;
})

pub instance_type_keeps : (s : Scope) (ds : List DeclaratorValue) → KeepsImports s (entries.a_type (of_instance ds))
instance_type_keeps s ds a = joined_imports s _ a (record {
  types = (λ x t h. absurd cc, tt);
  functions = tt;
  instances = tt;
  distinct = distinct_here s a;
  exports = refl;
})

-- ---- what is taken from instances

type_of_sort : (i : Item) (t : BinaryTree) → of_sort sorts.Type_ i ≡ a_type t → i ≡ a_type t
type_of_sort nothing t h = h
type_of_sort (a_type u) t h = h
type_of_sort (a_function o u) t h = absurd cc
type_of_sort (an_instance_type is) t h = absurd cc
type_of_sort (an_instance s is) t h = absurd cc

function_of_sort : (i : Item) (t : BinaryTree) (x : List ℕ) → of_sort sorts.Function i ≡ a_function (from_import (import_label x)) t → i ≡ a_function (from_import (import_label x)) t
function_of_sort nothing t x h = h
function_of_sort (a_type u) t x h = absurd cc
function_of_sort (a_function o u) t x h = h
function_of_sort (an_instance_type is) t x h = absurd cc
function_of_sort (an_instance s is) t x h = absurd cc

-- it is never an import of the root
taken_type : (es : List Entry) (i : Item) (n x : List ℕ) (t : BinaryTree) → IsInstanceThere es i → of_sort sorts.Type_ (exported i n) ≡ a_type (named (import_label x) t) → ⊥
taken_type es nothing n x t there h = absurd cc
taken_type es (a_type u) n x t there h = absurd cc
taken_type es (a_function o u) n x t there h = absurd cc
taken_type es (an_instance_type is) n x t there h = absurd cc
taken_type es (an_instance site is) n x t there h =
    let k = there site is refl in
    let own = k.types n (named (import_label x) t) (type_of_sort (item_named n is) (named (import_label x) t) h) in
    let is : named (import_label x) t ≡ named (record { site = site; name = own.0 }) own.1 = own.2 in
    let labels : import_label x ≡ record { site = site; name = own.0 } = cc in
    let sites : root_import ≡ imported k.name = ap (λ (l : Label). l.site) labels ∙ k.at in
    absurd cc

taken_function : (es : List Entry) (i : Item) (n x : List ℕ) (t : BinaryTree) → IsInstanceThere es i → of_sort sorts.Function (exported i n) ≡ a_function (from_import (import_label x)) t → ⊥
taken_function es nothing n x t there h = absurd cc
taken_function es (a_type u) n x t there h = absurd cc
taken_function es (a_function o u) n x t there h = absurd cc
taken_function es (an_instance_type is) n x t there h = absurd cc
taken_function es (an_instance site is) n x t there h =
    let k = there site is refl in
    let own = k.functions n (from_import (import_label x)) t (function_of_sort (item_named n is) t x h) in
    let is : from_import (import_label x) ≡ from_import (record { site = site; name = own.0 }) = own.1 in
    let labels : import_label x ≡ record { site = site; name = own.0 } = cc in
    let sites : root_import ≡ imported k.name = ap (λ (l : Label). l.site) labels ∙ k.at in
    absurd cc

pub take_keeps : (s : Scope) (k : ℕ) (n : List ℕ) → KeepsImports s (an_alias (instance_export sorts.Type_ k n))
take_keeps s k n a = joined_imports s _ a (record {
  types = (λ x t h. absurd (taken_type s.imports (item_at s.instances k) n x t (a.instances k) h), tt);
  functions = tt;
  instances = tt;
  distinct = distinct_here s a;
  exports = refl;
})

pub take_function_keeps : (s : Scope) (k : ℕ) (n : List ℕ) → KeepsImports s (an_alias (instance_export sorts.Function k n))
take_function_keeps s k n a = joined_imports s _ a (record {
  types = tt;
  functions = (λ x t h. absurd (taken_function s.imports (item_at s.instances k) n x t (a.instances k) h), tt);
  instances = tt;
  distinct = distinct_here s a;
  exports = refl;
})

-- ---- what is imported

-- the entry that is last, as another tells its name and item
last_has : (es : List Entry) (n x : List ℕ) (i j : Item) → n ≡ x → i ≡ j → Has (es ++ record { name = n; item = i } ∷ []) (record { name = x; item = j })
last_has es n x i j e f = subst (Has (es ++ record { name = n; item = i } ∷ [])) (λ k. record { name = e k; item = f k }) (has_last es (record { name = n; item = i }))

type_label : (n x : List ℕ) (i : Item) (t : BinaryTree) → named_item (import_label n) i ≡ a_type (named (import_label x) t) → n ≡ x
type_label n x nothing t h = absurd cc
type_label n x (a_type u) t h = let labels : import_label n ≡ import_label x = cc in ap (λ (l : Label). l.name) labels
type_label n x (a_function o u) t h = absurd cc
type_label n x (an_instance_type is) t h = absurd cc
type_label n x (an_instance s is) t h = absurd cc

function_label : (n x : List ℕ) (u : Option BinaryTree) (t : BinaryTree) → function_import (import_label n) u ≡ a_function (from_import (import_label x)) t → n ≡ x
function_label n x None t h = absurd cc
function_label n x (Some u) t h = let labels : import_label n ≡ import_label x = cc in ap (λ (l : Label). l.name) labels

pub import_type_keeps : (s : Scope) (n : List ℕ) (i : ℕ) → is_new (entry_names s.imports) n ≡ true → KeepsImports s (an_import (record { name = n; description = descriptions.Equal i }))
import_type_keeps s n i fresh a =
    let item : Item = imported_item s n (descriptions.Equal i) in
    joined_imports s _ a (record {
      types = (λ x t h. last_has s.imports n x item _ (type_label n x (item_at s.types i) t h) h, tt);
      functions = tt;
      instances = tt;
      distinct = distinct_more s (record { name = n; item = item }) a fresh;
      exports = refl;
    })

pub import_function_keeps : (s : Scope) (n : List ℕ) (i : ℕ) → is_new (entry_names s.imports) n ≡ true → KeepsImports s (an_import (record { name = n; description = descriptions.Function i }))
import_function_keeps s n i fresh a =
    let item : Item = imported_item s n (descriptions.Function i) in
    joined_imports s _ a (record {
      types = tt;
      functions = (λ x t h. last_has s.imports n x item _ (function_label n x (type_at is_function s.types i) t h) h, tt);
      instances = tt;
      distinct = distinct_more s (record { name = n; item = item }) a fresh;
      exports = refl;
    })

instance_there : (around : List Item) (ds : List DeclaratorValue) (es : List Entry) (n : List ℕ) (i : Item) → AreNoFunctions around → all_new [] (exported_names ds) ≡ true
    → i ≡ instance_import n (instance_type (around ∷ []) ds) → IsInstanceThere (es ++ record { name = n; item = i } ∷ []) i
instance_there around ds es n i clear distinct is site items h =
    let f = moved itself (imported n) in
    let g = new_resource n in
    let own = items_of (inside_of (around ∷ []) ds).items in
    let made : an_instance site items ≡ an_instance (imported n) (put_items f g own) = sym h ∙ is in
    let at : site ≡ imported n = cc in
    let are : items ≡ put_items f g own = cc in
    let names : names_in items ≡ exported_names ds = ap names_in are ∙ names_put f g own ∙ names_of_items (inside_of (around ∷ []) ds).items ∙ items_named (around ∷ []) ds in
    record {
      name = n;
      at = at;
      has = last_has es n n i (an_instance site items) refl h;
      distinct = ap (all_new []) names ∙ distinct;
      functions = λ name o t e.
          let r = own_functions around ds n clear name o t (sym (ap (item_named name) are) ∙ e) in
          (r.0, r.1 ∙ ap (λ (q : Site). from_import (record { site = q; name = r.0 })) (sym at));
      types = λ name t e.
          let r = own_types around ds n clear name t (sym (ap (item_named name) are) ∙ e) in
          (r.0, r.1, r.2 ∙ ap (λ (q : Site). named (record { site = q; name = r.0 }) r.1) (sym at));
    }

import_instance_keeps : (s : Scope) (n : List ℕ) (i : ℕ) (around : List Item) (ds : List DeclaratorValue) → is_new (entry_names s.imports) n ≡ true → AreNoFunctions around → all_new [] (exported_names ds) ≡ true
    → item_at s.types i ≡ instance_type (around ∷ []) ds → KeepsImports s (an_import (record { name = n; description = descriptions.Instance i }))
import_instance_keeps s n i around ds fresh clear distinct at a =
    let item : Item = imported_item s n (descriptions.Instance i) in
    joined_imports s _ a (record {
      types = tt;
      functions = tt;
      instances = (instance_there around ds s.imports n item clear distinct (ap (instance_import n) at), tt);
      distinct = distinct_more s (record { name = n; item = item }) a fresh;
      exports = refl;
    })

-- an instance, behind its type
pub import_both_keeps : (s : Scope) (n : List ℕ) (ds : List DeclaratorValue) → is_new (entry_names s.imports) n ≡ true → AreNoFunctions s.types → all_new [] (exported_names ds) ≡ true → AreImportsOf s
    → AreImportsOf (after (after s (entries.a_type (of_instance ds))) (an_import (record { name = n; description = descriptions.Instance (length s.types) })))
import_both_keeps s n ds fresh clear distinct a =
    let mid = after s (entries.a_type (of_instance ds)) in
    let still : is_new (entry_names mid.imports) n ≡ true = ap (λ l. is_new (entry_names l) n) (append-nil s.imports) ∙ fresh in
    import_instance_keeps mid n (length s.types) s.types ds still clear distinct (new_item s.types (instance_type (s.types ∷ []) ds)) (instance_type_keeps s ds a)

-- ---- where nothing is written

pub nothing_imports : AreImportsOf no_scope
nothing_imports = record {
  types = λ i x t h. absurd cc;
  functions = λ i x t h. absurd cc;
  instances = λ k site items h. absurd cc;
  distinct = refl;
  exports = refl;
}
