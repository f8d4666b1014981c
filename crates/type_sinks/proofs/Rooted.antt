-- The root: one more entry, and what is remembered stays so.
use Rattle.std.proofs.Common.{◌≡◌, ℕ, ◌+◌, List, [], ◌∷◌, ◌++◌, length, map, Option, Some, None, true, refl, sym, ap, subst, ◌∙◌, arith, length-append}
use Rattle.std.specs.Prelude.{Result, Ok, Err, IfOk, OnOk, slice_get, option_map, string_bytes, fold}
use Rattle.std.specs.List.{flat_map}
use Rattle.std.proofs.lemmas.Grind.{flat_map-append}
use Rattle.std.proofs.lemmas.List.{append-nil, map-append}
use Rattle.std.proofs.lemmas.List.Sums.{fold-append}
use Rattle.component_value_types.specs.declared.values.ValueType.TheVariants.{Index}
use Rattle.distinct_names.specs.Names.{is_new}
use Rattle.component_definitions.specs.declared.sorts.ComponentSort.TheVariants as sorts
use Rattle.component_definitions.specs.Aliases.{instance_export}
use Rattle.component_sections.specs.Passed.component_entries-declared-entry-Entry.{Entry}
use Rattle.component_definitions.specs.declared.externs.Description.TheVariants as descriptions
use Rattle.component_sections.specs.Passed.component_entries-Entries.{EntryValue, entry_value, an_alias, an_import}
use Rattle.wit_types.specs.declared.function.Param.{Param}
use Rattle.wit_types.specs.declared.kind.«Type».{«Type» as Ref}
use Rattle.wit_types.specs.declared.kind.«Type».TheVariants.{Id}
use Rattle.wit_types.specs.declared.interface.TypeDef.{TypeDef}
use Rattle.wit_types.specs.declared.interface.TypeOwner.{TypeOwner}
use Rattle.wit_types.specs.declared.interface.TypeOwner.TheVariants as belongs
use Rattle.type_writing.specs.Passed.type_meaning-Items.{Item, Items, a_function, from_import, function_import, a_type, an_instance, or_nothing, item_at, item_named, named_item}
use Rattle.type_writing.specs.Passed.type_meaning-Words.{Site, root_import}
use Rattle.type_writing.specs.Passed.type_meaning-Scope.{Scope, import_label, imported_item, no_scope, adds, after, meaning, of_sort, exported}
use Rattle.type_sinks.specs.declared.root.Root.{Root}
use Rattle.type_sinks.specs.Kept.{index_of}
use Rattle.type_sinks.specs.Root.{InterfaceNames, site_of, root_label, is_of_world, imported_name, imported_names, IsHome, RootGood}
use Rattle.type_sinks.specs.Imports.{entry_names, AreImportsOf}
use Rattle.type_writing.specs.Writing.{written, Stands, Begins}
use Rattle.type_sinks.specs.Views.{entry_values, root_scope, interface_names, root_names, root_setting, RootIsGood, IsSameRoot, IsAdded, IsFunctionAt, InstanceHasFunction}
use Rattle.type_writing.specs.Functions.{FunctionStands}
use Rattle.type_writing.proofs.Standing.{get_begin, stands_keeps, next_value, new_item}
use Rattle.type_sinks.proofs.RootImports.{KeepsImports, imports_named, nothing_imports}

-- ---- counts

meaning_push : (es : List EntryValue) (e : EntryValue) → meaning (es ++ e ∷ []) ≡ after (meaning es) e
unfolding meaning
meaning_push es e = fold-append after no_scope es (e ∷ [])

pub values_push : (old new : List Entry) (e : Entry) → new ≡ old ++ e ∷ [] → map entry_value new ≡ map entry_value old ++ entry_value e ∷ []
values_push old new e h = ap (map entry_value) h ∙ map-append entry_value old (e ∷ [])

pub scope_push : (old new : List Entry) (e : Entry) → new ≡ old ++ e ∷ [] → meaning (map entry_value new) ≡ after (meaning (map entry_value old)) (entry_value e)
scope_push old new e h = ap meaning (values_push old new e h) ∙ meaning_push (map entry_value old) (entry_value e)

imported_push : (es : List EntryValue) (e : EntryValue) → imported_names (es ++ e ∷ []) ≡ imported_names es ++ imported_name e
unfolding imported_names
imported_push es e = flat_map-append imported_name es (e ∷ []) ∙ ap (λ l. flat_map imported_name es ++ l) (append-nil (imported_name e))

-- the names of what is imported, with one more entry
pub imported_after : (old new : List EntryValue) (e : EntryValue) (names more : List (List ℕ)) → new ≡ old ++ e ∷ [] → names ≡ imported_names old → more ≡ names ++ imported_name e → more ≡ imported_names new
imported_after old new e names more h at next = next ∙ ap (λ l. l ++ imported_name e) at ∙ sym (ap imported_names h ∙ imported_push old e)

pub scope_after : (old new : List EntryValue) (e : EntryValue) → new ≡ old ++ e ∷ [] → meaning new ≡ after (meaning old) e
scope_after old new e h = ap meaning h ∙ meaning_push old e

pub one_more : (xs ys more : List Item) (n m : ℕ) → ys ≡ xs ++ more → length more ≡ 1 → n ≡ length xs → m ≡ n + 1 → m ≡ length ys
one_more xs ys more n m e one at next =
    let k : length ys ≡ length (xs ++ more) = ap length e in
    let l = length-append xs more in
    omega (arith, k, l, one, at, next)

pub no_more : (xs ys more : List Item) (n : ℕ) → ys ≡ xs ++ more → more ≡ [] → n ≡ length xs → n ≡ length ys
no_more xs ys more n e none at = at ∙ ap length (sym (e ∙ ap (λ l. xs ++ l) none ∙ append-nil xs))

-- whatever is answered
pub ok_always : {X E P : Type 0} (r : Result X E) (Q : X → Type 0) → ((x : X) → Q x → P) → IfOk r Q → OnOk r P
ok_always (Ok x) Q f h = f x h
ok_always (Err e) Q f h = tt

-- ---- where nothing is written

pub nothing_good : (names : InterfaceNames) (known homes : ℕ → Option ℕ) (scope : Scope) (types : List TypeDef) → scope ≡ no_scope → ((id : ℕ) → known id ≡ None) → ((id : ℕ) → homes id ≡ None) → RootGood names known homes scope types
nothing_good names known homes scope types none e f = record {
  ids = λ id i h. let k : None ≡ Some i = sym (e id) ∙ h in absurd cc;
  instances = λ id i h. let k : None ≡ Some i = sym (f id) ∙ h in absurd cc;
  imports = subst AreImportsOf (sym none) nothing_imports;
}

pub nothing_imported : (es : List Entry) (names : List (List ℕ)) → es ≡ [] → names ≡ [] → names ≡ imported_names (map entry_value es)
unfolding imported_names
nothing_imported es names e f = f ∙ ap (λ l. flat_map imported_name (map entry_value l)) (sym e)

pub nothing_written : (es : List Entry) → es ≡ [] → meaning (map entry_value es) ≡ no_scope
unfolding meaning
nothing_written es e = ap (λ l. fold after no_scope (map entry_value l)) e

-- ---- what is remembered

pub types_added : (old new : Root) (e : EntryValue) → IsAdded old new e → (root_scope new).types ≡ (root_scope old).types ++ (adds (root_scope old) e).types
types_added old new e a = ap (λ (s : Scope). s.types) (ap meaning a.entries ∙ meaning_push (entry_values old) e)

pub functions_added : (old new : Root) (e : EntryValue) → IsAdded old new e → (root_scope new).functions ≡ (root_scope old).functions ++ (adds (root_scope old) e).functions
functions_added old new e a = ap (λ (s : Scope). s.functions) (ap meaning a.entries ∙ meaning_push (entry_values old) e)

pub instances_added : (old new : Root) (e : EntryValue) → IsAdded old new e → (root_scope new).instances ≡ (root_scope old).instances ++ (adds (root_scope old) e).instances
instances_added old new e a = ap (λ (s : Scope). s.instances) (ap meaning a.entries ∙ meaning_push (entry_values old) e)

pub instance_there : (x : Option Item) (s : Site) (is : Items) → or_nothing x ≡ an_instance s is → x ≡ Some (an_instance s is)
instance_there None s is h = absurd cc
instance_there (Some x) s is h = ap (λ (i : Item). Some i) h

pub home_keeps : (names : InterfaceNames) (types : List TypeDef) (xs ys : List Item) (id k : ℕ) → Begins xs ys → IsHome names types xs id k → IsHome names types ys id k
home_keeps names types xs ys id k b h = record {
  def = h.def;
  there = h.there;
  interface = h.interface;
  owner = h.owner;
  name = h.name;
  named = h.named;
  site = h.site;
  items = h.items;
  is = ap or_nothing (ap (λ l. slice_get l k) b.1 ∙ get_begin xs b.0 k (an_instance h.site h.items) (instance_there (slice_get xs k) h.site h.items h.is));
  tree = h.tree;
  unfolds = h.unfolds;
  has = h.has;
  value = h.value;
}

pub good_keeps : (names : InterfaceNames) (known homes : ℕ → Option ℕ) (old new : Scope) (types : List TypeDef) → Begins old.types new.types → Begins old.instances new.instances → AreImportsOf new → RootGood names known homes old types → RootGood names known homes new types
good_keeps names known homes old new types b c imports g = record {
  ids = λ id i h. stands_keeps (root_label names) (root_label names) types old.types new.types (Id id) (Index i) refl b (g.ids id i h);
  instances = λ id k h. home_keeps names types old.instances new.instances id k c (g.instances id k h);
  imports = imports;
}

pub root_keeps : (old new : Root) (e : EntryValue) (types : List TypeDef) → IsAdded old new e → KeepsImports (root_scope old) e → RootIsGood old types → RootIsGood new types
root_keeps old new e types a keeps g =
    let imports : AreImportsOf (root_scope new) = subst AreImportsOf (sym (scope_after (entry_values old) (entry_values new) e a.entries)) (keeps g.imports) in
    let grown = good_keeps (interface_names old) (index_of old.known) (index_of old.homes) (root_scope old) (root_scope new) types ((adds (root_scope old) e).types, types_added old new e a) ((adds (root_scope old) e).instances, instances_added old new e a) imports g in
    subst (λ n. RootGood n (index_of new.known) (index_of new.homes) (root_scope new) types) (sym a.names)
    (subst (λ k. RootGood (interface_names old) (index_of k) (index_of new.homes) (root_scope new) types) (sym a.known) (subst (λ k. RootGood (interface_names old) (index_of old.known) (index_of k) (root_scope new) types) (sym a.homes) grown))

pub same_good : (old new : Root) (types : List TypeDef) → IsSameRoot old new → RootIsGood old types → RootIsGood new types
same_good old new types a g =
    let scope : root_scope new ≡ root_scope old = ap meaning a.entries in
    subst (λ n. RootGood n (index_of new.known) (index_of new.homes) (root_scope new) types) (sym a.names)
    (subst (λ k. RootGood (interface_names old) (index_of k) (index_of new.homes) (root_scope new) types) (sym a.known) (subst (λ k. RootGood (interface_names old) (index_of old.known) (index_of k) (root_scope new) types) (sym a.homes) (subst (λ s. RootGood (interface_names old) (index_of old.known) (index_of old.homes) s types) (sym scope) g)))

pub setting_from : (old new : Root) → interface_names new ≡ interface_names old → new.homes ≡ old.homes → (root_scope new).functions ≡ (root_scope old).functions → (root_scope new).instances ≡ (root_scope old).instances → root_setting new ≡ root_setting old
setting_from old new e f g h = λ i. record {
  label = root_label (e i);
  is_own = is_of_world;
  homes = index_of (f i);
  interface = None;
  around = record { interfaces = e i; imported = []; known = λ _. None; functions = g i; instances = h i };
}

abbrev RootStays : Root → Root → Type 0
RootStays old new =
    (root_setting new ≡ root_setting old) × ((root_scope new).types ≡ (root_scope old).types) × (root_names new ≡ root_names old) × (new.known ≡ old.known)
    × ((types : List TypeDef) → RootIsGood old types → RootIsGood new types)

pub root_stays : (old new : Root) → IsSameRoot old new → RootStays old new
root_stays old new a = (setting_from old new a.names a.homes (ap (λ es. (meaning es).functions) a.entries) (ap (λ es. (meaning es).instances) a.entries), ap (λ es. (meaning es).types) a.entries, ap imported_names a.entries, a.known, λ types. same_good old new types a)

-- ---- names

pub names_added : (old new : Root) (e : EntryValue) → IsAdded old new e → root_names new ≡ root_names old ++ imported_name e
names_added old new e a = ap imported_names a.entries ∙ imported_push (entry_values old) e

-- a name that is new is that of no import
pub fresh_import : (r : Root) (n : List ℕ) → is_new (root_names r) n ≡ true → is_new (entry_names (root_scope r).imports) n ≡ true
fresh_import r n h = ap (λ l. is_new l n) (sym (imports_named (entry_values r))) ∙ h

pub functions_same : (old new : Root) (e : EntryValue) → IsAdded old new e → (adds (root_scope old) e).functions ≡ [] → (root_scope new).functions ≡ (root_scope old).functions
functions_same old new e a h = functions_added old new e a ∙ ap (λ l. (root_scope old).functions ++ l) h ∙ append-nil (root_scope old).functions

pub instances_same : (old new : Root) (e : EntryValue) → IsAdded old new e → (adds (root_scope old) e).instances ≡ [] → (root_scope new).instances ≡ (root_scope old).instances
instances_same old new e a h = instances_added old new e a ∙ ap (λ l. (root_scope old).instances ++ l) h ∙ append-nil (root_scope old).instances

pub setting_added : (old new : Root) (e : EntryValue) → IsAdded old new e → (adds (root_scope old) e).functions ≡ [] → (adds (root_scope old) e).instances ≡ [] → root_setting new ≡ root_setting old
setting_added old new e a f g = setting_from old new a.names a.homes (functions_same old new e a f) (instances_same old new e a g)

-- ---- types of the world

own_root : (names : InterfaceNames) (owner : TypeOwner) → is_of_world owner ≡ true → root_import ≡ site_of names owner
own_root names (belongs.World w) h = refl
own_root names (belongs.Interface i) h = absurd cc
own_root names belongs.None h = refl

pub import_added : (old new : Root) (owner : TypeOwner) (n : List ℕ) (i : ℕ) → is_of_world owner ≡ true → IsAdded old new (an_import (record { name = n; description = descriptions.Equal i }))
    → (root_scope new).types ≡ (root_scope old).types ++ named_item (root_label (interface_names old) (record { owner = owner; name = n })) (item_at (root_scope old).types i) ∷ []
import_added old new owner n i own a =
    types_added old new (an_import (record { name = n; description = descriptions.Equal i })) a
    ∙ ap (λ s. (root_scope old).types ++ named_item (record { site = s; name = n }) (item_at (root_scope old).types i) ∷ []) (own_root (interface_names old) owner own)

-- ---- what an instance has

pub alias_stands : (names : InterfaceNames) (types : List TypeDef) (old new : Scope) (k id i : ℕ) (d : TypeDef) (n : List ℕ)
    → IsHome names types old.instances id k → slice_get types id ≡ Some d → option_map string_bytes d.name ≡ Some n
    → i ≡ length old.types → new.types ≡ old.types ++ (adds old (an_alias (instance_export sorts.Type_ k n))).types
    → Stands (root_label names) types new.types (Id id) (Index i)
alias_stands names types old new k id i d n h at w here e =
    let there = h.there in
    let same : h.def ≡ d = cc in
    let name : Some (string_bytes h.name) ≡ Some n = ap (option_map string_bytes) (sym h.named) ∙ ap (λ (x : TypeDef). option_map string_bytes x.name) same ∙ w in
    let named : string_bytes h.name ≡ n = cc in
    let item : Item = of_sort sorts.Type_ (exported (item_at old.instances k) n) in
    let is : item ≡ a_type (written (root_label names) h.tree) =
    ap (λ x. of_sort sorts.Type_ (exported x n)) h.is ∙ ap (of_sort sorts.Type_) (ap (λ m. item_named m h.items) (sym named) ∙ h.has) in
    (h.tree, h.unfolds, next_value old.types new.types i item (written (root_label names) h.tree) here e is h.value)

-- ---- functions

pub function_added : (old new : Root) (e : EntryValue) → IsAdded old new e → Begins (root_scope old).functions (root_scope new).functions
function_added old new e a = (_, functions_added old new e a)

pub functions_begin : (old mid new : Root) → (root_scope mid).functions ≡ (root_scope old).functions → Begins (root_scope mid).functions (root_scope new).functions → Begins (root_scope old).functions (root_scope new).functions
functions_begin old mid new e b = (b.0, b.1 ∙ ap (λ l. l ++ b.0) e)

pub types_same : (old new : Root) (n : List ℕ) (ty : ℕ) → IsAdded old new (an_import (record { name = n; description = descriptions.Function ty })) → (root_scope new).types ≡ (root_scope old).types
types_same old new n ty a = types_added old new (an_import (record { name = n; description = descriptions.Function ty })) a ∙ append-nil (root_scope old).types

pub import_counted : (old mid new : Root) (n : List ℕ) (ty i : ℕ) → (root_scope mid).functions ≡ (root_scope old).functions → i ≡ length (root_scope mid).functions
    → IsAdded mid new (an_import (record { name = n; description = descriptions.Function ty })) → (i ≡ length (root_scope old).functions) × (length (root_scope new).functions ≡ i + 1)
import_counted old mid new n ty i same at a =
    let e = an_import (record { name = n; description = descriptions.Function ty }) in
    let more : length (root_scope new).functions ≡ length ((root_scope mid).functions ++ imported_item (root_scope mid) n (descriptions.Function ty) ∷ []) = ap length (functions_added mid new e a) in
    let count = length-append (root_scope mid).functions (imported_item (root_scope mid) n (descriptions.Function ty) ∷ []) in
    (at ∙ ap length same, omega (arith, more, count, at))

-- a function that is imported
pub import_is : (old new : Root) (n : List ℕ) (ty i : ℕ) (types : List TypeDef) (params : List Param) (result : Option Ref)
    → i ≡ length (root_scope old).functions → IsAdded old new (an_import (record { name = n; description = descriptions.Function ty }))
    → FunctionStands (root_label (interface_names old)) types (root_scope old).types params result ty → IsFunctionAt new i (import_label n) types params result
import_is old new n ty i types params result at a h =
    let e = an_import (record { name = n; description = descriptions.Function ty }) in
    let l = import_label n in
    let item : Item = imported_item (root_scope old) n (descriptions.Function ty) in
    let is : item ≡ a_function (from_import l) (written (root_label (interface_names old)) h.0) = ap (function_import l) h.2 in
    let functions : (root_scope new).functions ≡ (root_scope old).functions ++ item ∷ [] = functions_added old new e a in
    record {
      tree = h.0;
      unfolds = h.1;
      is = ap (item_at (root_scope new).functions) at ∙ ap (λ fs. item_at fs (length (root_scope old).functions)) functions ∙ new_item (root_scope old).functions item ∙ is
          ∙ ap (λ m. a_function (from_import l) (written (root_label m) h.0)) (sym a.names);
    }

-- a function of an instance
pub alias_function : (old new : Root) (k : ℕ) (n : List ℕ) (i : ℕ) (site : Site) (types : List TypeDef) (params : List Param) (result : Option Ref)
    → i ≡ length (root_scope old).functions → IsAdded old new (an_alias (instance_export sorts.Function k n))
    → InstanceHasFunction old k site types n params result → IsFunctionAt new i (record { site = site; name = n }) types params result
alias_function old new k n i site types params result at a h =
    let e = an_alias (instance_export sorts.Function k n) in
    let o = from_import (record { site = site; name = n }) in
    let item : Item = of_sort sorts.Function (exported (item_at (root_scope old).instances k) n) in
    let is : item ≡ a_function o (written (root_label (interface_names old)) h.tree) = ap (λ x. of_sort sorts.Function (exported x n)) h.is ∙ ap (of_sort sorts.Function) h.has in
    let functions : (root_scope new).functions ≡ (root_scope old).functions ++ item ∷ [] = functions_added old new e a in
    record {
      tree = h.tree;
      unfolds = h.unfolds;
      is = ap (item_at (root_scope new).functions) at ∙ ap (λ fs. item_at fs (length (root_scope old).functions)) functions ∙ new_item (root_scope old).functions item ∙ is
          ∙ ap (λ m. a_function o (written (root_label m) h.tree)) (sym a.names);
    }
