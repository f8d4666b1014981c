-- Functions that a root has are taken by their indices.
use Rattle.std.proofs.Common.{◌≡◌, ◌<◌, ℕ, zero, suc, ◌+◌, Bool, List, [], ◌∷◌, length, get_or, Option, Some, None, Result, Ok, Err, inl, inr, refl, sym, subst, ap, ◌∙◌, arith, add-zero}
use Rattle.std.proofs.lemmas.Bool.{cases_Bool}
use Rattle.std.proofs.lemmas.List.{append-nil}
use Rattle.std.proofs.lemmas.Option.{same_Some, slice_get_within, slice_get-get_or}
use Rattle.std.proofs.lemmas.Slice.Eq.{bytes_eq-Decides}
use Rattle.std.specs.Prelude.{slice_get, bytes_eq, option_map, string_bytes, IfOk, OnErr}
use Rattle.component_definitions.specs.declared.sorts.ComponentSort.TheVariants as sorts
use Rattle.component_definitions.specs.Aliases.{instance_export}
use Rattle.component_entries.specs.Entries.{EntryValue, an_alias}
use Rattle.name_places.specs.FirstPlaces.{place_of}
use Rattle.wit_order.specs.Order.{Has}
use Rattle.wit_types.specs.declared.function.Function.{Function}
use Rattle.wit_types.specs.declared.interface.TypeDef.{TypeDef}
use Rattle.type_writing.specs.Passed.type_meaning-Words.{Site, imported, Label, BinaryTree}
use Rattle.type_writing.specs.Passed.type_meaning-Items.{Origin, from_import, Item, Items, a_function, an_instance, or_nothing, item_at, Entry}
use Rattle.type_writing.specs.Passed.type_meaning-Scope.{import_label, meaning, of_sort, exported}
use Rattle.type_writing.specs.declared.fault.Fault.{Fault}
use Rattle.type_writing.specs.Writing.{written, Begins}
use Rattle.type_writing.proofs.Standing.{get_begin, new_item, begins_here, begins_on, begins_same}
use Rattle.component_imports.specs.Passed.type_sinks-Root.{InterfaceNames, root_label, imported_names}
use Rattle.component_imports.specs.Passed.type_sinks-Views.{root_scope, root_names, interface_names, RootIsGood, IsSameRoot, IsAdded, IsFunctionAt, InstanceHasFunction}
use Rattle.component_imports.specs.Passed.type_sinks-declared-root-Root.{Root}
use Rattle.component_imports.proofs.Passed.type_sinks-Names.{entries_apart}
use Rattle.component_imports.proofs.Passed.type_sinks-Rooted.{types_added, functions_added, instances_same, names_added}
use Rattle.component_imports.specs.Functions.{function_names}
use Rattle.component_imports.specs.Interface.{interface_name}
use Rattle.component_imports.specs.World.{AreFunctionsAt}
use Rattle.component_imports.proofs.Worldly.{functions_at_stay}
use Rattle.right_components.proofs.Passed.link_table-Pairwise.{placed}
use Rattle.linked_imports.specs.Roots.{Keeps, StaysBeside, IsThere, label_of, ComesFrom, of_root, of_instance, IsIndexOf}
use Rattle.linked_imports.specs.declared.imports.Imported.{Imported}

-- ---- functions of the world itself

-- a function's name has a place
pub has_place : (own : List Function) (f : Function) → Has own f → (p : ℕ) × (place_of (string_bytes f.name) (function_names own) ≡ Some p)
has_place [] f h = absurd h
has_place (g ∷ own) f (inl is) = by (bytes_eq (string_bytes f.name) (string_bytes g.name)) refl
  where
    by : (b : Bool) → bytes_eq (string_bytes f.name) (string_bytes g.name) ≡ b → (p : ℕ) × (place_of (string_bytes f.name) (function_names (g ∷ own)) ≡ Some p)
    by b e = (zero, rw ((bytes_eq-Decides (string_bytes f.name) (string_bytes g.name)).1 (ap (λ (x : Function). string_bytes x.name) is)) refl)
has_place (g ∷ own) f (inr h) = elim (cases_Bool (bytes_eq (string_bytes f.name) (string_bytes g.name))) as (λ _. (p : ℕ) × (place_of (string_bytes f.name) (function_names (g ∷ own)) ≡ Some p)) [
  | inl same ↦ (zero, rw same refl)
  | inr other ↦ (let r = has_place own f h in (suc r.0, rw other (ap (option_map suc) r.1)))
]

less_place : (o : Option ℕ) (p : ℕ) → option_map suc o ≡ Some p → (q : ℕ) × (o ≡ Some q) × (p ≡ suc q)
less_place None p e = absurd cc
less_place (Some q) p e = (q, refl, sym (same_Some (suc q) p e))

-- and there a function has that name
function_there : (name : List ℕ) (own : List Function) (p : ℕ) → place_of name (function_names own) ≡ Some p → (g : Function) × (slice_get own p ≡ Some g) × (name ≡ string_bytes g.name)
function_there name [] p at = absurd cc
function_there name (g ∷ own) p at = elim (cases_Bool (bytes_eq name (string_bytes g.name))) as (λ _. (h : Function) × (slice_get (g ∷ own) p ≡ Some h) × (name ≡ string_bytes h.name)) [
  | inl same ↦
      (let first : Some zero ≡ Some p = rw same at at in
      (g, ap (slice_get (g ∷ own)) (sym (same_Some zero p first)), (bytes_eq-Decides name (string_bytes g.name)).0 same))
  | inr other ↦
      (let later : option_map suc (place_of name (function_names own)) ≡ Some p = rw other at at in
      let q = less_place (place_of name (function_names own)) p later in
      let r = function_there name own q.0 q.1 in
      (r.0, ap (slice_get (g ∷ own)) q.2 ∙ r.1, r.2))
]

pub function_at_place : (r : Root) (first : ℕ) (types : List TypeDef) (own : List Function) (p : ℕ) (g : Function) → AreFunctionsAt r first types own → slice_get own p ≡ Some g → IsFunctionAt r (first + p) (import_label (string_bytes g.name)) types g.params.items g.result
function_at_place r first types [] p g all at = absurd cc
function_at_place r first types (f ∷ own) zero g all at =
    let same : f ≡ g = same_Some f g at in
    subst (λ (x : Function). IsFunctionAt r (first + 0) (import_label (string_bytes x.name)) types x.params.items x.result) same (subst (λ (i : ℕ). IsFunctionAt r i (import_label (string_bytes f.name)) types f.params.items f.result) (sym (add-zero first)) all.0)
function_at_place r first types (f ∷ own) (suc p) g all at =
    let there = function_at_place r (first + 1) types own p g all.1 at in
    let place : (first + 1) + p ≡ first + suc p = omega arith in
    subst (λ (i : ℕ). IsFunctionAt r i (import_label (string_bytes g.name)) types g.params.items g.result) place there

own_is : (r : Root) (first : ℕ) (types : List TypeDef) (own : List Function) (f : Function) (p i : ℕ) → RootIsGood r types → Has own f → AreFunctionsAt r first types own → place_of (string_bytes f.name) (function_names own) ≡ Some p → i ≡ first + p → IsIndexOf r types None f i
own_is r first types own f p i good h all at here =
    let q = placed own f h in
    let mine = function_at_place r first types own q.0 f all q.1 in
    let g = function_there (string_bytes f.name) own p at in
    let other = function_at_place r first types own p g.0 all g.1 in
    let names = interface_names r in
    let tree = written (root_label names) mine.tree in
    let tree_there = written (root_label names) other.tree in
    let label = import_label (string_bytes f.name) in
    let label_there = import_label (string_bytes g.0.name) in
    let one = good.imports.functions (first + q.0) (string_bytes f.name) tree mine.is in
    let two = good.imports.functions (first + p) (string_bytes g.0.name) tree_there other.is in
    let a : Entry = record { name = string_bytes g.0.name; item = a_function (from_import label_there) tree_there } in
    let b : Entry = record { name = string_bytes f.name; item = a_function (from_import label) tree } in
    let same : a ≡ b = entries_apart (root_scope r).imports a b good.imports.distinct two one (sym g.2) in
    record {
      tree = mine.tree;
      unfolds = mine.unfolds;
      is = ap (item_at (root_scope r).functions) here ∙ other.is ∙ ap (λ (e : Entry). e.item) same;
      from = of_root refl;
    }

pub own_index : (i : Imported) (types : List TypeDef) (interface : Option ℕ) (f : Function) (name : List ℕ) (n : ℕ) → interface ≡ None → name ≡ string_bytes f.name → RootIsGood i.root types → IsThere i types interface f
    → (p : ℕ) × (place_of name i.own ≡ Some p) × (n ≡ i.first + p) → IsIndexOf i.root types interface f n
own_index i types interface f name n none is good there found =
    let own = subst (λ (o : Option ℕ). IsThere i types o f) none there in
    let at : place_of (string_bytes f.name) (function_names own.0) ≡ Some found.0 = ap (λ l. place_of l (function_names own.0)) (sym is) ∙ ap (place_of name) (sym own.2) ∙ found.1 in
    subst (λ (o : Option ℕ). IsIndexOf i.root types o f n) (sym none) (own_is i.root i.first types own.0 f found.0 n good own.1 own.3 at found.2)

pub own_place : (i : Imported) (types : List TypeDef) (interface : Option ℕ) (f : Function) (name : List ℕ) → interface ≡ None → name ≡ string_bytes f.name → IsThere i types interface f → (p : ℕ) × (place_of name i.own ≡ Some p)
own_place i types interface f name none is there =
    let own = subst (λ (o : Option ℕ). IsThere i types o f) none there in
    let r = has_place own.0 f own.1 in
    (r.0, ap (place_of name) own.2 ∙ ap (λ l. place_of l (function_names own.0)) is ∙ r.1)

-- ---- functions of interfaces

pub instance_within : (i : Imported) (types : List TypeDef) (interface : Option ℕ) (f : Function) (id : ℕ) → interface ≡ Some id → IsThere i types interface f → (k : ℕ) × (slice_get i.instances.items id ≡ Some (Some k))
instance_within i types interface f id is there = let r = subst (λ (o : Option ℕ). IsThere i types o f) is there in (r.0, r.1)

pub instance_is : (xs : List (Option ℕ)) (id at k : ℕ) (x : Option ℕ) → slice_get xs id ≡ Some (Some k) → at ≡ id → x ≡ get_or xs at x → x ≡ Some k
instance_is xs id at k x there same is =
    let lt = slice_get_within xs id (Some k) there in
    let here : x ≡ get_or xs id x = is ∙ ap (λ (j : ℕ). get_or xs j x) same in
    same_Some x (Some k) (ap (λ (o : Option ℕ). Some o) here ∙ sym (slice_get-get_or xs id x lt) ∙ there)

abbrev taking : ℕ → List ℕ → EntryValue
taking k n = an_alias (instance_export sorts.Function k n)

-- the next function is what the instance has under the name
taken_item : (old new : Root) (k : ℕ) (n : List ℕ) (i : ℕ) → i ≡ length (root_scope old).functions → IsAdded old new (taking k n) → item_at (root_scope new).functions i ≡ of_sort sorts.Function (exported (item_at (root_scope old).instances k) n)
taken_item old new k n i at a =
    let item : Item = of_sort sorts.Function (exported (item_at (root_scope old).instances k) n) in
    ap (item_at (root_scope new).functions) at ∙ ap (λ fs. item_at fs (length (root_scope old).functions)) (functions_added old new (taking k n) a) ∙ new_item (root_scope old).functions item

taken_is : (old new : Root) (types : List TypeDef) (id : ℕ) (f : Function) (k i : ℕ) → i ≡ length (root_scope old).functions → IsAdded old new (taking k (string_bytes f.name))
    → InstanceHasFunction old k (imported (interface_name old id)) types (string_bytes f.name) f.params.items f.result → IsIndexOf new types (Some id) f i
taken_is old new types id f k i at a h =
    let n = string_bytes f.name in
    let item : InterfaceNames → Item = λ names. a_function (from_import (label_of names (Some id) f)) (written (root_label names) h.tree) in
    let label = label_of (interface_names old) (Some id) f in
    let same : item_at (root_scope new).instances k ≡ an_instance label.site h.items = ap (λ l. item_at l k) (instances_same old new (taking k n) a refl) ∙ h.is in
    record {
      tree = h.tree;
      unfolds = h.unfolds;
      is = taken_item old new k n i at a ∙ ap (λ x. of_sort sorts.Function (exported x n)) h.is ∙ ap (of_sort sorts.Function) h.has ∙ ap item (sym a.names);
      from = subst (λ (names : InterfaceNames). ComesFrom new (label_of names (Some id) f) (item names)) (sym a.names) (of_instance k h.items same h.has);
    }

pub take_index : (i : Imported) (new : Root) (types : List TypeDef) (interface : Option ℕ) (f : Function) (name : List ℕ) (id at instance n : ℕ) (x : Option ℕ) → interface ≡ Some id → name ≡ string_bytes f.name
    → at ≡ id → x ≡ get_or i.instances.items at x → x ≡ Some instance → IsThere i types interface f → (n ≡ length (root_scope i.root).functions) × IsAdded i.root new (taking instance name) → IsIndexOf new types interface f n
take_index i new types interface f name id at instance n x is named here one some there took =
    let r = subst (λ (o : Option ℕ). IsThere i types o f) is there in
    let k : instance ≡ r.0 = same_Some instance r.0 (sym some ∙ instance_is i.instances.items id at r.0 x r.1 here one) in
    let added : IsAdded i.root new (taking r.0 (string_bytes f.name)) = subst (λ (j : ℕ). IsAdded i.root new (taking j (string_bytes f.name))) k (subst (λ (m : List ℕ). IsAdded i.root new (taking instance m)) named took.1) in
    subst (λ (o : Option ℕ). IsIndexOf new types o f n) (sym is) (taken_is i.root new types id f r.0 n took.0 added r.2)

-- the instance that it is taken from is there
instance_there : (xs : List Item) (k : ℕ) (site : Site) (items : Items) → item_at xs k ≡ an_instance site items → k < length xs
instance_there [] k site items h = absurd cc
instance_there (y ∷ ys) zero site items h = omega arith
instance_there (y ∷ ys) (suc k) site items h = (let less = instance_there ys k site items h in omega (arith, less))

pub taken_below : (i : Imported) (types : List TypeDef) (interface : Option ℕ) (f : Function) (id at instance : ℕ) (x : Option ℕ) → interface ≡ Some id → at ≡ id → x ≡ get_or i.instances.items at x → x ≡ Some instance → IsThere i types interface f
    → instance < length (root_scope i.root).instances
taken_below i types interface f id at instance x is here one some there =
    let r = subst (λ (o : Option ℕ). IsThere i types o f) is there in
    let k : instance ≡ r.0 = same_Some instance r.0 (sym some ∙ instance_is i.instances.items id at r.0 x r.1 here one) in
    let less = instance_there (root_scope i.root).instances r.0 (imported (interface_name i.root id)) r.2.items r.2.is in
    omega (arith, k, less)

-- ---- what stays

pub keeps_here : (r : Root) (types : List TypeDef) → RootIsGood r types → Keeps r r types
keeps_here r types good = record {
  interfaces = refl;
  names = refl;
  types_stay = begins_here (root_scope r).types;
  functions_stay = begins_here (root_scope r).functions;
  instances_stay = refl;
  good = good;
}

pub keeps_on : (a b c : Root) (types : List TypeDef) → Keeps a b types → Keeps b c types → Keeps a c types
keeps_on a b c types j k = record {
  interfaces = k.interfaces ∙ j.interfaces;
  names = k.names ∙ j.names;
  types_stay = begins_on (root_scope a).types (root_scope b).types (root_scope c).types j.types_stay k.types_stay;
  functions_stay = begins_on (root_scope a).functions (root_scope b).functions (root_scope c).functions j.functions_stay k.functions_stay;
  instances_stay = k.instances_stay ∙ j.instances_stay;
  good = k.good;
}

pub beside_here : (i : Imported) → StaysBeside i i
beside_here i = record { known = refl; instances = refl; own = refl; first = refl }

pub beside_on : (a b c : Imported) → StaysBeside a b → StaysBeside b c → StaysBeside a c
beside_on a b c j k = record { known = k.known ∙ j.known; instances = k.instances ∙ j.instances; own = k.own ∙ j.own; first = k.first ∙ j.first }

pub took_keeps : (res : Result ℕ Fault) (old new : Root) (types : List TypeDef) (k : ℕ) (n : List ℕ) → IfOk res (λ i. (i ≡ length (root_scope old).functions) × IsAdded old new (taking k n)) → OnErr res (IsSameRoot old new) → RootIsGood new types → Keeps old new types
took_keeps (Ok i) old new types k n ok err good =
    let a = ok.1 in
    record {
      interfaces = a.names;
      names = names_added old new (taking k n) a ∙ append-nil (root_names old);
      types_stay = ([], types_added old new (taking k n) a);
      functions_stay = (_, functions_added old new (taking k n) a);
      instances_stay = instances_same old new (taking k n) a refl;
      good = good;
    }
took_keeps (Err e) old new types k n ok err good = record {
  interfaces = err.names;
  names = ap imported_names err.entries;
  types_stay = begins_same (root_scope old).types (root_scope new).types (ap (λ es. (meaning es).types) err.entries);
  functions_stay = begins_same (root_scope old).functions (root_scope new).functions (ap (λ es. (meaning es).functions) err.entries);
  instances_stay = ap (λ es. (meaning es).instances) err.entries;
  good = good;
}

-- ---- where more is there

pub instance_keeps : (old new : Root) (types : List TypeDef) (k id : ℕ) (f : Function) → interface_names new ≡ interface_names old → (root_scope new).instances ≡ (root_scope old).instances → InstanceHasFunction old k (imported (interface_name old id)) types (string_bytes f.name) f.params.items f.result
    → InstanceHasFunction new k (imported (interface_name new id)) types (string_bytes f.name) f.params.items f.result
instance_keeps old new types k id f names instances h =
    let name = string_bytes f.name in
    let item : InterfaceNames → Item = λ ns. a_function (from_import (record { site = imported (get_or ns id []); name = name })) (written (root_label ns) h.tree) in
    record {
      items = h.items;
      is = ap (λ l. item_at l k) instances ∙ h.is ∙ ap (λ (ns : InterfaceNames). an_instance (imported (get_or ns id [])) h.items) (sym names);
      tree = h.tree;
      unfolds = h.unfolds;
      has = h.has ∙ ap item (sym names);
    }

pub there_keeps : (old new : Imported) (types : List TypeDef) (interface : Option ℕ) (f : Function) → Keeps old.root new.root types → StaysBeside old new → IsThere old types interface f → IsThere new types interface f
there_keeps old new types None f t b h = (
  h.0,
  h.1,
  b.own ∙ h.2,
  subst (λ (n : ℕ). AreFunctionsAt new.root n types h.0) (sym b.first) (functions_at_stay old.root new.root old.first types h.0 t.interfaces t.functions_stay h.3),
)
there_keeps old new types (Some id) f t b h = (h.0, ap (λ l. slice_get l.items id) b.instances ∙ h.1, instance_keeps old.root new.root types h.0 id f t.interfaces t.instances_stay h.2)

function_there_is : (x : Option Item) (o : Origin) (t : BinaryTree) → or_nothing x ≡ a_function o t → x ≡ Some (a_function o t)
function_there_is None o t h = absurd cc
function_there_is (Some x) o t h = ap (λ (i : Item). Some i) h

function_begins : (xs ys : List Item) (i : ℕ) (o : Origin) (t : BinaryTree) → Begins xs ys → item_at xs i ≡ a_function o t → item_at ys i ≡ a_function o t
function_begins xs ys i o t b h = ap or_nothing (ap (λ l. slice_get l i) b.1 ∙ get_begin xs b.0 i (a_function o t) (function_there_is (slice_get xs i) o t h))

comes_keeps : (old new : Root) (types : List TypeDef) (l : Label) (i : Item) → Keeps old new types → ComesFrom old l i → ComesFrom new l i
comes_keeps old new types l i t (of_root is) = of_root is
comes_keeps old new types l i t (of_instance k items is has) = of_instance k items (ap (λ m. item_at m k) t.instances_stay ∙ is) has

pub index_keeps : (old new : Root) (types : List TypeDef) (interface : Option ℕ) (f : Function) (i : ℕ) → Keeps old new types → IsIndexOf old types interface f i → IsIndexOf new types interface f i
index_keeps old new types interface f i t h =
    let item : InterfaceNames → Item = λ names. a_function (from_import (label_of names interface f)) (written (root_label names) h.tree) in
    let names = interface_names old in
    record {
      tree = h.tree;
      unfolds = h.unfolds;
      is = function_begins (root_scope old).functions (root_scope new).functions i (from_import (label_of names interface f)) (written (root_label names) h.tree) t.functions_stay h.is ∙ ap item (sym t.interfaces);
      from = subst (λ (m : InterfaceNames). ComesFrom new (label_of m interface f) (item m)) (sym t.interfaces) (comes_keeps old new types (label_of names interface f) (item names) t h.from);
    }
