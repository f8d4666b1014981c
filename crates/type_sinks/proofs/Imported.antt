-- An instance that is imported has the types that its type exports, in the words of the root.
use Rattle.std.proofs.Common.{◌≡◌, ◌⊎◌, ℕ, ◌<◌, List, [], ◌∷◌, ◌++◌, length, map, get_or, Option, Some, None, true, refl, sym, ap, subst, ◌∙◌, inl, inr, append_assoc}
use Rattle.std.specs.Prelude.{nat_eq, String, string_bytes}
use Rattle.std.specs.declared.alloc.Global.{Global}
use Rattle.std.proofs.lemmas.List.{append-nil, get_or-map}
use Rattle.std.proofs.lemmas.List.Sums.{fold-append}
use Rattle.std.proofs.lemmas.Grind.{flat_map-append}
use Rattle.std.specs.List.{flat_map}
use Rattle.std.proofs.lemmas.Bool.{cases_Bool, eqb-true}
use Rattle.distinct_names.specs.Names.{is_new}
use Rattle.component_definitions.specs.declared.externs.Description.TheVariants as descriptions
use Rattle.component_sections.specs.Passed.component_instances-Declarators.{DeclaratorValue}
use Rattle.component_sections.specs.Passed.component_instances-TypeDefinitions.{of_instance}
use Rattle.component_sections.specs.Passed.component_entries-Entries.{EntryValue, an_import}
use Rattle.component_sections.specs.Passed.component_entries-Entries as entries
use Rattle.wit_types.specs.declared.kind.«Type».{«Type» as Ref}
use Rattle.wit_types.specs.declared.kind.«Type».TheVariants.{Id}
use Rattle.wit_types.specs.declared.kind.TypeDefKind.{TypeDefKind}
use Rattle.wit_types.specs.declared.function.Param.{Param}
use Rattle.wit_types.specs.declared.interface.TypeDef.{TypeDef}
use Rattle.wit_types.specs.declared.interface.TypeOwner.{TypeOwner}
use Rattle.wit_types.specs.declared.interface.TypeOwner.TheVariants as belongs
use Rattle.type_writing.specs.Passed.type_meaning-Tree.{Parts, named, resource, of, none, gap, part, put, put_parts}
use Rattle.type_writing.specs.Passed.type_meaning-Words.{Site, itself, imported, Label, moved}
use Rattle.type_writing.specs.Passed.type_meaning-Items.{Item, a_type, from_import, a_function, an_instance_type, item_at, items_of, is_value, put_item, put_items, new_resource, instance_import, instance_type, Inside as TheInside, inside_of}
use Rattle.type_writing.specs.Passed.type_meaning-Scope.{Scope, no_scope, after, meaning}
use Rattle.type_sinks.specs.declared.root.Root.{Root}
use Rattle.type_sinks.specs.declared.inside.InterfaceTypes.{InterfaceTypes}
use Rattle.type_writing.specs.Unfolding.{OwnName, WitTree, under_name, Unfolds, unfolds_primitive, unfolds_type, KindUnfolds, unfolds_form, unfolds_alias, PartsUnfold, no_parts, gap_unfolds, part_unfolds}
use Rattle.type_writing.specs.Writing.{written, written_parts, Begins}
use Rattle.type_sinks.specs.Root.{InterfaceNames, root_label, imported_name, imported_names, IsHome, RootGood}
use Rattle.type_sinks.specs.Imports.{AreImportsOf}
use Rattle.type_sinks.specs.Inside.{inside_label, instance_label, IsExported, InsideGood}
use Rattle.type_writing.specs.Functions.{function_form}
use Rattle.type_sinks.specs.Kept.{index_of}
use Rattle.type_sinks.specs.Views.{entry_values, root_scope, interface_names, root_names, RootIsGood, IsAdded, IsWrittenUnder, IsImported, IsImportedBeside, IsInstanceWith, IsTypeOf, declarator_values, inside, inside_names, HasFunction, HasFunctionIn, InstanceHasFunction, HasTypeIn}
use Rattle.type_writing.proofs.Standing.{new_item}
use Rattle.type_sinks.proofs.Rooted.{instances_added, names_added, good_keeps, fresh_import}
use Rattle.type_sinks.proofs.OwnItems.{put_named, types_are_no_functions}
use Rattle.type_sinks.proofs.RootImports.{import_both_keeps}
use Rattle.type_sinks.proofs.Keeping.{each_keeps, kept_cases}
use Rattle.type_sinks.proofs.Insides.{items_named, names_of_items, names_put}

-- ---- no resource is in a tree of a type

abbrev mutual
  IsPlain : WitTree → Type 0
  IsPlain (named o t) = IsPlain t
  IsPlain (resource o) = ⊥
  IsPlain (of form ps) = ArePlain ps

  ArePlain : Parts OwnName OwnName → Type 0
  ArePlain none = Unit {0}
  ArePlain (gap ps) = ArePlain ps
  ArePlain (part t ps) = IsPlain t × ArePlain ps

under_plain : (owner : TypeOwner) (n : Option (String Global)) (t : WitTree) → IsPlain t → IsPlain (under_name owner n t)
under_plain owner None t h = h
under_plain owner (Some x) t h = h

mutual
  unfolds_plain : (types : List TypeDef) (r : Ref) (t : WitTree) → Unfolds types r t → IsPlain t
  unfolds_plain types r t (unfolds_primitive s k h) = tt
  unfolds_plain types r t (unfolds_type id d u at k) = under_plain d.owner d.name u (kind_plain types d.kind u k)

  kind_plain : (types : List TypeDef) (k : TypeDefKind) (t : WitTree) → KindUnfolds types k t → IsPlain t
  kind_plain types k t (unfolds_form l f ts h ps) = parts_plain types f.parts ts ps
  kind_plain types k t (unfolds_alias r u h) = unfolds_plain types r u h

  parts_plain : (types : List TypeDef) (rs : List (Option Ref)) (ts : Parts OwnName OwnName) → PartsUnfold types rs ts → ArePlain ts
  parts_plain types rs ts no_parts = tt
  parts_plain types rs ts (gap_unfolds qs us h) = parts_plain types qs us h
  parts_plain types rs ts (part_unfolds r t qs us h hs) = (unfolds_plain types r t h, parts_plain types qs us hs)

-- ---- imported, the types of the instance are written as the root writes them

module _ (names : InterfaceNames) (own : ℕ) (name : List ℕ) where
  moved_at : (owner : TypeOwner) (n : List ℕ) → moved itself (imported name) (inside_label names own (record { owner = owner; name = n })) ≡ instance_label names own name (record { owner = owner; name = n })
  moved_at (belongs.World w) n = refl
  moved_at (belongs.Interface i) n = elim (cases_Bool (nat_eq i own)) [
    | inl b ↦ rw b refl
    | inr b ↦ rw b refl
  ]
  moved_at belongs.None n = refl

  mutual
    pub moved_written : (t : WitTree) → IsPlain t → put (moved itself (imported name)) (new_resource name) (written (inside_label names own) t) ≡ written (instance_label names own name) t
    moved_written (named o t) h =
        let e = moved_at o.owner o.name in
        let f = moved_written t h in
        λ i. named (e i) (f i)
    moved_written (resource o) h = absurd h
    moved_written (of form ps) h = ap (of form) (moved_written_parts ps h)

    moved_written_parts : (ps : Parts OwnName OwnName) → ArePlain ps → put_parts (moved itself (imported name)) (new_resource name) (written_parts (inside_label names own) ps) ≡ written_parts (instance_label names own name) ps
    moved_written_parts none h = refl
    moved_written_parts (gap ps) h = ap gap (moved_written_parts ps h)
    moved_written_parts (part t ps) h =
        let e = moved_written t h.0 in
        let f = moved_written_parts ps h.1 in
        λ i. part (e i) (f i)

-- under the name that the interface has, they are those of the root
its_label : (names : InterfaceNames) (own : ℕ) (owner : TypeOwner) (n : List ℕ) → instance_label names own (get_or names own []) (record { owner = owner; name = n }) ≡ root_label names (record { owner = owner; name = n })
its_label names own (belongs.World w) n = refl
its_label names own (belongs.Interface i) n = elim (cases_Bool (nat_eq i own)) [
  | inl b ↦ rw b (ap (λ (j : ℕ). let l : Label = record { site = imported (get_or names j []); name = n } in l) (sym (eqb-true i own b)))
  | inr b ↦ rw b refl
]
its_label names own belongs.None n = refl

pub its_written : (names : InterfaceNames) (own : ℕ) (t : WitTree) → written (instance_label names own (get_or names own [])) t ≡ written (root_label names) t
its_written names own t = λ i. written (λ (o : OwnName). its_label names own o.owner o.name i) t

value_written : (l m : OwnName → Label) (t : WitTree) → is_value (written l t) ≡ is_value (written m t)
value_written l m (named o t) = value_written l m t
value_written l m (resource o) = refl
value_written l m (of form ps) = refl

-- what is exported has a home
exported_home : (names : InterfaceNames) (own : ℕ) (types : List TypeDef) (s : TheInside) (id k : ℕ) (instances : List Item)
    → item_at instances k ≡ instance_import (get_or names own []) (an_instance_type (items_of s.items)) → IsExported names own types s id → IsHome names types instances id k
exported_home names own types s id k instances is h =
    let n = get_or names own [] in
    let f = moved itself (imported n) in
    let g = new_resource n in
    record {
      def = h.def;
      there = h.there;
      interface = own;
      owner = h.owner;
      name = h.name;
      named = h.named;
      site = imported n;
      items = put_items f g (items_of s.items);
      is = is;
      tree = h.tree;
      unfolds = h.unfolds;
      has = put_named f g (string_bytes h.name) (items_of s.items) ∙ ap (put_item f g) h.has ∙ ap a_type (moved_written names own n h.tree (unfolds_plain types (Id id) h.tree h.unfolds) ∙ its_written names own h.tree);
      value = value_written (root_label names) (inside_label names own) h.tree ∙ h.value;
    }

-- ---- the two entries

meaning_both : (es : List EntryValue) (d e : EntryValue) → meaning (es ++ d ∷ e ∷ []) ≡ after (after (meaning es) d) e
unfolding meaning
meaning_both es d e = fold-append after no_scope es (d ∷ e ∷ [])

abbrev both : Scope → List ℕ → List DeclaratorValue → Scope
both s n ds = after (after s (entries.a_type (of_instance ds))) (an_import (record { name = n; description = descriptions.Instance (length s.types) }))

scope_both : (old new : Root) (n : List ℕ) (ds : List DeclaratorValue) → IsWrittenUnder old new n ds → root_scope new ≡ both (root_scope old) n ds
scope_both old new n ds a =
    ap meaning a.entries ∙ meaning_both (entry_values old) (entries.a_type (of_instance ds)) (an_import (record { name = n; description = descriptions.Instance (length (root_scope old).types) }))

both_types : (s : Scope) (n : List ℕ) (ds : List DeclaratorValue) → (both s n ds).types ≡ s.types ++ instance_type (s.types ∷ []) ds ∷ []
both_types s n ds = append-nil _

both_instances : (s : Scope) (n : List ℕ) (ds : List DeclaratorValue) → (both s n ds).instances ≡ s.instances ++ instance_import n (instance_type (s.types ∷ []) ds) ∷ []
both_instances s n ds =
    ap (λ l. l ++ instance_import n (item_at (s.types ++ instance_type (s.types ∷ []) ds ∷ []) (length s.types)) ∷ []) (append-nil s.instances)
    ∙ ap (λ x. s.instances ++ instance_import n x ∷ []) (new_item s.types (instance_type (s.types ∷ []) ds))

pub import_types : (old new : Root) (n : List ℕ) (ds : List DeclaratorValue) → IsWrittenUnder old new n ds → Begins (root_scope old).types (root_scope new).types
import_types old new n ds a = (_, ap (λ (s : Scope). s.types) (scope_both old new n ds a) ∙ both_types (root_scope old) n ds)

pub import_instances : (old new : Root) (n : List ℕ) (ds : List DeclaratorValue) → IsWrittenUnder old new n ds → Begins (root_scope old).instances (root_scope new).instances
import_instances old new n ds a = (_, ap (λ (s : Scope). s.instances) (scope_both old new n ds a) ∙ both_instances (root_scope old) n ds)

pub import_functions : (old new : Root) (n : List ℕ) (ds : List DeclaratorValue) → IsWrittenUnder old new n ds → (root_scope new).functions ≡ (root_scope old).functions
import_functions old new n ds a = ap (λ (s : Scope). s.functions) (scope_both old new n ds a) ∙ append-nil _ ∙ append-nil (root_scope old).functions

pub instance_at : (old new : Root) (n : List ℕ) (ds : List DeclaratorValue) → IsWrittenUnder old new n ds
    → item_at (root_scope new).instances (length (root_scope old).instances) ≡ instance_import n (instance_type ((root_scope old).types ∷ []) ds)
instance_at old new n ds a =
    let k = length (root_scope old).instances in
    let made = instance_import n (instance_type ((root_scope old).types ∷ []) ds) in
    ap (λ (q : Scope). item_at q.instances k) (scope_both old new n ds a) ∙ ap (λ l. item_at l k) (both_instances (root_scope old) n ds) ∙ new_item (root_scope old).instances made

-- the instance has the functions of its type
pub import_function : (old : InterfaceTypes) (new : Root) (n : List ℕ) (types : List TypeDef) (name : List ℕ) (params : List Param) (result : Option Ref)
    → IsWrittenUnder old.root new n (declarator_values old) → HasFunction old types name params result
    → HasFunctionIn (instance_label (interface_names old.root) old.interface n) new (length (root_scope old.root).instances) (imported n) types name params result
import_function old new n types name params result a h =
    let names = interface_names old.root in
    let own = old.interface in
    let f = moved itself (imported n) in
    let g = new_resource n in
    let items = items_of (inside old).items in
    let u = h.unfolds in
    let from = from_import (record { site = imported n; name = name }) in
    let plain : IsPlain h.tree = subst IsPlain (sym u.is) (parts_plain types (function_form params result).parts u.parts u.unfolds) in
    record {
      items = put_items f g items;
      is = instance_at old.root new n (declarator_values old) a;
      tree = h.tree;
      unfolds = u;
      has = put_named f g name items ∙ ap (put_item f g) h.has ∙ ap (a_function from) (moved_written names own n h.tree plain);
    }

-- in the words of the root, where the name is that of the interface
pub its_function : (r : Root) (names : InterfaceNames) (own instance : ℕ) (site : Site) (types : List TypeDef) (name : List ℕ) (params : List Param) (result : Option Ref)
    → interface_names r ≡ names → HasFunctionIn (instance_label names own (get_or names own [])) r instance site types name params result → InstanceHasFunction r instance site types name params result
its_function r names own instance site types name params result same h =
    let from = from_import (record { site = site; name = name }) in
    record {
      items = h.items;
      is = h.is;
      tree = h.tree;
      unfolds = h.unfolds;
      has = h.has ∙ ap (a_function from) (its_written names own h.tree) ∙ ap (λ m. a_function from (written (root_label m) h.tree)) (sym same);
    }

-- and the types that this exports
pub import_type : (old : InterfaceTypes) (new : Root) (n : List ℕ) (types : List TypeDef) (id : ℕ)
    → IsWrittenUnder old.root new n (declarator_values old) → IsExported (interface_names old.root) old.interface types (inside old) id
    → HasTypeIn (instance_label (interface_names old.root) old.interface n) new (length (root_scope old.root).instances) (imported n) types id
import_type old new n types id a h =
    let f = moved itself (imported n) in
    let g = new_resource n in
    let items = items_of (inside old).items in
    record {
      def = h.def;
      there = h.there;
      name = h.name;
      named = h.named;
      items = put_items f g items;
      is = instance_at old.root new n (declarator_values old) a;
      tree = h.tree;
      unfolds = h.unfolds;
      has = put_named f g (string_bytes h.name) items ∙ ap (put_item f g) h.has ∙ ap a_type (moved_written (interface_names old.root) old.interface n h.tree (unfolds_plain types (Id id) h.tree h.unfolds));
    }

-- and exports something under the same names
pub import_items : (old : InterfaceTypes) (new : Root) (n : List ℕ) → IsWrittenUnder old.root new n (declarator_values old) → IsInstanceWith new (length (root_scope old.root).instances) (imported n) (inside_names old)
import_items old new n a =
    let f = moved itself (imported n) in
    let g = new_resource n in
    let items = items_of (inside old).items in
    record {
      items = put_items f g items;
      is = instance_at old.root new n (declarator_values old) a;
      named = names_put f g items ∙ names_of_items (inside old).items ∙ items_named ((root_scope old.root).types ∷ []) (declarator_values old);
    }

names_both : (es : List EntryValue) (d e : EntryValue) → imported_names (es ++ d ∷ e ∷ []) ≡ imported_names es ++ (imported_name d ++ imported_name e)
unfolding imported_names
names_both es d e = flat_map-append imported_name es (d ∷ e ∷ []) ∙ ap (λ l. flat_map imported_name es ++ (imported_name d ++ l)) (append-nil (imported_name e))

pub import_names : (old new : Root) (n : List ℕ) (ds : List DeclaratorValue) → IsWrittenUnder old new n ds → root_names new ≡ root_names old ++ n ∷ []
import_names old new n ds a = ap imported_names a.entries ∙ names_both (entry_values old) (entries.a_type (of_instance ds)) _

-- what is remembered stays so
grown_by : (old new : Root) (n : List ℕ) (homes : ℕ → Option ℕ) (known : ℕ → Option ℕ) (exports : List ℕ) (ds : List DeclaratorValue) (own : ℕ) (types : List TypeDef)
    → IsWrittenUnder old new n ds → InsideGood (interface_names old) (index_of old.known) homes (root_scope old) known exports ds own types
    → RootGood (interface_names old) (index_of old.known) homes (root_scope new) types
grown_by old new n homes known exports ds own types a g =
    let kept = import_both_keeps (root_scope old) n ds (fresh_import old n a.fresh) (types_are_no_functions (entry_values old)) g.distinct g.root.imports in
    let imports : AreImportsOf (root_scope new) = subst AreImportsOf (sym (scope_both old new n ds a)) kept in
    good_keeps (interface_names old) (index_of old.known) homes (root_scope old) (root_scope new) types (import_types old new n ds a) (import_instances old new n ds a) imports g.root

named_good : (old new : Root) (n : List ℕ) (homes : ℕ → Option ℕ) (ds : List DeclaratorValue) (types : List TypeDef)
    → IsWrittenUnder old new n ds → RootGood (interface_names old) (index_of old.known) homes (root_scope new) types → RootGood (interface_names new) (index_of new.known) homes (root_scope new) types
named_good old new n homes ds types a good =
    subst (λ m. RootGood m (index_of new.known) homes (root_scope new) types) (sym a.names) (subst (λ l. RootGood (interface_names old) (index_of l) homes (root_scope new) types) (sym a.known) good)

pub beside_good : (old new : Root) (n : List ℕ) (known : ℕ → Option ℕ) (exports : List ℕ) (ds : List DeclaratorValue) (own : ℕ) (types : List TypeDef)
    → IsImportedBeside old new n ds → InsideGood (interface_names old) (index_of old.known) (index_of old.homes) (root_scope old) known exports ds own types → RootIsGood new types
beside_good old new n known exports ds own types a g =
    let grown = grown_by old new n (index_of old.homes) known exports ds own types a.written g in
    subst (λ l. RootGood (interface_names new) (index_of new.known) (index_of l) (root_scope new) types) (sym a.homes) (named_good old new n (index_of old.homes) ds types a.written grown)

-- and each type that is exported may be taken from the instance
pub import_good : (old new : Root) (own : ℕ) (known : ℕ → Option ℕ) (exports : List ℕ) (ds : List DeclaratorValue) (types : List TypeDef)
    → IsImported old new own ds exports → InsideGood (interface_names old) (index_of old.known) (index_of old.homes) (root_scope old) known exports ds own types → RootIsGood new types
import_good old new own known exports ds types a g =
    let names = interface_names old in
    let n = get_or names own [] in
    let s = inside_of ((root_scope old).types ∷ []) ds in
    let k = length (root_scope old).instances in
    let instances = (root_scope new).instances in
    let grown = grown_by old new n (index_of old.homes) known exports ds own types a.written g in
    let item = instance_at old new n ds a.written in
    let homes = each_keeps (IsExported names own types s) (λ id. IsHome names types instances id k) exports (λ id. exported_home names own types s id k instances item) g.exported in
    named_good old new n (index_of new.homes) ds types a.written (record {
      ids = grown.ids;
      instances = λ id j h. kept_cases (IsHome names types instances) (index_of old.homes) (index_of new.homes) exports k id j a.homes h homes (grown.instances id);
      imports = grown.imports;
    })

-- a type that may be taken is of the interface, or might be before
pub import_only : (old new : Root) (own : ℕ) (known : ℕ → Option ℕ) (exports : List ℕ) (ds : List DeclaratorValue) (types : List TypeDef)
    → IsImported old new own ds exports → InsideGood (interface_names old) (index_of old.known) (index_of old.homes) (root_scope old) known exports ds own types
    → (id k : ℕ) → index_of new.homes id ≡ Some k → (index_of old.homes id ≡ Some k) ⊎ IsTypeOf types id own
import_only old new own known exports ds types a g id k h =
    let s = inside_of ((root_scope old).types ∷ []) ds in
    kept_cases (λ i n. (index_of old.homes i ≡ Some n) ⊎ IsTypeOf types i own) (index_of old.homes) (index_of new.homes) exports (length (root_scope old).instances) id k a.homes h
    (each_keeps (IsExported (interface_names old) own types s) (λ i. (index_of old.homes i ≡ Some (length (root_scope old).instances)) ⊎ IsTypeOf types i own) exports (λ i e. inr (e.def, e.there, e.owner)) g.exported)
    (λ n e. inl e)

-- ---- as the code does it

pub name_at : (names : List (String Global)) (own i : ℕ) (x : String Global) → i ≡ own → i < length names → x ≡ get_or names i x → get_or (map string_bytes names) own [] ≡ string_bytes x
name_at names own i x e lt here = ap (λ k. get_or (map string_bytes names) k []) (sym e) ∙ get_or-map string_bytes names i x [] lt ∙ ap string_bytes (sym here)

-- behind the type there are the same names and instances
pub unnamed_there : (old mid : Root) (ds : List DeclaratorValue) (n : List ℕ) → IsAdded old mid (entries.a_type (of_instance ds)) → is_new (root_names mid) n ≡ is_new (root_names old) n
unnamed_there old mid ds n a = ap (λ l. is_new l n) (names_added old mid (entries.a_type (of_instance ds)) a ∙ append-nil (root_names old))

pub unplaced_there : (old mid : Root) (ds : List DeclaratorValue) → IsAdded old mid (entries.a_type (of_instance ds)) → length (root_scope mid).instances ≡ length (root_scope old).instances
unplaced_there old mid ds a = ap length (instances_added old mid (entries.a_type (of_instance ds)) a ∙ append-nil (root_scope old).instances)

pub written_by : (old mid last : Root) (ds : List DeclaratorValue) (n : List ℕ) (ty instance : ℕ)
    → ty ≡ length (root_scope old).types → IsAdded old mid (entries.a_type (of_instance ds))
    → instance ≡ length (root_scope mid).instances → is_new (root_names mid) n ≡ true → IsAdded mid last (an_import (record { name = n; description = descriptions.Instance ty }))
    → (instance ≡ length (root_scope old).instances) × IsImportedBeside old last n ds
written_by old mid last ds n ty instance index a place fresh b =
    let d = entries.a_type (of_instance ds) in
    let import_of : ℕ → EntryValue = λ i. an_import (record { name = n; description = descriptions.Instance i }) in (
      place ∙ unplaced_there old mid ds a,
      record {
        written = record {
          fresh = sym (unnamed_there old mid ds n a) ∙ fresh;
          entries = b.entries ∙ ap (λ l. l ++ import_of ty ∷ []) a.entries ∙ append_assoc (entry_values old) (d ∷ []) (import_of ty ∷ []) ∙ ap (λ i. entry_values old ++ d ∷ import_of i ∷ []) index;
          names = b.names ∙ a.names;
          known = b.known ∙ a.known;
        };
        homes = b.homes ∙ a.homes;
      },
    )

-- under an interface's name
pub written_for : (old last : Root) (own : ℕ) (ds : List DeclaratorValue) (n : List ℕ) → get_or (interface_names old) own [] ≡ n → IsWrittenUnder old last n ds → IsWrittenUnder old last (get_or (interface_names old) own []) ds
written_for old last own ds n name w = subst (λ m. IsWrittenUnder old last m ds) (sym name) w
