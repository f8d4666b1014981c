-- The type of an instance: one more declarator, and what is remembered stays so.
use Rattle.std.proofs.Common.{◌≡◌, ℕ, ◌+◌, List, [], ◌∷◌, ◌++◌, length, map, Option, Some, None, true, false, refl, sym, ap, subst, ◌∙◌, arith, length-append, append_assoc, inl, inr}
use Rattle.std.specs.Prelude.{Result, Ok, Err, IfOk, OnErr, slice_get, option_map, fold, nat_eq, bytes_eq, String, string_bytes}
use Rattle.std.specs.List.{AllByRecursion as Each, flat_map}
use Rattle.std.specs.declared.alloc.Global.{Global}
use Rattle.std.proofs.lemmas.List.{append-nil, map-append}
use Rattle.std.proofs.lemmas.List.Sums.{fold-append}
use Rattle.std.proofs.lemmas.Grind.{flat_map-append}
use Rattle.std.proofs.lemmas.Bool.{cases_Bool, eqb-true}
use Rattle.distinct_names.specs.Names.{is_new, all_new}
use Rattle.component_value_types.specs.declared.values.ValueType.TheVariants.{Index}
use Rattle.component_value_types.specs.Types.{DefinedTypeValue}
use Rattle.component_definitions.specs.declared.externs.Description.{Description}
use Rattle.component_definitions.specs.declared.externs.Description.TheVariants as descriptions
use Rattle.component_definitions.specs.Aliases.{outer, instance_export, core_instance_export}
use Rattle.component_sections.specs.Passed.component_instances-declared-declarators-Declarator.{Declarator}
use Rattle.component_sections.specs.Passed.component_instances-Declarators.{DeclaratorValue, declarator_value, declared_type, declared_alias, declared_export}
use Rattle.wit_types.specs.declared.kind.«Type».TheVariants.{Id}
use Rattle.wit_types.specs.declared.interface.TypeDef.{TypeDef}
use Rattle.wit_types.specs.declared.interface.TypeOwner.{TypeOwner}
use Rattle.wit_types.specs.declared.interface.TypeOwner.TheVariants as belongs
use Rattle.type_writing.specs.Passed.type_meaning-Tree.{Parts, named, resource, of, none, gap, part}
use Rattle.type_writing.specs.Passed.type_meaning-Words.{BinaryTree, Label, Resource}
use Rattle.type_writing.specs.Passed.type_meaning-Items.{Item, Items, no_items, and_item, put_items, Entry, Origin, a_type, a_function, or_nothing, item_at, item_named, items_of, named_item, own_label, Inside, no_inside, inside_of, declared}
use Rattle.type_writing.specs.Passed.type_meaning-Scope.{Scope}
use Rattle.type_writing.specs.declared.fault.Fault.{Fault}
use Rattle.type_writing.specs.Unfolding.{OwnName, WitTree, Unfolds, unfolds_type, under_name}
use Rattle.type_writing.specs.Writing.{written, written_parts, own_resource, Stands, KindStands, Begins, remembering}
use Rattle.type_sinks.specs.Root.{InterfaceNames, root_label, RootGood}
use Rattle.type_sinks.specs.Inside.{declares, type_count, exported_name, exported_names, is_of, inside_label, IsApart, AreApart, TakenAreApart, StaysInside, IsExported, InsideGood}
use Rattle.type_sinks.specs.Imports.{names_in}
use Rattle.type_sinks.proofs.Names.{bytes_same, all_new_push}
use Rattle.type_sinks.proofs.Keeping.{each_keeps, each_push, one_here, others_stay}
use Rattle.type_writing.proofs.Standing.{begins_here, get_begin, stands_keeps, value_inside}

-- ---- counts and names

pub declarators_push : (old new : List Declarator) (d : Declarator) → new ≡ old ++ d ∷ [] → map declarator_value new ≡ map declarator_value old ++ declarator_value d ∷ []
declarators_push old new d h = ap (map declarator_value) h ∙ map-append declarator_value old (d ∷ [])

count_push : (ds : List DeclaratorValue) (d : DeclaratorValue) → type_count (ds ++ d ∷ []) ≡ type_count ds + declares d
unfolding type_count
count_push ds d = fold-append (λ n d. n + declares d) 0 ds (d ∷ [])

pub counted_push : (old new : List DeclaratorValue) (d : DeclaratorValue) (n m : ℕ) → new ≡ old ++ d ∷ [] → declares d ≡ 1 → n ≡ type_count old → m ≡ n + 1 → m ≡ type_count new
counted_push old new d n m e one at next =
    let k : type_count new ≡ type_count (old ++ d ∷ []) = ap type_count e in
    let l = count_push old d in
    omega (arith, k, l, one, at, next)

pub counted_same : (old new : List DeclaratorValue) (d : DeclaratorValue) (n : ℕ) → new ≡ old ++ d ∷ [] → declares d ≡ 0 → n ≡ type_count old → n ≡ type_count new
counted_same old new d n e zero_more at =
    let k : type_count new ≡ type_count (old ++ d ∷ []) = ap type_count e in
    let l = count_push old d in
    omega (arith, k, l, zero_more, at)

pub names_push : (ds : List DeclaratorValue) (d : DeclaratorValue) → exported_names (ds ++ d ∷ []) ≡ exported_names ds ++ exported_name d
unfolding exported_names
names_push ds d = flat_map-append exported_name ds (d ∷ []) ∙ ap (λ l. flat_map exported_name ds ++ l) (append-nil (exported_name d))

pub named_push : (old new : List DeclaratorValue) (d : DeclaratorValue) (names more : List (List ℕ)) → new ≡ old ++ d ∷ [] → names ≡ exported_names old → more ≡ names ++ exported_name d → more ≡ exported_names new
named_push old new d names more e at next = next ∙ ap (λ l. l ++ exported_name d) at ∙ sym (ap exported_names e ∙ names_push old d)

nothing_distinct : (ds : List DeclaratorValue) → ds ≡ [] → all_new [] (exported_names ds) ≡ true
unfolding exported_names
nothing_distinct ds e = ap (λ l. all_new [] (flat_map exported_name l)) e

-- names that are distinct stay so
abbrev pub StayDistinct : List DeclaratorValue → List DeclaratorValue → Type 0
StayDistinct olds news = all_new [] (exported_names olds) ≡ true → all_new [] (exported_names news) ≡ true

pub unnamed_distinct : (olds news : List DeclaratorValue) (d : DeclaratorValue) → news ≡ olds ++ d ∷ [] → exported_name d ≡ [] → StayDistinct olds news
unnamed_distinct olds news d e unnamed h = ap (all_new []) (ap exported_names e ∙ names_push olds d ∙ ap (λ l. exported_names olds ++ l) unnamed ∙ append-nil (exported_names olds)) ∙ h

pub named_distinct : (olds news : List DeclaratorValue) (n : List ℕ) (d : Description) → news ≡ olds ++ declared_export n d ∷ [] → is_new (exported_names olds) n ≡ true → StayDistinct olds news
named_distinct olds news n d e fresh h = ap (all_new []) (ap exported_names e ∙ names_push olds (declared_export n d)) ∙ all_new_push (exported_names olds) n h fresh

pub nothing_counted : (ds : List Declarator) → ds ≡ [] → 0 ≡ type_count (map declarator_value ds)
unfolding type_count
nothing_counted ds e = ap (λ l. fold (λ n d. n + declares d) 0 (map declarator_value l)) (sym e)

pub nothing_named : (ds : List Declarator) (names : List (List ℕ)) → ds ≡ [] → names ≡ [] → names ≡ exported_names (map declarator_value ds)
unfolding exported_names
nothing_named ds names e f = f ∙ ap (λ l. flat_map exported_name (map declarator_value l)) (sym e)

-- whether or not something is exported
pub either_way : {P : Type 0} {A B C : Type 0} (r : Result (Unit {0}) Fault) → IfOk r (λ _. A) → IfOk r (λ _. B) → OnErr r C → (A → B → P) → (C → P) → P
either_way (Ok u) a b c f g = f a b
either_way (Err e) a b c f g = g c

-- ---- as many indices, and those names, whatever the root has

one_step : (around : List (List Item)) (s : Inside) (d : DeclaratorValue) → length (declared around s d).types ≡ length s.types + declares d
one_step around s (declared_type t) = length-append s.types _
one_step around s (declared_alias (outer c i)) = length-append s.types _
one_step around s (declared_alias (instance_export k i n)) = length-append s.types []
one_step around s (declared_alias (core_instance_export k i n)) = length-append s.types []
one_step around s (declared_export n (descriptions.Function i)) = length-append s.types []
one_step around s (declared_export n (descriptions.Equal i)) = length-append s.types _
one_step around s (declared_export n descriptions.Resource) = length-append s.types _
one_step around s (declared_export n (descriptions.Instance i)) = length-append s.types []

counts_from : (around : List (List Item)) (s : Inside) (n : ℕ) (ds : List DeclaratorValue) → length s.types ≡ n → length (fold (declared around) s ds).types ≡ fold (λ n d. n + declares d) n ds
counts_from around s n [] h = h
counts_from around s n (d ∷ ds) h = counts_from around (declared around s d) (n + declares d) ds (one_step around s d ∙ ap (λ k. k + declares d) h)

pub inside_count : (around : List (List Item)) (ds : List DeclaratorValue) → type_count ds ≡ length (inside_of around ds).types
unfolding type_count
inside_count around ds = sym (counts_from around no_inside 0 ds refl)

one_name : (around : List (List Item)) (s : Inside) (d : DeclaratorValue) → map (λ (e : Entry). e.name) (declared around s d).items ≡ map (λ (e : Entry). e.name) s.items ++ exported_name d
one_name around s (declared_type t) = sym (append-nil _)
one_name around s (declared_alias a) = sym (append-nil _)
one_name around s (declared_export n d) = map-append (λ (e : Entry). e.name) s.items _

names_from : (around : List (List Item)) (s : Inside) (ds : List DeclaratorValue) → map (λ (e : Entry). e.name) (fold (declared around) s ds).items ≡ map (λ (e : Entry). e.name) s.items ++ flat_map exported_name ds
names_from around s [] = sym (append-nil _)
names_from around s (d ∷ ds) =
    names_from around (declared around s d) ds ∙ ap (λ l. l ++ flat_map exported_name ds) (one_name around s d) ∙ append_assoc (map (λ (e : Entry). e.name) s.items) (exported_name d) (flat_map exported_name ds)

pub items_named : (around : List (List Item)) (ds : List DeclaratorValue) → map (λ (e : Entry). e.name) (inside_of around ds).items ≡ exported_names ds
unfolding exported_names
items_named around ds = names_from around no_inside ds

-- ---- items under names

there : (x : Option Item) (t : BinaryTree) → or_nothing x ≡ a_type t → x ≡ Some (a_type t)
there None t h = absurd cc
there (Some x) t h = ap (λ (i : Item). Some i) h

pub function_named_keeps : (n : List ℕ) (es more : List Entry) (o : Origin) (t : BinaryTree) → item_named n (items_of es) ≡ a_function o t → item_named n (items_of (es ++ more)) ≡ a_function o t
function_named_keeps n [] more o t h = absurd cc
function_named_keeps n (e ∷ es) more o t h = elim (cases_Bool (bytes_eq n e.name)) [
  | inl b ↦ rw b (rw b at h)
  | inr b ↦ rw b (function_named_keeps n es more o t (rw b at h))
]

-- what a name stands for stays so
named_keeps : (n : List ℕ) (es more : List Entry) (t : BinaryTree) → item_named n (items_of es) ≡ a_type t → item_named n (items_of (es ++ more)) ≡ a_type t
named_keeps n [] more t h = absurd cc
named_keeps n (e ∷ es) more t h = elim (cases_Bool (bytes_eq n e.name)) [
  | inl b ↦ rw b (rw b at h)
  | inr b ↦ rw b (named_keeps n es more t (rw b at h))
]

-- a new name stands for what is last
pub named_last : (n : List ℕ) (es : List Entry) (i : Item) → is_new (map (λ (e : Entry). e.name) es) n ≡ true → item_named n (items_of (es ++ record { name = n; item = i } ∷ [])) ≡ i
named_last n [] i h = rw (bytes_same n) refl
named_last n (e ∷ es) i h = elim (cases_Bool (bytes_eq n e.name)) [
  | inl b ↦ let k : false ≡ true = rw b at h in absurd cc
  | inr b ↦ rw b (named_last n es i (rw b at h))
]

-- ---- what is exported

exported_keeps : (names : InterfaceNames) (own : ℕ) (types : List TypeDef) (s t : Inside) (id : ℕ) → Begins s.items t.items → IsExported names own types s id → IsExported names own types t id
exported_keeps names own types s t id b h = record {
  def = h.def;
  there = h.there;
  name = h.name;
  named = h.named;
  owner = h.owner;
  tree = h.tree;
  unfolds = h.unfolds;
  has = ap (λ l. item_named (string_bytes h.name) (items_of l)) b.1 ∙ named_keeps (string_bytes h.name) s.items b.0 (written (inside_label names own) h.tree) h.has;
  value = h.value;
}

-- ---- where nothing is written

pub inside_nothing : (names : InterfaceNames) (root_known homes : ℕ → Option ℕ) (scope : Scope) (known : ℕ → Option ℕ) (exports : List ℕ) (ds : List DeclaratorValue) (own : ℕ) (types : List TypeDef)
    → ((id : ℕ) → known id ≡ None) → exports ≡ [] → ds ≡ [] → RootGood names root_known homes scope types → TakenAreApart homes own types → InsideGood names root_known homes scope known exports ds own types
inside_nothing names root_known homes scope known exports ds own types e f d root apart = record {
  root = root;
  stays = λ more. ap (inside_of ((scope.types ++ more) ∷ [])) d ∙ sym (ap (inside_of (scope.types ∷ [])) d);
  ids = λ id i h. let k : None ≡ Some i = sym (e id) ∙ h in absurd cc;
  exported = subst (Each (IsExported names own types (inside_of (scope.types ∷ []) ds))) (sym f) tt;
  apart = apart;
  distinct = nothing_distinct ds d;
}

-- ---- one more declarator over the same root

pub inside_push : (around : List (List Item)) (olds news : List DeclaratorValue) (d : DeclaratorValue) → news ≡ olds ++ d ∷ [] → inside_of around news ≡ declared around (inside_of around olds) d
inside_push around olds news d e = ap (inside_of around) e ∙ fold-append (declared around) no_inside olds (d ∷ [])

types_begin : (around : List (List Item)) (s : Inside) (d : DeclaratorValue) → Begins s.types (declared around s d).types
types_begin around s (declared_type t) = (_, refl)
types_begin around s (declared_alias a) = (_, refl)
types_begin around s (declared_export n d) = (_, refl)

items_begin : (around : List (List Item)) (s : Inside) (d : DeclaratorValue) → Begins s.items (declared around s d).items
items_begin around s (declared_type t) = begins_here s.items
items_begin around s (declared_alias a) = begins_here s.items
items_begin around s (declared_export n d) = (_, refl)

-- the declarator stands for the same where the root has more types
abbrev StaysAs : List Item → Inside → DeclaratorValue → Type 0
StaysAs around s d = (more : List Item) → declared ((around ++ more) ∷ []) s d ≡ declared (around ∷ []) s d

pub inside_step : (names : InterfaceNames) (root_known homes : ℕ → Option ℕ) (scope : Scope) (known : ℕ → Option ℕ) (exports : List ℕ) (olds news : List DeclaratorValue) (d : DeclaratorValue) (own : ℕ) (types : List TypeDef)
    → news ≡ olds ++ d ∷ [] → StayDistinct olds news → StaysAs scope.types (inside_of (scope.types ∷ []) olds) d
    → InsideGood names root_known homes scope known exports olds own types → InsideGood names root_known homes scope known exports news own types
inside_step names root_known homes scope known exports olds news d own types e distinct same g =
    let A = scope.types in
    let s = inside_of (A ∷ []) olds in
    let t = inside_of (A ∷ []) news in
    let p = inside_push (A ∷ []) olds news d e in
    let types_on : Begins s.types t.types = let b = types_begin (A ∷ []) s d in (b.0, ap (λ (q : Inside). q.types) p ∙ b.1) in
    let items_on : Begins s.items t.items = let b = items_begin (A ∷ []) s d in (b.0, ap (λ (q : Inside). q.items) p ∙ b.1) in
    record {
      root = g.root;
      stays = λ more. inside_push ((A ++ more) ∷ []) olds news d e ∙ ap (λ (q : Inside). declared ((A ++ more) ∷ []) q d) (g.stays more) ∙ same more ∙ sym p;
      ids = λ id i h. stands_keeps (inside_label names own) (inside_label names own) types s.types t.types (Id id) (Index i) refl types_on (g.ids id i h);
      exported = each_keeps (IsExported names own types s) (IsExported names own types t) exports (λ id. exported_keeps names own types s t id items_on) g.exported;
      apart = g.apart;
      distinct = distinct g.distinct;
    }

-- ---- the root has more types

pub inside_same : (old new : List Item) (ds : List DeclaratorValue) → Begins old new → StaysInside old ds (inside_of (old ∷ []) ds) → inside_of (new ∷ []) ds ≡ inside_of (old ∷ []) ds
inside_same old new ds b stays = ap (λ l. inside_of (l ∷ []) ds) b.1 ∙ stays b.0

pub inside_over : (names more_names : InterfaceNames) (root_known homes new_known new_homes : ℕ → Option ℕ) (old new : Scope) (known : ℕ → Option ℕ) (exports : List ℕ) (ds : List DeclaratorValue) (own : ℕ) (types : List TypeDef)
    → more_names ≡ names → new_homes ≡ homes → Begins old.types new.types → RootGood more_names new_known new_homes new types → InsideGood names root_known homes old known exports ds own types
    → InsideGood more_names new_known new_homes new known exports ds own types
inside_over names more_names root_known homes new_known new_homes old new known exports ds own types e f b root g =
    let s = inside_of (old.types ∷ []) ds in
    let t = inside_of (new.types ∷ []) ds in
    let same : t ≡ s = inside_same old.types new.types ds b g.stays in
    record {
      root = root;
      stays = λ more. ap (λ l. inside_of (l ∷ []) ds) (ap (λ l. l ++ more) b.1 ∙ append_assoc old.types b.0 more) ∙ g.stays (b.0 ++ more) ∙ sym same;
      ids = λ id i h. subst (λ n. Stands (inside_label n own) types t.types (Id id) (Index i)) (sym e) (subst (λ (q : Inside). Stands (inside_label names own) types q.types (Id id) (Index i)) (sym same) (g.ids id i h));
      exported = subst (λ n. Each (IsExported n own types t) exports) (sym e) (subst (λ (q : Inside). Each (IsExported names own types q) exports) (sym same) g.exported);
      apart = subst (λ (h : ℕ → Option ℕ). TakenAreApart h own types) (sym f) g.apart;
      distinct = g.distinct;
    }

-- ---- what the declarators add

pub type_stays : (around : List Item) (s : Inside) (t : DefinedTypeValue) → StaysAs around s (declared_type t)
type_stays around s t more = refl

pub export_stays : (around : List Item) (s : Inside) (n : List ℕ) (d : Description) → StaysAs around s (declared_export n d)
export_stays around s n d more = refl

pub outer_stays : (around : List Item) (s : Inside) (i : ℕ) (t : BinaryTree) → item_at around i ≡ a_type t → StaysAs around s (declared_alias (outer 1 i))
outer_stays around s i t h more =
    let there : item_at (around ++ more) i ≡ item_at around i = ap or_nothing (get_begin around more i (a_type t) (there (slice_get around i) t h)) ∙ sym h in
    ap (λ (x : Item). record { types = s.types ++ x ∷ []; items = s.items }) there

-- ---- exports

own_owner : (own : ℕ) (owner : TypeOwner) → is_of own owner ≡ true → owner ≡ belongs.Interface own
own_owner own (belongs.World w) h = absurd cc
own_owner own (belongs.Interface i) h = let e : i ≡ own = eqb-true i own h in ap belongs.Interface e
own_owner own belongs.None h = absurd cc

pub own_name : (names : InterfaceNames) (own : ℕ) (owner : TypeOwner) (n : List ℕ) → is_of own owner ≡ true → inside_label names own (record { owner = owner; name = n }) ≡ own_label n
own_name names own owner n h = rw h refl

pub name_there : (x : Option (String Global)) (n : List ℕ) → option_map string_bytes x ≡ Some n → (s : String Global) × (x ≡ Some s) × (string_bytes s ≡ n)
name_there None n h = absurd cc
name_there (Some s) n h = (s, refl, cc)

-- the type of a new export stands under its name
pub export_good : (names : InterfaceNames) (root_known homes : ℕ → Option ℕ) (scope : Scope) (known : ℕ → Option ℕ) (exports : List ℕ) (olds news : List DeclaratorValue) (own : ℕ) (types : List TypeDef) (id body : ℕ) (n : List ℕ) (d : TypeDef)
    → news ≡ olds ++ declared_export n (descriptions.Equal body) ∷ [] → is_new (exported_names olds) n ≡ true
    → slice_get types id ≡ Some d → is_of own d.owner ≡ true → option_map string_bytes d.name ≡ Some n
    → KindStands (inside_label names own) types (inside_of (scope.types ∷ []) olds).types d.kind body
    → InsideGood names root_known homes scope known exports olds own types → InsideGood names root_known homes scope known (exports ++ id ∷ []) news own types
export_good names root_known homes scope known exports olds news own types id body n d e new at owner name stands g =
    let A = scope.types in
    let s = inside_of (A ∷ []) olds in
    let t = inside_of (A ∷ []) news in
    let on = inside_step names root_known homes scope known exports olds news (declared_export n (descriptions.Equal body)) own types e (named_distinct olds news n (descriptions.Equal body) e new) (export_stays A s n (descriptions.Equal body)) g in
    let x = name_there d.name n name in
    let o : OwnName = record { owner = d.owner; name = string_bytes x.0 } in
    let w = written (inside_label names own) stands.0 in
    let r = value_inside s.types body w stands.2 in
    let label : inside_label names own o ≡ own_label n = own_name names own d.owner (string_bytes x.0) owner ∙ ap own_label x.2 in
    let item : named_item (own_label n) (item_at s.types body) ≡ a_type (named (inside_label names own o) w) = ap (named_item (own_label n)) r.0 ∙ ap (λ l. a_type (named l w)) (sym label) in
    let fresh : is_new (map (λ (y : Entry). y.name) s.items) n ≡ true = ap (λ l. is_new l n) (items_named (A ∷ []) olds) ∙ new in
    let has : item_named n (items_of t.items) ≡ a_type (named (inside_label names own o) w) =
    ap (λ (q : Inside). item_named n (items_of q.items)) (inside_push (A ∷ []) olds news (declared_export n (descriptions.Equal body)) e) ∙ named_last n s.items (named_item (own_label n) (item_at s.types body)) fresh ∙ item in
    let named_tree : under_name d.owner d.name stands.0 ≡ named o stands.0 = ap (λ (m : Option (String Global)). under_name d.owner m stands.0) x.1 in
    let one : IsExported names own types t id = record {
      def = d;
      there = at;
      name = x.0;
      named = x.1;
      owner = own_owner own d.owner owner;
      tree = named o stands.0;
      unfolds = subst (Unfolds types (Id id)) named_tree (unfolds_type id d stands.0 at stands.1);
      has = ap (λ m. item_named m (items_of t.items)) x.2 ∙ has;
      value = r.1;
    } in
    record { root = on.root; stays = on.stays; ids = on.ids; exported = each_push (IsExported names own types t) exports id on.exported one; apart = on.apart; distinct = on.distinct }

-- ---- what is remembered

pub known_good : (names : InterfaceNames) (root_known homes : ℕ → Option ℕ) (scope : Scope) (known new : ℕ → Option ℕ) (exports : List ℕ) (ds : List DeclaratorValue) (own id index : ℕ) (types : List TypeDef)
    → ((k : ℕ) → new k ≡ remembering known id index k) → Stands (inside_label names own) types (inside_of (scope.types ∷ []) ds).types (Id id) (Index index)
    → InsideGood names root_known homes scope known exports ds own types → InsideGood names root_known homes scope new exports ds own types
known_good names root_known homes scope known new exports ds own id index types kept s g = record {
  root = g.root;
  stays = g.stays;
  ids = λ k i h. elim (cases_Bool (nat_eq k id)) [
    | inl b ↦
        let e : k ≡ id = eqb-true k id b in
        let there : Some index ≡ Some i = sym (kept k ∙ one_here known id index k (sym e)) ∙ h in
        let same : index ≡ i = cc in
        let P : ℕ → ℕ → Type 0 = λ a b. Stands (inside_label names own) types (inside_of (scope.types ∷ []) ds).types (Id a) (Index b) in
        subst (λ a. P a i) (sym e) (subst (P id) same s)
    | inr b ↦ g.ids k i (sym (kept k ∙ others_stay known id index k b) ∙ h)
  ];
  exported = g.exported;
  apart = g.apart;
  distinct = g.distinct;
}

-- ---- a tree that doesn't speak of the interface is written alike

module _ (names : InterfaceNames) (own : ℕ) where
  apart_owner : (o : OwnName) → is_of own o.owner ≡ false → root_label names o ≡ inside_label names own o
  apart_owner o e = rw e refl

  mutual
    pub written_apart : (t : WitTree) → IsApart own t → written (root_label names) t ≡ written (inside_label names own) t
    written_apart (named o t) h =
        let e = apart_owner o h.0 in
        let f = written_apart t h.1 in
        λ i. named (e i) (f i)
    written_apart (resource o) h = ap own_resource (apart_owner o h)
    written_apart (of form ps) h = ap (of form) (written_apart_parts ps h)

    written_apart_parts : (ps : Parts OwnName OwnName) → AreApart own ps → written_parts (root_label names) ps ≡ written_parts (inside_label names own) ps
    written_apart_parts none h = refl
    written_apart_parts (gap ps) h = ap gap (written_apart_parts ps h)
    written_apart_parts (part t ps) h =
        let e = written_apart t h.0 in
        let f = written_apart_parts ps h.1 in
        λ i. part (e i) (f i)

-- ---- the names of items

pub names_of_items : (es : List Entry) → names_in (items_of es) ≡ map (λ (e : Entry). e.name) es
names_of_items [] = refl
names_of_items (e ∷ es) = ap (λ (ns : List (List ℕ)). e.name ∷ ns) (names_of_items es)

pub names_put : (f : Label → Label) (g : Resource → BinaryTree) (is : Items) → names_in (put_items f g is) ≡ names_in is
names_put f g no_items = refl
names_put f g (and_item n i more) = ap (λ (ns : List (List ℕ)). n ∷ ns) (names_put f g more)
