-- The type of an instance as the code has it: what a declarator adds, and what is remembered stays so.
use Rattle.std.proofs.Common.{◌≡◌, ℕ, List, [], ◌∷◌, ◌++◌, length, map, Option, Some, true, false, refl, sym, ap, subst, ◌∙◌}
use Rattle.std.specs.Prelude.{slice_get, option_map, string_bytes, nat_eq, Bool, ◌||◌}
use Rattle.std.specs.List.{list_any}
use Rattle.std.proofs.lemmas.List.Folds.{list_any-append}
use Rattle.std.proofs.lemmas.Bool.{eq-eqb}
use Rattle.std.proofs.lemmas.List.{append-nil}
use Rattle.distinct_names.specs.Names.{is_new}
use Rattle.component_value_types.specs.declared.values.ValueType.TheVariants.{Index}
use Rattle.component_value_types.specs.Types.{DefinedTypeValue}
use Rattle.component_definitions.specs.declared.externs.Description.TheVariants as descriptions
use Rattle.component_definitions.specs.Aliases.{outer}
use Rattle.component_sections.specs.Passed.component_instances-Declarators.{DeclaratorValue, declared_type, declared_alias, declared_export}
use Rattle.wit_types.specs.declared.kind.«Type».{«Type» as Ref}
use Rattle.wit_types.specs.declared.kind.«Type».TheVariants.{Id}
use Rattle.wit_types.specs.declared.function.Param.{Param}
use Rattle.wit_types.specs.declared.interface.TypeDef.{TypeDef}
use Rattle.wit_types.specs.declared.interface.TypeOwner.{TypeOwner}
use Rattle.type_writing.specs.Passed.type_meaning-Words.{Label, BinaryTree}
use Rattle.type_writing.specs.Passed.type_meaning-Tree.{Form, of, function_kind}
use Rattle.type_writing.specs.Passed.type_meaning-Syntax.{syntax_of}
use Rattle.type_writing.specs.Passed.type_meaning-Items.{Item, Entry, a_type, from_import, a_function, own_label, item_at, item_named, items_of, is_function, type_if, parts_in, type_or_nothing, function_import, type_item, named_item, Inside as TheInside, inside_of, declared, declared_item}
use Rattle.type_sinks.specs.declared.root.Root.{Root}
use Rattle.type_sinks.specs.declared.inside.InterfaceTypes.{InterfaceTypes}
use Rattle.type_writing.specs.Unfolding.{OwnName, WitTree}
use Rattle.type_writing.specs.Writing.{written, Stands, KindStands, Begins, Setting, IsRemembered}
use Rattle.type_sinks.specs.Kept.{index_of}
use Rattle.type_sinks.specs.Root.{root_label}
use Rattle.type_sinks.specs.Inside.{type_count, exported_name, exported_names, is_of, inside_label, InsideGood}
use Rattle.type_writing.specs.Functions.{function_form, IsFunctionOf}
use Rattle.type_sinks.specs.Views.{setting_over, root_scope, interface_names, RootIsGood, IsTaken, declarator_values, inside, inside_names, inside_setting, InsideIsGood, IsGiven, IsSameInside, IsDeclared, HasFunction}
use Rattle.type_writing.proofs.Standing.{begins_here, begins_same, begins_on, value_inside, next_value, new_item, parts_written}
use Rattle.type_sinks.proofs.Insides.{inside_count, items_named, named_last, function_named_keeps, inside_push, inside_step, inside_same, inside_over, type_stays, export_stays, outer_stays, export_good, own_name, name_there, written_apart, names_push, StayDistinct, unnamed_distinct, named_distinct}

-- what an instance type remembers, with parts of it by themselves
abbrev pub GoodOver : Root → List (ℕ × ℕ) → List ℕ → List DeclaratorValue → ℕ → List TypeDef → Type 0
GoodOver r known exports ds own types = InsideGood (interface_names r) (index_of r.known) (index_of r.homes) (root_scope r) (index_of known) exports ds own types

pub carried : (old new : InterfaceTypes) (d : DeclaratorValue) (ids : List ℕ) (types : List TypeDef) → IsDeclared old new d ids → GoodOver old.root old.known ids (declarator_values new) old.interface types → InsideIsGood new types
carried old new d ids types a g =
    let ds = declarator_values new in
    subst (λ (r : Root). GoodOver r new.known new.exports.items ds new.interface types) (sym a.root)
    (subst (λ n. GoodOver old.root new.known new.exports.items ds n types) (sym a.interface)
    (subst (λ k. GoodOver old.root k new.exports.items ds old.interface types) (sym a.known) (subst (λ l. GoodOver old.root old.known l ds old.interface types) (sym a.exports) g)))

pub types_after : (old new : InterfaceTypes) (d : DeclaratorValue) (ids : List ℕ) → IsDeclared old new d ids → (inside new).types ≡ (declared ((root_scope old.root).types ∷ []) (inside old) d).types
types_after old new d ids a =
    ap (λ (r : Root). (inside_of ((root_scope r).types ∷ []) (declarator_values new)).types) a.root
    ∙ ap (λ (q : TheInside). q.types) (inside_push ((root_scope old.root).types ∷ []) (declarator_values old) (declarator_values new) d a.declarators)

pub items_after : (old new : InterfaceTypes) (d : DeclaratorValue) (ids : List ℕ) → IsDeclared old new d ids → (inside new).items ≡ (declared ((root_scope old.root).types ∷ []) (inside old) d).items
items_after old new d ids a =
    ap (λ (r : Root). (inside_of ((root_scope r).types ∷ []) (declarator_values new)).items) a.root
    ∙ ap (λ (q : TheInside). q.items) (inside_push ((root_scope old.root).types ∷ []) (declarator_values old) (declarator_values new) d a.declarators)

pub label_after : (old new : InterfaceTypes) (d : DeclaratorValue) (ids : List ℕ) → IsDeclared old new d ids → inside_label (interface_names new.root) new.interface ≡ inside_label (interface_names old.root) old.interface
label_after old new d ids a = ap (λ (r : Root). inside_label (interface_names r) new.interface) a.root ∙ ap (inside_label (interface_names old.root)) a.interface

pub setting_same : (old new : InterfaceTypes) → new.root ≡ old.root → new.interface ≡ old.interface → inside_setting new ≡ inside_setting old
setting_same old new e f = λ i. setting_over (e i) (f i)

pub setting_after : (old new : InterfaceTypes) (d : DeclaratorValue) (ids : List ℕ) → IsDeclared old new d ids → inside_setting new ≡ inside_setting old
setting_after old new d ids a = setting_same old new a.root a.interface

pub names_after : (old new : InterfaceTypes) (d : DeclaratorValue) (ids : List ℕ) → IsDeclared old new d ids → inside_names new ≡ inside_names old ++ exported_name d
names_after old new d ids a = ap exported_names a.declarators ∙ names_push (declarator_values old) d

pub index_after : (old : InterfaceTypes) (i : ℕ) → i ≡ type_count (declarator_values old) → i ≡ length (inside old).types
index_after old i h = h ∙ inside_count ((root_scope old.root).types ∷ []) (declarator_values old)

pub stepped : (old new : InterfaceTypes) (d : DeclaratorValue) (types : List TypeDef) → IsDeclared old new d old.exports.items → StayDistinct (declarator_values old) (declarator_values new)
    → ((more : List Item) → declared (((root_scope old.root).types ++ more) ∷ []) (inside old) d ≡ declared ((root_scope old.root).types ∷ []) (inside old) d)
    → InsideIsGood old types → InsideIsGood new types
stepped old new d types a distinct same g =
    let r = old.root in
    carried old new d old.exports.items types a
    (inside_step (interface_names r) (index_of r.known) (index_of r.homes) (root_scope r) (index_of old.known) old.exports.items (declarator_values old) (declarator_values new) d old.interface types a.declarators distinct same g)

-- ---- what is given

pub given_same : (old new : InterfaceTypes) (k : ℕ) → new.exports.items ≡ old.exports.items → IsGiven old k → IsGiven new k
given_same old new k e h = ap (list_any (nat_eq k)) e ∙ h

any_push : (k id : ℕ) (ids : List ℕ) → list_any (nat_eq k) ids ≡ true → list_any (nat_eq k) (ids ++ id ∷ []) ≡ true
any_push k id ids h = list_any-append (nat_eq k) ids (id ∷ []) ∙ ap (λ b. b || list_any (nat_eq k) (id ∷ [])) h

pub given_more : (old new : InterfaceTypes) (k id : ℕ) → new.exports.items ≡ old.exports.items ++ id ∷ [] → IsGiven old k → IsGiven new k
given_more old new k id e h = ap (list_any (nat_eq k)) e ∙ any_push k id old.exports.items h

any_last : (id : ℕ) (ids : List ℕ) → list_any (nat_eq id) (ids ++ id ∷ []) ≡ true
any_last id [] = ap (λ b. b || false) (eq-eqb id id refl)
any_last id (x ∷ ids) = ap (λ b. nat_eq id x || b) (any_last id ids) ∙ or_true (nat_eq id x)
  where
    or_true : (b : Bool) → (b || true) ≡ true
    or_true true = refl
    or_true false = refl

pub given_last : (old new : InterfaceTypes) (id : ℕ) → new.exports.items ≡ old.exports.items ++ id ∷ [] → IsGiven new id
given_last old new id e = ap (list_any (nat_eq id)) e ∙ any_last id old.exports.items

-- ---- exports

pub export_after : (old new : InterfaceTypes) (owner : TypeOwner) (n : List ℕ) (body : ℕ) (ids : List ℕ) → is_of old.interface owner ≡ true → IsDeclared old new (declared_export n (descriptions.Equal body)) ids
    → (inside new).types ≡ (inside old).types ++ named_item (inside_label (interface_names old.root) old.interface (record { owner = owner; name = n })) (item_at (inside old).types body) ∷ []
export_after old new owner n body ids own a =
    types_after old new (declared_export n (descriptions.Equal body)) ids a
    ∙ ap (λ l. (inside old).types ++ named_item l (item_at (inside old).types body) ∷ []) (sym (own_name (interface_names old.root) old.interface owner n own))

pub exported : (old new : InterfaceTypes) (n : List ℕ) (id body : ℕ) (types : List TypeDef) (d : TypeDef) (owner : TypeOwner)
    → IsDeclared old new (declared_export n (descriptions.Equal body)) (old.exports.items ++ id ∷ []) → is_new (exported_names (declarator_values old)) n ≡ true → is_of old.interface owner ≡ true
    → InsideIsGood old types → slice_get types id ≡ Some d → d.owner ≡ owner → option_map string_bytes d.name ≡ Some n
    → KindStands (inside_label (interface_names old.root) old.interface) types (inside old).types d.kind body → InsideIsGood new types
exported old new n id body types d owner a new_name own g at is name stands =
    let r = old.root in
    let owned : is_of old.interface d.owner ≡ true = ap (is_of old.interface) is ∙ own in
    carried old new (declared_export n (descriptions.Equal body)) (old.exports.items ++ id ∷ []) types a
    (export_good (interface_names r) (index_of r.known) (index_of r.homes) (root_scope r) (index_of old.known) old.exports.items (declarator_values old) (declarator_values new) old.interface types id body n d a.declarators new_name at owned name stands g)

-- ---- types of other interfaces

pub foreign_stands : (old new : InterfaceTypes) (n : List ℕ) (k id i : ℕ) (owner : TypeOwner) (types : List TypeDef) (d : TypeDef)
    → i ≡ type_count (declarator_values old) → IsDeclared old new (declared_alias (outer 1 k)) old.exports.items
    → IsRemembered (index_of old.root.homes) id → is_of old.interface owner ≡ false
    → InsideIsGood old types → slice_get types id ≡ Some d → d.owner ≡ owner → option_map string_bytes d.name ≡ Some n
    → Stands (root_label (interface_names old.root)) types (root_scope old.root).types (Id id) (Index k)
    → InsideIsGood new types × Stands (inside_label (interface_names new.root) new.interface) types (inside new).types (Id id) (Index i)
foreign_stands old new n k id i owner types d count a home foreign g at is name s =
    let names = interface_names old.root in
    let own = old.interface in
    let outside = (root_scope old.root).types in
    let t = s.0 in
    let w = written (root_label names) t in
    let r = value_inside outside k w s.2 in
    let x = name_there d.name n name in
    let word : w ≡ written (inside_label (interface_names new.root) new.interface) t =
    written_apart names own t (g.apart id home.0 d x.0 t home.1 at x.1 (ap (is_of own) is ∙ foreign) s.1) ∙ ap (λ l. written l t) (sym (label_after old new (declared_alias (outer 1 k)) old.exports.items a)) in (
      stepped old new (declared_alias (outer 1 k)) types a (unnamed_distinct (declarator_values old) (declarator_values new) (declared_alias (outer 1 k)) a.declarators refl) (outer_stays outside (inside old) k w r.0) g,
      (
        t,
        s.1,
        next_value (inside old).types (inside new).types i (item_at outside k) w (index_after old i count) (types_after old new (declared_alias (outer 1 k)) old.exports.items a) r.0 r.1 ∙ ap (λ (q : BinaryTree). Some q) word,
      ),
    )

-- over another root, with all else as it was
pub record IsOver (old new : InterfaceTypes) : Type 0 where
  pub interface : new.interface ≡ old.interface
  pub known : new.known ≡ old.known
  pub exports : new.exports.items ≡ old.exports.items
  pub declarators : declarator_values new ≡ declarator_values old

over_same : (old new : InterfaceTypes) (types : List TypeDef) → IsOver old new → Begins (root_scope old.root).types (root_scope new.root).types → InsideIsGood old types → inside new ≡ inside old
over_same old new types o b g =
    ap (inside_of ((root_scope new.root).types ∷ [])) o.declarators ∙ inside_same (root_scope old.root).types (root_scope new.root).types (declarator_values old) b g.stays

over_good : (old new : InterfaceTypes) (types : List TypeDef) → IsOver old new → interface_names new.root ≡ interface_names old.root → new.root.homes ≡ old.root.homes → Begins (root_scope old.root).types (root_scope new.root).types → RootIsGood new.root types → InsideIsGood old types → InsideIsGood new types
over_good old new types o names homes b root g =
    let r = old.root in
    let s = new.root in
    let on = inside_over (interface_names r) (interface_names s) (index_of r.known) (index_of r.homes) (index_of s.known) (index_of s.homes) (root_scope r) (root_scope s) (index_of old.known) old.exports.items (declarator_values old) old.interface types names (ap index_of homes) b root g in
    subst (λ ds. GoodOver s new.known new.exports.items ds new.interface types) (sym o.declarators)
    (subst (λ n. GoodOver s new.known new.exports.items (declarator_values old) n types) (sym o.interface)
    (subst (λ k. GoodOver s k new.exports.items (declarator_values old) old.interface types) (sym o.known) (subst (λ l. GoodOver s old.known l (declarator_values old) old.interface types) (sym o.exports) on)))

over_label : (old new : InterfaceTypes) → IsOver old new → interface_names new.root ≡ interface_names old.root → inside_label (interface_names new.root) new.interface ≡ inside_label (interface_names old.root) old.interface
over_label old new o names = ap (λ n. inside_label n new.interface) names ∙ ap (inside_label (interface_names old.root)) o.interface

pub over_setting : (old new : InterfaceTypes) (n : List ℕ) (k id : ℕ) → IsOver old new → IsTaken old.root new.root n id k → inside_setting new ≡ inside_setting old
over_setting old new n k id o taken =
    let names = taken.names in
    let homes = taken.homes in
    let imported = taken.imported in
    let known = taken.known in
    let functions = taken.functions in
    let instances = taken.instances in
    let own = o.interface in
    λ i. record {
      label = inside_label (names i) (own i);
      is_own = is_of (own i);
      homes = index_of (homes i);
      interface = Some (own i);
      around = record { interfaces = names i; imported = imported i; known = index_of (known i); functions = functions i; instances = instances i };
    }

-- from the root, which may grow, and then from around
pub foreign_taken : (old mid new : InterfaceTypes) (owner : TypeOwner) (n : List ℕ) (k id i : ℕ)
    → IsOver old mid → IsTaken old.root mid.root n id k → is_of old.interface owner ≡ false
    → i ≡ type_count (declarator_values mid) → IsDeclared mid new (declared_alias (outer 1 k)) mid.exports.items
    → (types : List TypeDef) (d : TypeDef) → InsideIsGood old types → slice_get types id ≡ Some d → d.owner ≡ owner → option_map string_bytes d.name ≡ Some n
    → InsideIsGood new types × Stands (inside_label (interface_names new.root) new.interface) types (inside new).types (Id id) (Index i)
foreign_taken old mid new owner n k id i o taken foreign count a types d g at is name =
    let t = taken.stands types d g.root at name in
    let home : IsRemembered (index_of mid.root.homes) id = subst (λ l. IsRemembered (index_of l) id) (sym taken.homes) taken.home in
    foreign_stands mid new n k id i owner types d count a home (ap (λ j. is_of j owner) o.interface ∙ foreign) (over_good old mid types o taken.names taken.homes taken.begins (taken.good types g.root) g) at is name t

pub foreign_begins : (old mid new : InterfaceTypes) (n : List ℕ) (k id : ℕ) → IsOver old mid → IsTaken old.root mid.root n id k → IsDeclared mid new (declared_alias (outer 1 k)) mid.exports.items
    → (types : List TypeDef) → InsideIsGood old types → Begins (inside old).types (inside new).types
foreign_begins old mid new n k id o taken a types g =
    (_ ∷ [], types_after mid new (declared_alias (outer 1 k)) mid.exports.items a ∙ ap (λ (q : TheInside). q.types ++ item_at (root_scope mid.root).types k ∷ []) (over_same old mid types o taken.begins g))

foreign_setting : (old mid : InterfaceTypes) (n : List ℕ) (k id : ℕ) → IsOver old mid → IsTaken old.root mid.root n id k → inside_setting mid ≡ inside_setting old
foreign_setting old mid n k id o taken = over_setting old mid n k id o taken

pub foreign_sets : (old mid new : InterfaceTypes) (n : List ℕ) (k id : ℕ) → IsOver old mid → IsTaken old.root mid.root n id k → IsDeclared mid new (declared_alias (outer 1 k)) mid.exports.items → inside_setting new ≡ inside_setting old
foreign_sets old mid new n k id o taken a = setting_after mid new (declared_alias (outer 1 k)) mid.exports.items a ∙ foreign_setting old mid n k id o taken

-- the root has grown, and stays so
pub foreign_outside : (old new : InterfaceTypes) (root : Root) (n : List ℕ) (k id : ℕ) → IsTaken old.root root n id k → new.root ≡ root → Begins (root_scope old.root).types (root_scope new.root).types
foreign_outside old new root n k id taken e = subst (λ (r : Root). Begins (root_scope old.root).types (root_scope r).types) (sym e) taken.begins

pub root_stays_outside : (old new : InterfaceTypes) → new.root ≡ old.root → Begins (root_scope old.root).types (root_scope new.root).types
root_stays_outside old new e = begins_same (root_scope old.root).types (root_scope new.root).types (ap (λ (r : Root). (root_scope r).types) e)

pub foreign_names : (old mid new : InterfaceTypes) (k : ℕ) → IsOver old mid → IsDeclared mid new (declared_alias (outer 1 k)) mid.exports.items → inside_names new ≡ inside_names old
foreign_names old mid new k o a = names_after mid new (declared_alias (outer 1 k)) mid.exports.items a ∙ append-nil (inside_names mid) ∙ ap exported_names o.declarators

-- ---- where nothing is written

pub record InsideStays (old new : InterfaceTypes) : Type 0 where
  pub setting : inside_setting new ≡ inside_setting old
  pub types : (inside new).types ≡ (inside old).types
  pub items : (inside new).items ≡ (inside old).items
  pub names : inside_names new ≡ inside_names old
  pub good : (types : List TypeDef) → InsideIsGood old types → InsideIsGood new types

pub inside_stays : (old new : InterfaceTypes) → IsSameInside old new → InsideStays old new
inside_stays old new a = record {
  setting = setting_same old new a.root a.interface;
  types = ap (λ (r : Root). (inside_of ((root_scope r).types ∷ []) (declarator_values new)).types) a.root ∙ ap (λ ds. (inside_of ((root_scope old.root).types ∷ []) ds).types) a.declarators;
  items = ap (λ (r : Root). (inside_of ((root_scope r).types ∷ []) (declarator_values new)).items) a.root ∙ ap (λ ds. (inside_of ((root_scope old.root).types ∷ []) ds).items) a.declarators;
  names = ap exported_names a.declarators;
  good = λ types g. subst (λ (r : Root). GoodOver r new.known new.exports.items (declarator_values new) new.interface types) (sym a.root)
      (subst (λ ds. GoodOver old.root new.known new.exports.items ds new.interface types) (sym a.declarators)
      (subst (λ n. GoodOver old.root new.known new.exports.items (declarator_values old) n types) (sym a.interface)
      (subst (λ k. GoodOver old.root k new.exports.items (declarator_values old) old.interface types) (sym a.known) (subst (λ l. GoodOver old.root old.known l (declarator_values old) old.interface types) (sym a.exports) g))));
}

-- the root has grown, and no more is written
pub over_stays : (old mid new : InterfaceTypes) (n : List ℕ) (id k : ℕ) → IsOver old mid → IsTaken old.root mid.root n id k → IsSameInside mid new → (types : List TypeDef) → InsideIsGood old types → InsideIsGood new types
over_stays old mid new n id k o taken a types g = (inside_stays mid new a).good types (over_good old mid types o taken.names taken.homes taken.begins (taken.good types g.root) g)

pub over_sets : (old mid new : InterfaceTypes) (n : List ℕ) (id k : ℕ) → IsOver old mid → IsTaken old.root mid.root n id k → IsSameInside mid new → inside_setting new ≡ inside_setting old
over_sets old mid new n id k o taken a = (inside_stays mid new a).setting ∙ foreign_setting old mid n k id o taken

pub over_names : (old mid new : InterfaceTypes) → IsOver old mid → IsSameInside mid new → inside_names new ≡ inside_names old
over_names old mid new o a = (inside_stays mid new a).names ∙ ap exported_names o.declarators

pub over_begins : (old mid new : InterfaceTypes) (n : List ℕ) (id k : ℕ) → IsOver old mid → IsTaken old.root mid.root n id k → IsSameInside mid new → (types : List TypeDef) → InsideIsGood old types → Begins (inside old).types (inside new).types
over_begins old mid new n id k o taken a types g = begins_same (inside old).types (inside new).types ((inside_stays mid new a).types ∙ ap (λ (q : TheInside). q.types) (over_same old mid types o taken.begins g))

-- ---- functions

-- what another declarator, or none, leaves
pub record Leaves (old new : InterfaceTypes) : Type 0 where
  pub root : new.root ≡ old.root
  pub interface : new.interface ≡ old.interface
  pub begins : Begins (inside old).types (inside new).types
  pub items : Begins (inside old).items (inside new).items
  pub good : (types : List TypeDef) → InsideIsGood old types → InsideIsGood new types

pub leaves_here : (t : InterfaceTypes) → Leaves t t
leaves_here t = record { root = refl; interface = refl; begins = begins_here (inside t).types; items = begins_here (inside t).items; good = λ types g. g }

pub leaves_on : (old mid new : InterfaceTypes) → Leaves old mid → Leaves mid new → Leaves old new
leaves_on old mid new a b = record {
  root = b.root ∙ a.root;
  interface = b.interface ∙ a.interface;
  begins = begins_on (inside old).types (inside mid).types (inside new).types a.begins b.begins;
  items = begins_on (inside old).items (inside mid).items (inside new).items a.items b.items;
  good = λ types g. b.good types (a.good types g);
}

pub same_leaves : (old new : InterfaceTypes) → IsSameInside old new → Leaves old new
same_leaves old new a =
    let s = inside_stays old new a in
    record {
      root = a.root;
      interface = a.interface;
      begins = begins_same (inside old).types (inside new).types s.types;
      items = begins_same (inside old).items (inside new).items s.items;
      good = s.good;
    }

pub type_leaves : (old new : InterfaceTypes) (d : DefinedTypeValue) → IsDeclared old new (declared_type d) old.exports.items → Leaves old new
type_leaves old new d a = record {
  root = a.root;
  interface = a.interface;
  begins = (_, types_after old new (declared_type d) old.exports.items a);
  items = begins_same (inside old).items (inside new).items (items_after old new (declared_type d) old.exports.items a);
  good = λ types. stepped old new (declared_type d) types a (unnamed_distinct (declarator_values old) (declarator_values new) (declared_type d) a.declarators refl) (type_stays (root_scope old.root).types (inside old) d);
}

pub item_leaves : (old new : InterfaceTypes) (n : List ℕ) (i : ℕ) → is_new (inside_names old) n ≡ true → IsDeclared old new (declared_export n (descriptions.Function i)) old.exports.items → Leaves old new
item_leaves old new n i fresh a = record {
  root = a.root;
  interface = a.interface;
  begins = begins_same (inside old).types (inside new).types (types_after old new (declared_export n (descriptions.Function i)) old.exports.items a ∙ append-nil (inside old).types);
  items = (_, items_after old new (declared_export n (descriptions.Function i)) old.exports.items a);
  good = λ types. stepped old new (declared_export n (descriptions.Function i)) types a (named_distinct (declarator_values old) (declarator_values new) n (descriptions.Function i) a.declarators fresh) (export_stays (root_scope old.root).types (inside old) n (descriptions.Function i));
}

leaves_label : (old new : InterfaceTypes) → Leaves old new → inside_label (interface_names new.root) new.interface ≡ inside_label (interface_names old.root) old.interface
leaves_label old new a = ap (λ (s : Setting). s.label) (setting_same old new a.root a.interface)

-- functions that are exported stay so
pub function_keeps : (old new : InterfaceTypes) (types : List TypeDef) (other : List ℕ) (params : List Param) (result : Option Ref) → Leaves old new → HasFunction old types other params result → HasFunction new types other params result
function_keeps old new types other params result a h = record {
  tree = h.tree;
  unfolds = h.unfolds;
  has = ap (λ es. item_named other (items_of es)) a.items.1 ∙ function_named_keeps other (inside old).items a.items.0 (from_import (own_label other)) (written (inside_label (interface_names old.root) old.interface) h.tree) h.has
      ∙ ap (λ (l : OwnName → Label). a_function (from_import (own_label other)) (written l h.tree)) (sym (leaves_label old new a));
}

pub function_has : (old mid new : InterfaceTypes) (types : List TypeDef) (params : List Param) (result : Option Ref) (n : List ℕ) (d : DefinedTypeValue) (i : ℕ)
    → i ≡ type_count (declarator_values old) → IsFunctionOf (inside_label (interface_names old.root) old.interface) types (inside old).types params result d
    → is_new (exported_names (declarator_values mid)) n ≡ true
    → IsDeclared old mid (declared_type d) old.exports.items → IsDeclared mid new (declared_export n (descriptions.Function i)) mid.exports.items → HasFunction new types n params result
function_has old mid new types params result n d i count h new_name a b =
    let at = index_after old i count in
    let e = types_after old mid (declared_type d) old.exports.items a in
    let label = inside_label (interface_names old.root) old.interface in
    let around = (root_scope mid.root).types ∷ [] in
    let space = (inside old).types in
    let f = function_form params result in
    let syntax = syntax_of d in
    let r = parts_written label types space function_kind f.parts syntax.parts refl h.parts in
    let tree : WitTree = of f.form r.0 in
    let is : type_item space d ≡ a_type (written label tree) =
    ap (λ (g : Form). type_or_nothing (option_map (of g) (parts_in g.kind space syntax.parts))) h.same ∙ ap (λ p. type_or_nothing (option_map (of f.form) p)) r.2 in
    let there : item_at (inside mid).types i ≡ a_type (written label tree) = ap (item_at (inside mid).types) at ∙ ap (λ l. item_at l (length space)) e ∙ new_item space (type_item space d) ∙ is in
    let item : declared_item (inside mid).types n (descriptions.Function i) ≡ a_function (from_import (own_label n)) (written label tree) = ap (λ x. function_import (own_label n) (type_if is_function x)) there in
    let fresh : is_new (map (λ (y : Entry). y.name) (inside mid).items) n ≡ true = ap (λ l. is_new l n) (items_named around (declarator_values mid)) ∙ new_name in
    let after : (inside new).items ≡ (inside mid).items ++ record { name = n; item = declared_item (inside mid).types n (descriptions.Function i) } ∷ [] = items_after mid new (declared_export n (descriptions.Function i)) mid.exports.items b in
    let now : inside_label (interface_names new.root) new.interface ≡ label =
    label_after mid new (declared_export n (descriptions.Function i)) mid.exports.items b ∙ label_after old mid (declared_type d) old.exports.items a in
    record {
      tree = tree;
      unfolds = record { parts = r.0; unfolds = r.1; is = refl };
      has = ap (λ es. item_named n (items_of es)) after ∙ named_last n (inside mid).items (declared_item (inside mid).types n (descriptions.Function i)) fresh ∙ item ∙ ap (λ (l : OwnName → Label). a_function (from_import (own_label n)) (written l tree)) (sym now);
    }
