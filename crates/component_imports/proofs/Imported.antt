-- What is imported for an interface.
use Rattle.std.proofs.Common.{◌≡◌, ◌⊎◌, ◌≤◌, ℕ, List, [], ◌∷◌, ◌++◌, length, get_or, Option, Some, None, false, ap, subst, sym, ◌∙◌, inl, inr}
use Rattle.std.specs.Prelude.{nat_eq, string_bytes, Result, Ok, Err, IfOk}
use Rattle.std.specs.List.{AllByRecursion as Each, list_any, flat_map}
use Rattle.std.proofs.lemmas.Bool.{cases_Bool}
use Rattle.distinct_names.specs.Names.{is_new}
use Rattle.wit_order.specs.Order.{Has}
use Rattle.wit_types.specs.declared.kind.«Type».{«Type» as Ref}
use Rattle.wit_types.specs.declared.function.Param.{Param}
use Rattle.wit_types.specs.declared.interface.TypeDef.{TypeDef}
use Rattle.wit_types.specs.declared.function.Function.{Function}
use Rattle.type_sinks.specs.Passed.type_meaning-Words.{Site, imported}
use Rattle.type_sinks.specs.Passed.type_writing-declared-fault-Fault.{Fault}
use Rattle.type_sinks.specs.Passed.type_writing-Writing.{Setting, Begins, HasItsName, names_of_types, IsRemembered}
use Rattle.type_sinks.specs.Passed.type_writing-Refusals.{IsCause}
use Rattle.type_sinks.proofs.Passed.type_writing-Standing.{begins_on}
use Rattle.type_sinks.proofs.Keeping.{each_keeps}
use Rattle.type_sinks.proofs.Passed.type_writing-Refusals.{cause_weaker, types_less}
use Rattle.type_sinks.specs.declared.root.Root.{Root}
use Rattle.type_sinks.specs.declared.inside.InterfaceTypes.{InterfaceTypes}
use Rattle.type_sinks.specs.Kept.{index_of}
use Rattle.type_sinks.specs.Inside.{exported_name, exported_names, instance_label}
use Rattle.type_sinks.specs.Root.{InterfaceNames}
use Rattle.type_sinks.specs.Views.{root_scope, root_names, interface_names, RootIsGood, declarator_values, inside_names, inside_setting, InsideIsGood, IsGiven, IsImportedBeside, IsNamedImportCause, IsImportCause, IsInstanceWith, IsTypeOf, HasFunction, HasFunctionIn, HasTypeIn, InstanceHasFunction}
use Rattle.component_imports.specs.Functions.{function_names, HasFunctionOf}
use Rattle.type_sinks.specs.Views.{setting_over}
use Rattle.component_imports.specs.Interface.{interface_name, ImportHasFunction, IsFilled, IsInterfaceImported, IsNotImported, AreItemsUnready, HasFunctionBeside, HasTypeBeside, IsImportedBesideOthers}
use Rattle.component_imports.proofs.Exported.{functions_less}

-- names that are given are given under what follows from it
pub named_more : (s : Setting) (types : List TypeDef) (P Q : ℕ → Type 0) (ids : List ℕ) → ((k : ℕ) → P k → Q k) → Each (HasItsName s types P) ids → Each (HasItsName s types Q) ids
named_more s types P Q [] f h = tt
named_more s types P Q (id ∷ ids) f h = (λ d x at is own. f id (h.0 d x at is own), named_more s types P Q ids f h.1)

-- ---- the instance's type where nothing is written

pub nothing_named : (t : InterfaceTypes) → declarator_values t ≡ [] → inside_names t ≡ []
unfolding exported_names
nothing_named t e = ap (flat_map exported_name) e

pub setting_is : (t : InterfaceTypes) (root : Root) (interface : ℕ) → t.root ≡ root → t.interface ≡ interface → inside_setting t ≡ setting_over root interface
setting_is t root interface e f = λ i. setting_over (e i) (f i)

pub items_unready : (t : InterfaceTypes) (root : Root) (types : List TypeDef) (interface : ℕ) (ids : List ℕ) (fs : List Function)
    → inside_setting t ≡ setting_over root interface → inside_names t ≡ [] → ((id : ℕ) → index_of t.known id ≡ None)
    → AreItemsUnready (inside_setting t) (IsRemembered (index_of t.known)) (inside_names t) types ids fs → AreItemsUnready (setting_over root interface) (λ _. ⊥) [] types ids fs
items_unready t root types interface ids fs set names none h =
    let P : Setting → List (List ℕ) → Type 0 = λ s l. AreItemsUnready s (IsRemembered (index_of t.known)) l types ids fs in
    let k = subst (P (setting_over root interface)) names (subst (λ s. P s (inside_names t)) set h) in
    elim k as (λ _. AreItemsUnready (setting_over root interface) (λ _. ⊥) [] types ids fs) [
      | inl a ↦ inl (types_less (setting_over root interface) (IsRemembered (index_of t.known)) (λ _. ⊥) [] types ids (λ i e. absurd e) a)
      | inr b ↦ inr (functions_less (λ id. IsRemembered (index_of t.known) id ⊎ Has ids id) (λ id. ⊥ ⊎ Has ids id) (names_of_types (setting_over root interface) types ids) fs only b)
    ]
  where
    only : (id : ℕ) → ⊥ ⊎ Has ids id → IsRemembered (index_of t.known) id ⊎ Has ids id
    only id e = elim e as (λ _. IsRemembered (index_of t.known) id ⊎ Has ids id) [ inl n ↦ absurd n | inr there ↦ inr there ]

-- ---- what is imported

same_own : (a b : ℕ) → Some a ≡ Some b → a ≡ b
same_own a b e = cc

pub record IsPut (t : InterfaceTypes) (r : Root) (types : List TypeDef) : Type 0 where
  pub good : RootIsGood r types
  pub homes : (id : ℕ) → IsGiven t id → index_of r.homes id ≡ Some (length (root_scope t.root).instances)
  pub others : (id : ℕ) → list_any (nat_eq id) t.exports.items ≡ false → index_of r.homes id ≡ index_of t.root.homes id
  pub only : (id k : ℕ) → index_of r.homes id ≡ Some k → (index_of t.root.homes id ≡ Some k) ⊎ IsTypeOf types id t.interface
  pub interfaces : interface_names r ≡ interface_names t.root
  pub known : index_of r.known ≡ index_of t.root.known
  pub begins : Begins (root_scope t.root).types (root_scope r).types × Begins (root_scope t.root).instances (root_scope r).instances
  pub same : (root_scope r).functions ≡ (root_scope t.root).functions
  pub names : root_names r ≡ root_names t.root ++ get_or (interface_names t.root) t.interface [] ∷ []
  pub items : IsInstanceWith r (length (root_scope t.root).instances) (imported (get_or (interface_names t.root) t.interface [])) (inside_names t)
  pub functions : (name : List ℕ) (params : List Param) (answer : Option Ref) → HasFunction t types name params answer
      → InstanceHasFunction r (length (root_scope t.root).instances) (imported (get_or (interface_names t.root) t.interface [])) types name params answer

abbrev site : InterfaceTypes → Site
site t = imported (get_or (interface_names t.root) t.interface [])

abbrev place : InterfaceTypes → ℕ
place t = length (root_scope t.root).instances

-- what is said of the root that is answered, if one is
pub put_of : (res : Result Root Fault) (t : InterfaceTypes) (types : List TypeDef)
    → IfOk res (λ r. (ts : List TypeDef) → InsideIsGood t ts → RootIsGood r ts) → InsideIsGood t types
    → IfOk res (λ r. (id : ℕ) → IsGiven t id → index_of r.homes id ≡ Some (place t))
    → IfOk res (λ r. (id : ℕ) → list_any (nat_eq id) t.exports.items ≡ false → index_of r.homes id ≡ index_of t.root.homes id)
    → IfOk res (λ r. (ts : List TypeDef) → InsideIsGood t ts → (id k : ℕ) → index_of r.homes id ≡ Some k → (index_of t.root.homes id ≡ Some k) ⊎ IsTypeOf ts id t.interface)
    → IfOk res (λ r. interface_names r ≡ interface_names t.root)
    → IfOk res (λ r. index_of r.known ≡ index_of t.root.known)
    → IfOk res (λ r. Begins (root_scope t.root).types (root_scope r).types × Begins (root_scope t.root).instances (root_scope r).instances)
    → IfOk res (λ r. (root_scope r).functions ≡ (root_scope t.root).functions)
    → IfOk res (λ r. root_names r ≡ root_names t.root ++ get_or (interface_names t.root) t.interface [] ∷ [])
    → IfOk res (λ r. IsInstanceWith r (place t) (site t) (inside_names t))
    → IfOk res (λ r. (ts : List TypeDef) (name : List ℕ) (params : List Param) (answer : Option Ref) → HasFunction t ts name params answer → InstanceHasFunction r (place t) (site t) ts name params answer)
    → IfOk res (λ r. IsPut t r types)
put_of (Ok r) t types a g b c o d k e f h i j = record { good = a types g; homes = b; others = c; only = o types g; interfaces = d; known = k; begins = e; same = f; names = h; items = i; functions = j types }
put_of (Err x) t types a g b c o d k e f h i j = tt

homes_keep : (t : InterfaceTypes) (r : Root) (k id : ℕ) → ((i : ℕ) → IsGiven t i → index_of r.homes i ≡ Some k) → ((i : ℕ) → list_any (nat_eq i) t.exports.items ≡ false → index_of r.homes i ≡ index_of t.root.homes i)
    → IsRemembered (index_of t.root.homes) id → IsRemembered (index_of r.homes) id
homes_keep t r k id given others h = elim (cases_Bool (list_any (nat_eq id) t.exports.items)) as (λ _. IsRemembered (index_of r.homes) id) [
  | inl b ↦ (k, given id b)
  | inr b ↦ (h.0, others id b ∙ h.1)
]

pub all_imported : (root : Root) (t : InterfaceTypes) (r : Root) (types : List TypeDef) (interface : ℕ) (ids : List ℕ) (functions : List Function)
    → IsFilled root t types interface ids functions → IsPut t r types → IsInterfaceImported root r types interface ids functions
all_imported root t r types interface ids functions f p =
    let s = f.setting in
    let interfaces : interface_names t.root ≡ interface_names root = ap (λ (x : Setting). x.around.interfaces) s in
    let own : t.interface ≡ interface = same_own t.interface interface (ap (λ (x : Setting). x.interface) s) in
    let homes : index_of t.root.homes ≡ index_of root.homes = ap (λ (x : Setting). x.homes) s in
    let instances : (root_scope t.root).instances ≡ (root_scope root).instances = ap (λ (x : Setting). x.around.instances) s in
    let name : get_or (interface_names t.root) t.interface [] ≡ interface_name root interface = (λ i. get_or (interfaces i) (own i) []) in
    let count : length (root_scope t.root).instances ≡ length (root_scope root).instances = ap length instances in
    let At : ℕ → List ℕ → List (List ℕ) → Type 0 = λ k n l. IsInstanceWith r k (imported n) l in
    let Has : ℕ → List ℕ → Function → Type 0 = λ k n g. InstanceHasFunction r k (imported n) types (string_bytes g.name) g.params.items g.result in
    record {
      interfaces = p.interfaces ∙ interfaces;
      names = p.names ∙ (λ i. (ap (λ (x : Setting). x.around.imported) s) i ++ name i ∷ []);
      types_stay = begins_on (root_scope root).types (root_scope t.root).types (root_scope r).types f.outside p.begins.0;
      functions_stay = p.same ∙ ap (λ (x : Setting). x.around.functions) s;
      instances_stay = subst (λ l. Begins l (root_scope r).instances) instances p.begins.1;
      known = p.known ∙ ap (λ (x : Setting). x.around.known) s;
      good = p.good;
      items = subst (λ k. At k (interface_name root interface) (names_of_types (setting_over root interface) types ids ++ function_names functions)) count
          (subst (λ n. At (length (root_scope t.root).instances) n (names_of_types (setting_over root interface) types ids ++ function_names functions)) name
          (subst (At (length (root_scope t.root).instances) (get_or (interface_names t.root) t.interface [])) f.names p.items));
      homes = named_more (setting_over root interface) types (IsGiven t) (λ id. index_of r.homes id ≡ Some (length (root_scope root).instances)) ids (λ id h. p.homes id h ∙ ap (λ (k : ℕ). Some k) count) f.named;
      homes_only = λ id k h. subst (λ (m : ℕ → Option ℕ). (m id ≡ Some k) ⊎ IsTypeOf types id interface) homes (subst (λ j. (index_of t.root.homes id ≡ Some k) ⊎ IsTypeOf types id j) own (p.only id k h));
      homes_stay = λ id h. homes_keep t r (length (root_scope t.root).instances) id p.homes p.others (subst (λ (m : ℕ → Option ℕ). IsRemembered m id) (sym homes) h);
      has = each_keeps (HasFunctionOf t types) (ImportHasFunction root r interface types) functions (λ g h.
          subst (λ k. Has k (interface_name root interface) g) count (subst (λ n. Has (length (root_scope t.root).instances) n g) name (p.functions (string_bytes g.name) g.params.items g.result h))) f.has;
    }

-- why none is
pub put_unready : (A : Type 0) (root : Root) (t : InterfaceTypes) (interface : ℕ) (e : Fault) → inside_setting t ≡ setting_over root interface → IsImportCause t.root t.interface e → IsCause (A ⊎ IsNotImported root interface) (Unit {0}) e
put_unready A root t interface e s h =
    let interfaces : interface_names t.root ≡ interface_names root = ap (λ (x : Setting). x.around.interfaces) s in
    let imported_names : root_names t.root ≡ root_names root = ap (λ (x : Setting). x.around.imported) s in
    let own : t.interface ≡ interface = same_own t.interface interface (ap (λ (x : Setting). x.interface) s) in
    let Not : List (List ℕ) → List (List ℕ) → ℕ → Type 0 = λ names there n. (length names ≤ n) ⊎ (is_new there (get_or names n []) ≡ false) in
    cause_weaker (λ k. inr (subst (Not (interface_names root) (root_names root)) own (subst (λ l. Not (interface_names root) l t.interface) imported_names (subst (λ l. Not l (root_names t.root) t.interface) interfaces k)))) (λ k. tt) e h

-- ---- beside other instances

pub record IsPutBeside (t : InterfaceTypes) (r : Root) (name : List ℕ) (types : List TypeDef) : Type 0 where
  pub good : RootIsGood r types
  pub interfaces : interface_names r ≡ interface_names t.root
  pub known : index_of r.known ≡ index_of t.root.known
  pub homes : index_of r.homes ≡ index_of t.root.homes
  pub begins : Begins (root_scope t.root).types (root_scope r).types × Begins (root_scope t.root).instances (root_scope r).instances
  pub same : (root_scope r).functions ≡ (root_scope t.root).functions
  pub names : root_names r ≡ root_names t.root ++ name ∷ []
  pub items : IsInstanceWith r (place t) (imported name) (inside_names t)
  pub functions : (of : List ℕ) (params : List Param) (answer : Option Ref) → HasFunction t types of params answer → HasFunctionIn (instance_label (interface_names t.root) t.interface name) r (place t) (imported name) types of params answer
  pub types_are : (id : ℕ) → IsGiven t id → HasTypeIn (instance_label (interface_names t.root) t.interface name) r (place t) (imported name) types id

pub put_beside : (res : Result Root Fault) (t : InterfaceTypes) (name : List ℕ) (types : List TypeDef)
    → IfOk res (λ r. IsImportedBeside t.root r name (declarator_values t))
    → IfOk res (λ r. (ts : List TypeDef) → InsideIsGood t ts → RootIsGood r ts) → InsideIsGood t types
    → IfOk res (λ r. Begins (root_scope t.root).types (root_scope r).types × Begins (root_scope t.root).instances (root_scope r).instances)
    → IfOk res (λ r. (root_scope r).functions ≡ (root_scope t.root).functions)
    → IfOk res (λ r. root_names r ≡ root_names t.root ++ name ∷ [])
    → IfOk res (λ r. IsInstanceWith r (place t) (imported name) (inside_names t))
    → IfOk res (λ r. (ts : List TypeDef) (of : List ℕ) (params : List Param) (answer : Option Ref) → HasFunction t ts of params answer → HasFunctionIn (instance_label (interface_names t.root) t.interface name) r (place t) (imported name) ts of params answer)
    → IfOk res (λ r. (ts : List TypeDef) (id : ℕ) → InsideIsGood t ts → IsGiven t id → HasTypeIn (instance_label (interface_names t.root) t.interface name) r (place t) (imported name) ts id)
    → IfOk res (λ r. IsPutBeside t r name types)
put_beside (Ok r) t name types a b g e f h i j k = record {
  good = b types g;
  interfaces = a.written.names;
  known = ap index_of a.written.known;
  homes = ap index_of a.homes;
  begins = e;
  same = f;
  names = h;
  items = i;
  functions = j types;
  types_are = λ id. k types id g;
}
put_beside (Err x) t name types a b g e f h i j k = tt

pub imported_beside : (root : Root) (t : InterfaceTypes) (r : Root) (types : List TypeDef) (interface : ℕ) (name : List ℕ) (ids : List ℕ) (functions : List Function)
    → IsFilled root t types interface ids functions → IsPutBeside t r name types → IsImportedBesideOthers root r types interface name ids functions
imported_beside root t r types interface name ids functions f p =
    let s = f.setting in
    let interfaces : interface_names t.root ≡ interface_names root = ap (λ (x : Setting). x.around.interfaces) s in
    let own : t.interface ≡ interface = same_own t.interface interface (ap (λ (x : Setting). x.interface) s) in
    let instances : (root_scope t.root).instances ≡ (root_scope root).instances = ap (λ (x : Setting). x.around.instances) s in
    let count : place t ≡ length (root_scope root).instances = ap length instances in
    let Has : ℕ → InterfaceNames → ℕ → Function → Type 0 = λ k names i g. HasFunctionIn (instance_label names i name) r k (imported name) types (string_bytes g.name) g.params.items g.result in
    let HasType : ℕ → InterfaceNames → ℕ → ℕ → Type 0 = λ k names i id. HasTypeIn (instance_label names i name) r k (imported name) types id in
    record {
      interfaces = p.interfaces ∙ interfaces;
      names = p.names ∙ ap (λ (x : Setting). x.around.imported ++ name ∷ []) s;
      types_stay = begins_on (root_scope root).types (root_scope t.root).types (root_scope r).types f.outside p.begins.0;
      functions_stay = p.same ∙ ap (λ (x : Setting). x.around.functions) s;
      instances_stay = subst (λ l. Begins l (root_scope r).instances) instances p.begins.1;
      known = p.known ∙ ap (λ (x : Setting). x.around.known) s;
      homes = p.homes ∙ ap (λ (x : Setting). x.homes) s;
      good = p.good;
      items = subst (λ k. IsInstanceWith r k (imported name) (names_of_types (setting_over root interface) types ids ++ function_names functions)) count
          (subst (IsInstanceWith r (place t) (imported name)) f.names p.items);
      has_types = named_more (setting_over root interface) types (IsGiven t) (HasTypeBeside root r interface name types) ids (λ id h.
          subst (λ k. HasType k (interface_names root) interface id) count (subst (λ i. HasType (place t) (interface_names root) i id) own (subst (λ m. HasType (place t) m t.interface id) interfaces (p.types_are id h)))) f.named;
      has = each_keeps (HasFunctionOf t types) (HasFunctionBeside root r interface name types) functions (λ g h.
          subst (λ k. Has k (interface_names root) interface g) count (subst (λ i. Has (place t) (interface_names root) i g) own (subst (λ m. Has (place t) m t.interface g) interfaces (p.functions (string_bytes g.name) g.params.items g.result h)))) f.has;
    }

pub beside_unready : (A : Type 0) (root : Root) (t : InterfaceTypes) (name : List ℕ) (interface : ℕ) (e : Fault) → inside_setting t ≡ setting_over root interface → IsNamedImportCause t.root name e → IsCause (A ⊎ (is_new (root_names root) name ≡ false)) (Unit {0}) e
beside_unready A root t name interface e s h =
    cause_weaker (λ k. inr (subst (λ l. is_new l name ≡ false) (ap (λ (x : Setting). x.around.imported) s) k)) (λ k. tt) e h
