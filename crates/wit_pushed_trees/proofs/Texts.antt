-- Packages to which files are resolved mean what their texts do.
use Rattle.std.proofs.Common.{◌≡◌, ℕ, ◌+◌, ◌<◌, ◌≤◌, Bool, true, false, List, [], ◌∷◌, map, length, Some, String, inl, inr, refl, sym, subst, ap, ◌∙◌, arith}
use Rattle.std.proofs.lemmas.Option.{slice_get_within}
use Rattle.std.specs.Prelude.{if◌then◌else◌, slice_get, flat_map, string_bytes}
use Rattle.std.specs.declared.alloc.Global.{Global}
use Rattle.wit_syntax.specs.Ast.{FileTree}
use Rattle.wit_words.specs.declared.source_map.Span.{Span}
use Rattle.wit_types.specs.declared.function.Function.{Function}
use Rattle.wit_types.specs.declared.interface.Interface.{Interface}
use Rattle.wit_types.specs.declared.interface.TypeDef.{TypeDef}
use Rattle.wit_types.specs.declared.interface.TypeOwner.{TypeOwner}
use Rattle.wit_types.specs.declared.interface.TypeOwner.TheVariants as belongs
use Rattle.wit_types.specs.declared.«package».UnresolvedPackage.{UnresolvedPackage}
use Rattle.wit_types.specs.declared.stability.Stability.{Stability}
use Rattle.wit_types.specs.declared.world.World.{World}
use Rattle.wit_types.specs.declared.world.WorldInclude.{WorldInclude}
use Rattle.wit_types.specs.declared.world.WorldItem.TheVariants as item
use Rattle.wit_types.specs.declared.world_key.WorldKey.{WorldKey}
use Rattle.wit_types.specs.WorldKey.{placed, known}
use Rattle.wit_scopes.specs.declared.worlds.Side.{Side}
use Rattle.wit_scopes.specs.declared.worlds.Side.TheVariants.{Import, Export}
use Rattle.wit_arena.specs.LowerKind.{Label}
use Rattle.wit_arena.specs.LowerParams.{written_param, param_label}
use Rattle.wit_well_formed.specs.Passed.wit_functions-Signature.{all_params, IsKindOf}
use Rattle.wit_items.specs.ItemTree.{ParamTree}
use Rattle.wit_types.specs.declared.function.Param.{Param}
use Rattle.wit_types.specs.declared.function.FunctionKind.{FunctionKind}
use Rattle.wit_types.specs.declared.function.FunctionKind.TheVariants as of
use Rattle.wit_scopes.specs.Members.{MemberTree, MemberKind, used, defined, function, method, static, constructor}
use Rattle.wit_scopes.specs.Scopes as scope
use Rattle.wit_scopes.specs.Scopes.{WorldScope, WorldMemberTree, ListedTree, ExternKind}
use Rattle.wit_arena.specs.Tree.{Name, Place, in_world, in_listed, Owner, Tree, in_interface}
use Rattle.wit_arena.specs.Table.{Entries}
use Rattle.wit_arena.specs.Standing.{Stands}
use Rattle.wit_arena.specs.Meaning.{Has}
use Rattle.wit_arena.proofs.Lists.{has_none, has_here, has_map}
use Rattle.wit_well_formed.specs.Passed.wit_foreign-Items.{interfaces_in, worlds_in}
use Rattle.wit_well_formed.specs.Passed.wit_interfaces-Interfaces.{IsInterfaceIn}
use Rattle.wit_well_formed.proofs.Passed.wit_interfaces-Behind.{get_either}
use Rattle.wit_well_formed.proofs.Passed.wit_readiness-Flat.{in_flat, flat_has, has_one}
use Rattle.wit_well_formed.specs.Passed.wit_resolved_scopes-Each.{Each}
use Rattle.wit_well_formed.specs.Passed.wit_resolved_scopes-InArena.{Context, own_owner, IsTypeIn, IsFunctionIn}
use Rattle.wit_well_formed.specs.Passed.wit_resolved_scopes-Scope.{function_of, member_function, functions_among}
use Rattle.wit_well_formed.specs.Passed.wit_resolved_scopes-Texts.{InterfaceText, interface_texts, own_member, own_members, listed_member, at_side, side_member, side_members, includes_of, worlds_of}
use Rattle.wit_well_formed.proofs.Passed.wit_resolved_scopes-Eaches.{each_right}
use Rattle.wit_well_formed.specs.Passed.wit_worlds-Worlds.{Entry, function_member, target_owner, IsTypeEntry, IsFunctionEntry, IsExternEntry, IsEntryOf, IsIncludeOf, IsWorldIn}
use Rattle.wit_well_formed.specs.Passed.wit_package-Resolved.{context_of, IsResolved}
use Rattle.wit_well_formed.specs.Passed.wit_package-Steps.{Resolves}
use Rattle.wit_reach.proofs.Holding.{got}
use Rattle.wit_well_formed.proofs.Belonging.{counted, worlds_are_counted}
use Rattle.wit_well_formed.proofs.Lists.{get_drop}
use Rattle.wit_graph.specs.Passed.wit_graph_parts-Own.{asked, own_parts}
use Rattle.wit_package_types.specs.Stability.{IsStabilityOf}
use Rattle.wit_orders.specs.Needs.{types_of, AreSorted}
use Rattle.wit_pushed_trees.proofs.Resolved.{name_in, named_place, text_owned}
use Rattle.wit_pushed_trees.proofs.Staying.{was_sorted}
use Rattle.wit_pushed_trees.specs.Meaning.{FunctionSort, is_freestanding, is_method, is_static, sort_of, written_sort, IsKindMeant, param_names, written_names, IsFunctionMeant, IsInterfaceMeant, IsOfText}
use Rattle.wit_pushed_trees.specs.Worlds.{IsTextOf, all_kept, IsTypeWritten, IsTypeMeant, IsGiven, IsOwnFunctionMeant, extern_owner, listed_key, IsInterfaceListed, IsIncludeMeant, IsWorldMeant}
use Rattle.wit_pushed_trees.specs.Packages.{ResolvedPackagesMeanTheirTexts}

-- what is one of a kind
function_is : (f g : Function) → item.Function f ≡ item.Function g → f ≡ g
function_is f g e = cc

type_is : (i j : ℕ) (s t : Span) → item.TypeItem i s ≡ item.TypeItem j t → i ≡ j
type_is i j s t e = cc

interface_is : (i j : ℕ) (s t : Stability) (x y : Span) → item.Interface i s x ≡ item.Interface j t y → i ≡ j
interface_is i j s t x y e = cc

gate_is : (i j : ℕ) (s t : Stability) (x y : Span) → item.Interface i s x ≡ item.Interface j t y → s ≡ t
gate_is i j s t x y e = cc

listed_is : (l k : ListedTree) → scope.listed l ≡ scope.listed k → l ≡ k
listed_is l k e = cc

member_is : (m n : MemberTree) → scope.member m ≡ scope.member n → m ≡ n
member_is m n e = cc

-- names of parameters are those that are written
names_are : (f : Function) (m : MemberTree) → map param_label f.params.items ≡ map written_param (all_params m) → param_names f ≡ written_names m
names_are f m e =
    seen_names (λ (p : Param). string_bytes p.name) param_label (λ p. refl) f.params.items ∙ ap (map (λ (l : Label). l.name)) e ∙ sym (seen_names (λ (p : ParamTree). p.name.text) written_param (λ p. refl) (all_params m))
  where
    seen_names : {X : Type 0} (g : X → Name) (label : X → Label) → ((x : X) → g x ≡ (label x).name) → (xs : List X) → map g xs ≡ map (λ (l : Label). l.name) (map label xs)
    seen_names g label same [] = refl
    seen_names g label same (x ∷ xs) = ap (λ (n : Name). n ∷ map g xs) (same x) ∙ ap (λ (ns : List Name). (label x).name ∷ ns) (seen_names g label same xs)

-- it is of the sort that is written
sort_if : (b : Bool) (k l : FunctionKind) (sort : Bool → FunctionSort) → sort_of k ≡ sort true → sort_of l ≡ sort false → sort_of (if b then k else l) ≡ sort b
sort_if true k l sort e f = e
sort_if false k l sort e f = f

pub sort_is : (stands : Name → ℕ → Type 0) (k : MemberKind) (fk : FunctionKind) → IsKindMeant stands k fk → sort_of fk ≡ written_sort k
sort_is stands (used t n) fk is = absurd is
sort_is stands (defined t) fk is = absurd is
sort_is stands (function f) fk is = ap sort_of is ∙ sort_if f.is_async of.AsyncFreestanding of.Freestanding (λ b. is_freestanding b) refl refl
sort_is stands (method r f) fk is = ap sort_of is.2 ∙ sort_if f.is_async (of.AsyncMethod is.0) (of.Method is.0) (λ b. is_method b) refl refl
sort_is stands (static r f) fk is = ap sort_of is.2 ∙ sort_if f.is_async (of.AsyncStatic is.0) (of.Static is.0) (λ b. is_static b) refl refl
sort_is stands (constructor r ps t) fk is = ap sort_of is.2

-- it is of the resource of the scope that has the name
kind_meant : (stands : Name → ℕ → Type 0) (table : Entries) → ((x : Name) (i : ℕ) → Has table (x, i) → stands x i) → (k : MemberKind) (fk : FunctionKind) → IsKindOf table k fk → IsKindMeant stands k fk
kind_meant stands table named (used t n) fk is = absurd is
kind_meant stands table named (defined t) fk is = absurd is
kind_meant stands table named (function f) fk is = is
kind_meant stands table named (method r f) fk is = (is.0, named r.text is.0 is.1, is.2)
kind_meant stands table named (static r f) fk is = (is.0, named r.text is.0 is.1, is.2)
kind_meant stands table named (constructor r ps t) fk is = (is.0, named r.text is.0 is.1, is.2)

-- so it is where the name stands for the same
pub member_kind_same : (old new : Name → ℕ → Type 0) → ((x : Name) (i : ℕ) → old x i → new x i) → (k : MemberKind) (fk : FunctionKind) → IsKindMeant old k fk → IsKindMeant new k fk
member_kind_same old new same (used t n) fk is = absurd is
member_kind_same old new same (defined t) fk is = absurd is
member_kind_same old new same (function f) fk is = is
member_kind_same old new same (method r f) fk is = (is.0, same r.text is.0 is.1, is.2)
member_kind_same old new same (static r f) fk is = (is.0, same r.text is.0 is.1, is.2)
member_kind_same old new same (constructor r ps t) fk is = (is.0, same r.text is.0 is.1, is.2)

-- each name of a scope's types stands for what it means
names_mean : (given : Owner → Name → Tree) (c : Context) (a : List TypeDef) (o : Place) (whose : TypeOwner) (sorted : List MemberTree) (table : Entries) → Each (IsTypeIn c o whose a) sorted table → (x : Name) (i : ℕ) → Has table (x, i) → Stands c.me c.scopes given c.owners a o x i
names_mean given c a o whose sorted table each x i (n, at) =
    let m = each_right (IsTypeIn c o whose a) sorted table each n (x, i) at in
    subst (λ (y : Name). Stands c.me c.scopes given c.owners a o y i) (sym m.2.name) (m.2.means given)

-- and in a world is that of the member that has it
types_written : (c : Context) (a : List TypeDef) (o : Place) (world : ℕ) (ms sorted : List MemberTree) → AreSorted (types_of ms) sorted → (table : Entries) → Each (IsTypeIn c o (belongs.World world) a) sorted table → (x : Name) (i : ℕ) → Has table (x, i) → IsTypeWritten all_kept a ms x i
types_written c a o world ms sorted are_sorted table each x i (n, at) =
    let m = each_right (IsTypeIn c o (belongs.World world) a) sorted table each n (x, i) at in
    record {
      member = m.0;
      written = was_sorted (types_of ms) are_sorted.0 sorted are_sorted.2 m.0 (n, m.1);
      spelled_as = m.2.name;
      def = m.2.def;
      there = m.2.there;
      named = m.2.is.name ∙ ap (λ (y : Name). Some y) (sym m.2.name);
      world = world;
      owner = m.2.is.owner;
      gates = (m.2.is.stability, refl);
    }

-- a function of a scope that is one of these members
abbrev in_scope : (given : Owner → Name → Tree) (c : Context) (a : List TypeDef) (o : Place) (ms : List MemberTree) (table : Entries) → ((x : Name) (i : ℕ) → Has table (x, i) → Stands c.me c.scopes given c.owners a o x i)
    → (m : MemberTree) (f : Function) → Has (functions_among ms) m → IsFunctionIn c o a table m f → IsFunctionMeant given c c.owners a o ms f
in_scope given c a o ms table mean m f written is = record {
  member = m;
  written = written;
  named = is.is.name;
  params_named = names_are f m is.is.labels;
  kind = kind_meant (λ (x : Name) (i : ℕ). Stands c.me c.scopes given c.owners a o x i) table mean m.kind f.kind is.is.kind;
  means = is.means given;
}

-- ---- interfaces

interface_meant : (given : Owner → Name → Tree) (c : Context) (a : List TypeDef) (t : InterfaceText) (id : ℕ) (d : Interface) → IsInterfaceIn c a t id d → ((x : Name) → t.name ≡ Some x → t.place ≡ in_interface x) → IsInterfaceMeant given c c.owners a t d
interface_meant given c a t id d is at_name = record {
  placed = λ x named. at_name (string_bytes x) (name_in d x t.name is.is.name named);
  names = λ x i has.
      let listed : Has is.table (string_bytes x, i) = subst (λ es. Has es (string_bytes x, i)) is.is.types (has_map (λ (e : String Global × ℕ). (string_bytes e.0, e.1)) d.types.entries (x, i) has) in
      names_mean given c a t.place (belongs.Interface id) is.scope.sorted is.table is.scope.types_are (string_bytes x) i listed;
  functions = λ x f has.
      let listed : Has is.functions f = subst (λ fs. Has fs f) is.is.functions (has_map (λ (e : String Global × Function). e.1) d.functions.entries (x, f) has) in
      let m = each_right (IsFunctionIn c t.place a is.table) (functions_among t.members) is.functions is.scope.functions_are listed.0 f listed.1 in
      in_scope given c a t.place t.members is.table (names_mean given c a t.place (belongs.Interface id) is.scope.sorted is.table is.scope.types_are) m.0 f (listed.0, m.1) m.2;
}

-- ---- what stands for what in a world

at_side_is : (s t : Side) (x y : WorldMemberTree) → Has (at_side s t x) y → y ≡ x
at_side_is Import Import x y h = has_one x y h
at_side_is Import Export x y h = absurd (has_none y h)
at_side_is Export Import x y h = absurd (has_none y h)
at_side_is Export Export x y h = has_one x y h

at_side_on : (s t : Side) (x y : WorldMemberTree) → Has (at_side s t x) y → t ≡ s
at_side_on Import Import x y h = refl
at_side_on Import Export x y h = absurd (has_none y h)
at_side_on Export Import x y h = absurd (has_none y h)
at_side_on Export Export x y h = refl

-- a function that a member gives
member_of : (side : Side) (fs : List MemberTree) (y : WorldMemberTree) → Has (flat_map (λ f. at_side side Import (scope.member f)) fs) y → (f : MemberTree) × Has fs f × (y ≡ scope.member f)
member_of side fs y h =
    let r = in_flat (λ (f : MemberTree). at_side side Import (scope.member f)) fs y h in
    (r.0, r.1, at_side_is side Import (scope.member r.0) y r.2)

module _ (ws : List WorldMemberTree) (side : Side) where
  -- a function of a resource of the world is one of its functions
  member_among : (m : MemberTree) → Has (side_members side ws) (scope.member m) → Has (functions_among (own_members ws)) m
  member_among m h = (let r = in_flat (side_member side) ws (scope.member m) h in of r.0 r.1 r.2)
    where
      of : (x : WorldMemberTree) → Has ws x → Has (side_member side x) (scope.member m) → Has (functions_among (own_members ws)) m
      of (scope.member n) has given =
          let f = member_of side (function_of n.kind n) (scope.member m) given in
          let same : m ≡ f.0 = member_is m f.0 f.2 in
          flat_has member_function (own_members ws) n m (flat_has own_member ws (scope.member n) n has (has_here n [])) (subst (λ (z : MemberTree). Has (member_function n) z) (sym same) f.1)
      of (scope.listed l) has given = absurd (let e : scope.member m ≡ scope.listed l = at_side_is side l.side (scope.listed l) (scope.member m) given in cc)
      of (scope.included i) has given = absurd (has_none (scope.member m) given)

  -- what is listed is a member, of that side
  pub listed_on : (l : ListedTree) → Has (side_members side ws) (scope.listed l) → Has ws (scope.listed l) × (l.side ≡ side)
  listed_on l h = (let r = in_flat (side_member side) ws (scope.listed l) h in of r.0 r.1 r.2)
    where
      of : (x : WorldMemberTree) → Has ws x → Has (side_member side x) (scope.listed l) → Has ws (scope.listed l) × (l.side ≡ side)
      of (scope.member n) has given = absurd (let f = member_of side (function_of n.kind n) (scope.listed l) given in let e : scope.listed l ≡ scope.member f.0 = f.2 in cc)
      of (scope.listed k) has given =
          let same : scope.listed l ≡ scope.listed k = at_side_is side k.side (scope.listed k) (scope.listed l) given in
          (subst (Has ws) (sym same) has, ap (λ (y : ListedTree). y.side) (listed_is l k same) ∙ at_side_on side k.side (scope.listed k) (scope.listed l) given)
      of (scope.included i) has given = absurd (has_none (scope.listed l) given)

module _ (c : Context) (n : Name) (a : List TypeDef) (table : Entries) where
  -- an import or export that the text lists is no type
  extern_no_type : (l : ListedTree) (k : ExternKind) (e : Entry) → IsExternEntry c n a table l k e → (j : ℕ) (span : Span) → e.1 ≡ item.TypeItem j span → ⊥
  extern_no_type l (scope.ExternKind.function f) e h j span is = (let q : item.TypeItem j span ≡ item.Function h.made = sym is ∙ h.item in cc)
  extern_no_type l (scope.ExternKind.interface ms) e h j span is = (let q : item.TypeItem j span ≡ item.Interface h.id h.stability l.name.span = sym is ∙ h.item in cc)
  extern_no_type l (scope.item t) e h j span is = (let q : item.TypeItem j span ≡ item.Interface h.id h.stability l.name.span = sym is ∙ h.item in cc)

  no_type : (x : WorldMemberTree) (e : Entry) → IsEntryOf c n a table x e → (j : ℕ) (span : Span) → e.1 ≡ item.TypeItem j span → ⊥
  no_type (scope.member m) e h j span is = (let q : item.TypeItem j span ≡ item.Function h.made = sym is ∙ h.item in cc)
  no_type (scope.listed l) e h j span is = extern_no_type l l.kind e h j span is
  no_type (scope.included i) e h j span is = h

  -- a function that stands for a member
  abbrev IsOfMember : List WorldMemberTree → WorldMemberTree → Function → Type 0
  IsOfMember ws x f = (m : MemberTree) × Has (functions_among (own_members ws)) m × IsFunctionIn c (in_world n) a table m f × IsGiven x m

  made_is : (ws : List WorldMemberTree) (x : WorldMemberTree) (m : MemberTree) (e : Entry) (f : Function) → Has (functions_among (own_members ws)) m → IsGiven x m → (h : IsFunctionEntry c (in_world n) a table m e) → e.1 ≡ item.Function f → IsOfMember ws x f
  made_is ws x m e f has gives h is = (m, has, subst (IsFunctionIn c (in_world n) a table m) (function_is h.made f (sym h.item ∙ is)) h.is, gives)

  extern_function : (ws : List WorldMemberTree) (l : ListedTree) → Has ws (scope.listed l) → (k : ExternKind) → l.kind ≡ k → (e : Entry) → IsExternEntry c n a table l k e → (f : Function) → e.1 ≡ item.Function f → IsOfMember ws (scope.listed l) f
  extern_function ws l has (scope.ExternKind.function g) kind e h f is =
      let m : MemberTree = function_member l g in
      let among : Has (own_members ws) m = flat_has own_member ws (scope.listed l) m has (subst (λ (k : ExternKind). Has (listed_member l k) m) (sym kind) (has_here m [])) in
      made_is ws (scope.listed l) m e f (flat_has member_function (own_members ws) m m among (has_here m [])) (g, kind, refl) h is
  extern_function ws l has (scope.ExternKind.interface ms) kind e h f is = absurd (let q : item.Function f ≡ item.Interface h.id h.stability l.name.span = sym is ∙ h.item in cc)
  extern_function ws l has (scope.item t) kind e h f is = absurd (let q : item.Function f ≡ item.Interface h.id h.stability l.name.span = sym is ∙ h.item in cc)

  entry_function : (ws : List WorldMemberTree) (side : Side) (x : WorldMemberTree) (e : Entry) → Has (side_members side ws) x → IsEntryOf c n a table x e → (f : Function) → e.1 ≡ item.Function f → IsOfMember ws x f
  entry_function ws side (scope.member m) e has h f is = made_is ws (scope.member m) m e f (member_among ws side m has) refl h is
  entry_function ws side (scope.listed l) e has h f is = extern_function ws l (listed_on ws side l has).0 l.kind refl e h f is
  entry_function ws side (scope.included i) e has h f is = absurd h

  -- and an interface for what is listed
  abbrev IsOfListed : List WorldMemberTree → Side → WorldKey → ℕ → Stability → Type 0
  IsOfListed ws side key i gate =
      (l : ListedTree) × Has ws (scope.listed l) × (l.side ≡ side) × (w : Owner) × (extern_owner c n l l.kind ≡ Some w) × (slice_get c.owners.interfaces i ≡ Some w) × (known key ≡ listed_key l l.kind i) × IsStabilityOf l.attributes gate

  extern_interface : (ws : List WorldMemberTree) (side : Side) (l : ListedTree) → Has ws (scope.listed l) → l.side ≡ side → (k : ExternKind) → l.kind ≡ k → (e : Entry) → IsExternEntry c n a table l k e → (i : ℕ) (gate : Stability) (span : Span) → e.1 ≡ item.Interface i gate span
      → IsOfListed ws side e.0 i gate
  extern_interface ws side l has on (scope.ExternKind.function f) kind e h i gate span is = absurd (let q : item.Interface i gate span ≡ item.Function h.made = sym is ∙ h.item in cc)
  extern_interface ws side l has on (scope.ExternKind.interface ms) kind e h i gate span is =
      let same : i ≡ h.id = interface_is i h.id gate h.stability span l.name.span (sym is ∙ h.item) in
      let gates : IsStabilityOf l.attributes gate = subst (IsStabilityOf l.attributes) (sym (gate_is i h.id gate h.stability span l.name.span (sym is ∙ h.item))) h.gates in
      (l, has, on, own_owner c (in_listed n l.side l.name.text), ap (extern_owner c n l) kind, ap (slice_get c.owners.interfaces) same ∙ h.owner, h.key ∙ ap (λ (k : ExternKind). listed_key l k i) (sym kind), gates)
  extern_interface ws side l has on (scope.item t) kind e h i gate span is =
      let same : i ≡ h.id = interface_is i h.id gate h.stability span l.name.span (sym is ∙ h.item) in
      let gates : IsStabilityOf l.attributes gate = subst (IsStabilityOf l.attributes) (sym (gate_is i h.id gate h.stability span l.name.span (sym is ∙ h.item))) h.gates in
      (l, has, on, target_owner c.me in_interface t, ap (extern_owner c n l) kind, ap (slice_get c.owners.interfaces) same ∙ h.owner, h.key ∙ ap placed (sym same) ∙ ap (λ (k : ExternKind). listed_key l k i) (sym kind), gates)

  entry_interface : (ws : List WorldMemberTree) (side : Side) (x : WorldMemberTree) (e : Entry) → Has (side_members side ws) x → IsEntryOf c n a table x e → (i : ℕ) (gate : Stability) (span : Span) → e.1 ≡ item.Interface i gate span → IsOfListed ws side e.0 i gate
  entry_interface ws side (scope.member m) e has h i gate span is = absurd (let q : item.Interface i gate span ≡ item.Function h.made = sym is ∙ h.item in cc)
  entry_interface ws side (scope.listed l) e has h i gate span is = (let on = listed_on ws side l has in extern_interface ws side l on.0 on.1 l.kind refl e h i gate span is)
  entry_interface ws side (scope.included y) e has h i gate span is = absurd h

-- ---- one world

module _ (given : Owner → Name → Tree) (c : Context) (a : List TypeDef) (w : WorldScope) (id : ℕ) (d : World) (is : IsWorldIn c a w id d) (ws : List WorldScope) (there : Has ws w) where
  abbrev o : Name
  o = w.name.text

  text : IsTextOf all_kept ws d.name d.stability w
  text = record { there = there; named = is.name; gates = (is.stability, refl) }

  written : (x : Name) (i : ℕ) → Has is.table (x, i) → IsTypeWritten all_kept a (own_members w.members) x i
  written = types_written c a (in_world o) id (own_members w.members) is.sorted is.are_sorted is.table is.types_are

  type_meant : (k : WorldKey) (i : ℕ) (span : Span) → Has d.imports.entries (k, item.TypeItem i span) → IsTypeMeant all_kept given c c.owners a ws d.name d.stability k i
  type_meant k i span has =
      elim (get_either is.type_entries is.other_imports has.0 (k, item.TypeItem i span) (subst (λ es. slice_get es has.0 ≡ Some (k, item.TypeItem i span)) is.imports_are has.1)) as (λ _. IsTypeMeant all_kept given c c.owners a ws d.name d.stability k i) [
        | inl own ↦
            let e = each_right (IsTypeEntry a) is.table is.type_entries is.type_entries_are has.0 (k, item.TypeItem i span) own in
            let t : Name × ℕ = e.0 in
            let same : i ≡ t.1 = type_is i t.1 span e.2.def.span e.2.item in
            let of = each_right (IsTypeIn c (in_world o) (belongs.World id) a) is.sorted is.table is.types_are has.0 t e.1 in
            record {
              text = w;
              is_text = text;
              spelling = t.0;
              known_by = e.2.key;
              means = subst (λ (z : ℕ). Stands c.me c.scopes given c.owners a (in_world o) t.0 z) (sym same) (subst (λ (x : Name). Stands c.me c.scopes given c.owners a (in_world o) x t.1) (sym of.2.name) (of.2.means given));
              written = subst (λ (z : ℕ). IsTypeWritten all_kept a (own_members w.members) t.0 z) (sym same) (written t.0 t.1 (has.0, e.1));
            }
        | inr other ↦ absurd (
            let e = each_right (IsEntryOf c o a is.table) (side_members Import w.members) is.other_imports is.lists_are.imports_are other.0 (k, item.TypeItem i span) other.2 in
            no_type c o a is.table e.0 (k, item.TypeItem i span) e.2 i span refl)
      ]

  side_function : (side : Side) (es : List Entry) → Each (IsEntryOf c o a is.table) (side_members side w.members) es → (n : ℕ) (k : WorldKey) (f : Function) → slice_get es n ≡ Some (k, item.Function f) → IsOwnFunctionMeant all_kept given c c.owners a ws d.name d.stability side f
  side_function side es each n k f at =
      let e = each_right (IsEntryOf c o a is.table) (side_members side w.members) es each n (k, item.Function f) at in
      let of = entry_function c o a is.table w.members side e.0 (k, item.Function f) (n, e.1) e.2 f refl in
      record { text = w; is_text = text; is = in_scope given c a (in_world o) (own_members w.members) is.table (names_mean given c a (in_world o) (belongs.World id) is.sorted is.table is.types_are) of.0 f of.1 of.2; giver = e.0; on_side = (n, e.1); gives = of.3; gates = (of.2.is.stability, refl); resource = kind_meant (λ (x : Name) (i : ℕ). IsTypeWritten all_kept a (own_members w.members) x i) is.table written of.0.kind f.kind of.2.is.kind }

  side_interface : (side : Side) (es : List Entry) → Each (IsEntryOf c o a is.table) (side_members side w.members) es → (n : ℕ) (k : WorldKey) (i : ℕ) (gate : Stability) (span : Span) → slice_get es n ≡ Some (k, item.Interface i gate span)
      → IsInterfaceListed all_kept c c.owners ws d.name d.stability side k i gate
  side_interface side es each n k i gate span at =
      let e = each_right (IsEntryOf c o a is.table) (side_members side w.members) es each n (k, item.Interface i gate span) at in
      let of = entry_interface c o a is.table w.members side e.0 (k, item.Interface i gate span) (n, e.1) e.2 i gate span refl in
      record { text = w; is_text = text; listed = of.0; there = of.1; side_is = of.2; whose = of.3; listed_as = of.4; owner = of.5; keyed = of.6; gates = (of.7, refl) }

  import_listed : (k : WorldKey) (i : ℕ) (gate : Stability) (span : Span) → Has d.imports.entries (k, item.Interface i gate span) → IsInterfaceListed all_kept c c.owners ws d.name d.stability Import k i gate
  import_listed k i gate span has =
      elim (get_either is.type_entries is.other_imports has.0 (k, item.Interface i gate span) (subst (λ es. slice_get es has.0 ≡ Some (k, item.Interface i gate span)) is.imports_are has.1)) as (λ _. IsInterfaceListed all_kept c c.owners ws d.name d.stability Import k i gate) [
        | inl own ↦ absurd (
            let e = each_right (IsTypeEntry a) is.table is.type_entries is.type_entries_are has.0 (k, item.Interface i gate span) own in
            let q : item.Interface i gate span ≡ item.TypeItem e.0.1 e.2.def.span = e.2.item in cc)
        | inr other ↦ side_interface Import is.other_imports is.lists_are.imports_are other.0 k i gate span other.2
      ]

  include_meant : (n : WorldInclude) → Has d.includes.items n → IsIncludeMeant all_kept c c.owners ws d.name d.stability n
  include_meant n has =
      let e = each_right (IsIncludeOf c) (includes_of w.members) d.includes.items is.lists_are.includes_are has.0 n has.1 in
      record { text = w; is_text = text; written = e.0; there = (has.0, e.1); owner = e.2.owner; names = e.2.names; gates = (e.2.stability, refl) }

  import_meant : (k : WorldKey) (f : Function) → Has d.imports.entries (k, item.Function f) → IsOwnFunctionMeant all_kept given c c.owners a ws d.name d.stability Import f
  import_meant k f has =
      elim (get_either is.type_entries is.other_imports has.0 (k, item.Function f) (subst (λ es. slice_get es has.0 ≡ Some (k, item.Function f)) is.imports_are has.1)) as (λ _. IsOwnFunctionMeant all_kept given c c.owners a ws d.name d.stability Import f) [
        | inl own ↦ absurd (
            let e = each_right (IsTypeEntry a) is.table is.type_entries is.type_entries_are has.0 (k, item.Function f) own in
            let q : item.Function f ≡ item.TypeItem e.0.1 e.2.def.span = e.2.item in cc)
        | inr other ↦ side_function Import is.other_imports is.lists_are.imports_are other.0 k f other.2
      ]

  world_meant : IsWorldMeant all_kept given c c.owners a ws d.name d.stability d.imports.entries d.exports.entries d.includes.items
  world_meant = record {
    text = w;
    is_text = text;
    own_types = type_meant;
    imported_functions = import_meant;
    exported_functions = λ k f has. side_function Export d.exports.entries is.lists_are.exports_are has.0 k f has.1;
    imported = import_listed;
    exported = λ k i gate span has. side_interface Export d.exports.entries is.lists_are.exports_are has.0 k i gate span has.1;
    no_exported_types = λ k i span has.
        let e = each_right (IsEntryOf c o a is.table) (side_members Export w.members) d.exports.entries is.lists_are.exports_are has.0 (k, item.TypeItem i span) has.1 in
        no_type c o a is.table e.0 (k, item.TypeItem i span) e.2 i span refl;
    included = include_meant;
  }

-- ---- a package

module _ (files : List FileTree) (p : UnresolvedPackage) (r : Resolves files p) where
  abbrev s : IsResolved files p
  s = r.resolved

  abbrev c : Context
  c = context_of s.me files s.items s.sorted

  own_interface : (given : Owner → Name → Tree) (i : ℕ) (d : Interface) → slice_get (own_parts p).interfaces i ≡ Some d → IsOfText given c c.owners p.types (interface_texts s.sorted) ((asked p).interfaces + i) d
  own_interface given i d at =
      let behind = get_drop (asked p).interfaces p.interfaces i d at in
      let so_many : length s.foreign_interfaces ≡ interfaces_in s.items = s.foreign_are.so_many_interfaces in
      let most : interfaces_in s.items ≤ (asked p).interfaces = counted files p r in
      elim (get_either s.foreign_interfaces s.own_interfaces ((asked p).interfaces + i) d (subst (λ (ds : List Interface). slice_get ds ((asked p).interfaces + i) ≡ Some d) s.interfaces_are behind)) as (λ _. IsOfText given c c.owners p.types (interface_texts s.sorted) ((asked p).interfaces + i) d) [
        | inl other ↦ absurd (
            let within : (asked p).interfaces + i < length s.foreign_interfaces = slice_get_within s.foreign_interfaces ((asked p).interfaces + i) d other in
            omega (arith, within, so_many, most))
        | inr o ↦
            let within : o.0 < length s.own_interfaces = slice_get_within s.own_interfaces o.0 d o.2 in
            let size = s.own_interfaces_are.so_many in
            let t = got (interface_texts s.sorted) o.0 (omega (arith, within, size)) in
            (t.0, (o.0, t.1), ap (slice_get c.owners.interfaces) o.1 ∙ text_owned files p r o.0 t.0 t.1, interface_meant given c p.types t.0 (length s.foreign_interfaces + o.0) d (s.own_interfaces_are.each o.0 t.0 d t.1 o.2) (λ x named. named_place s.sorted o.0 t.0 x t.1 named))
      ]

  own_world : (given : Owner → Name → Tree) (i : ℕ) (w : World) → slice_get (own_parts p).worlds i ≡ Some w → IsWorldMeant all_kept given c c.owners p.types (worlds_of s.sorted) w.name w.stability w.imports.entries w.exports.entries w.includes.items
  own_world given i w at =
      let n : ℕ = (asked p).worlds + i in
      let behind : slice_get p.worlds n ≡ Some w = get_drop (asked p).worlds p.worlds i w at in
      elim (get_either s.foreign_worlds s.own_worlds n w (subst (λ (ws : List World). slice_get ws n ≡ Some w) s.worlds_are behind)) as (λ _. IsWorldMeant all_kept given c c.owners p.types (worlds_of s.sorted) w.name w.stability w.imports.entries w.exports.entries w.includes.items) [
        | inl other ↦
            let within : n < length s.foreign_worlds = slice_get_within s.foreign_worlds n w other in
            let so_many : length s.foreign_worlds ≡ worlds_in s.items = s.foreign_are.so_many_worlds in
            let most : worlds_in s.items ≤ (asked p).worlds = worlds_are_counted files p r in
            absurd (omega (arith, within, so_many, most))
        | inr o ↦
            let within : o.0 < length s.own_worlds = slice_get_within s.own_worlds o.0 w o.2 in
            let size = s.own_worlds_are.so_many in
            let t = got (worlds_of s.sorted) o.0 (omega (arith, within, size)) in
            world_meant given c p.types t.0 (length s.foreign_worlds + o.0) w (s.own_worlds_are.each o.0 t.0 w t.1 o.2) (worlds_of s.sorted) (o.0, t.1)
      ]

pub resolved_meant : ResolvedPackagesMeanTheirTexts
resolved_meant files p r = record { whole = r.resolved.whole; each_interface = own_interface files p r; each_world = own_world files p r }
