-- What stays of an interface's text stands in the graph under its name.
use Rattle.std.proofs.Common.{◌≡◌, ◌<◌, ◌≤◌, ℕ, ◌+◌, zero, suc, Bool, true, false, ◌&&◌, List, [], ◌∷◌, ◌++◌, map, length, length-append, take, drop, Option, Some, None, inl, inr, refl, sym, subst, ap, ◌∙◌, arith, append-nil, append_assoc}
use Rattle.std.proofs.lemmas.List.{length-map, length-take-le}
use Rattle.std.proofs.lemmas.Option.{same_Some, slice_get_within, slice_get-map}
use Rattle.std.proofs.lemmas.Bool.{cases_lt}
use Rattle.std.specs.Prelude.{String, option_map, string_bytes, slice_get, if◌then◌else◌}
use Rattle.std.specs.declared.alloc.Global.{Global}
use Rattle.wit_order.specs.Order as order
use Rattle.wit_types.specs.declared.function.Function.{Function}
use Rattle.wit_types.specs.declared.function.FunctionKind.{FunctionKind}
use Rattle.wit_types.specs.declared.function.FunctionKind.TheVariants as of
use Rattle.wit_types.specs.declared.interface.Interface.{Interface}
use Rattle.wit_types.specs.declared.interface.TypeDef.{TypeDef}
use Rattle.wit_types.specs.declared.interface.TypeOwner.{TypeOwner}
use Rattle.wit_types.specs.declared.interface.TypeOwner.TheVariants as belongs
use Rattle.wit_types.specs.declared.stability.Stability.{Stability}
use Rattle.wit_types.specs.declared.«package».UnresolvedPackage.{UnresolvedPackage}
use Rattle.wit_syntax.specs.Ast.{FileTree}
use Rattle.wit_features.specs.Features.{FeatureSet, stays}
use Rattle.wit_offsets.specs.Offsets.{interface_by, function_by, type_def_by, package_at, span_at}
use Rattle.wit_scopes.specs.Members.{MemberKind, MemberTree, used, defined, function, method, static, constructor}
use Rattle.wit_orders.specs.Needs.{types_of, type_entry, AreSorted}
use Rattle.wit_arena.specs.Tree.{Name, Place}
use Rattle.wit_arena.specs.Table.{Entries}
use Rattle.wit_arena.specs.Meaning.{Has}
use Rattle.wit_arena.proofs.Lists.{has_later, has_none, has_map, map_has}
use Rattle.wit_well_formed.specs.Passed.wit_foreign-Items.{interfaces_in}
use Rattle.wit_well_formed.specs.Passed.wit_functions-Signature.{IsKindOf}
use Rattle.wit_well_formed.specs.Passed.wit_resolved_scopes-InArena.{Context, IsTypeIn, IsFunctionIn, IsScopeIn}
use Rattle.wit_well_formed.specs.Passed.wit_resolved_scopes-Scope.{functions_among}
use Rattle.wit_well_formed.specs.Passed.wit_resolved_scopes-Each.{Each}
use Rattle.wit_package_types.specs.Stability.{IsStabilityOf}
use Rattle.wit_reach.proofs.Holding.{got}
use Rattle.wit_well_formed.proofs.Passed.wit_resolved_scopes-Eaches.{each_left, each_right}
use Rattle.wit_well_formed.specs.Passed.wit_interfaces-Interfaces.{named_types, functions_in, AreNamed}
use Rattle.wit_moves.specs.Moved.{Places, is_placed, resource_of}
use Rattle.wit_moves.specs.Interfaces.{AreKept, no_entries, one_goes, one_stays, IsMovedInterface, function_stays}
use Rattle.wit_moves.specs.Plan.{OwnerPlaces, Plan, with_place, with_types, named_stays, is_owner_placed}
use Rattle.wit_moved_trees.proofs.Earlier.{placed_where_stays}
use Rattle.wit_moved_trees.proofs.Moving.{pushed_is}
use Rattle.wit_finding.specs.Own.{with_own, placed}
use Rattle.wit_finding.specs.Types.{type_found}
use Rattle.wit_well_formed.specs.Passed.wit_package-Resolved.{IsResolved}
use Rattle.wit_well_formed.specs.Passed.wit_package-Steps.{Resolves}
use Rattle.wit_plans.specs.Plans.{IsPlanned}
use Rattle.wit_plans.specs.declared.plans.Sizes.{Sizes}
use Rattle.wit_reach.proofs.Growing.{get_same}
use Rattle.wit_well_formed.proofs.Belonging.{other}
use Rattle.wit_well_formed.proofs.Lists.{got_mapped}
use Rattle.wit_graph.specs.Passed.wit_graph_parts-Own.{asked, asked_types, own_parts}
use Rattle.wit_pushed_trees.specs.Staying.{Stays, resource_text, FunctionStays, ListsMembers, IsOwnType, HasResource, HasType, HasFunction, HasMembers, own_interface}
use Rattle.wit_pushed_trees.proofs.Knowing.{same_count}
use Rattle.wit_pushed_trees.proofs.Owning.{dropped, rest}
use Rattle.wit_pushed_trees.proofs.Graphs.{kept_was}
use Rattle.wit_rules.specs.Labels.{full_name}

-- ---- lists

pub some_name : (n : Option (String Global)) (x : Name) → option_map string_bytes n ≡ Some x → (y : String Global) × (n ≡ Some y) × (string_bytes y ≡ x)
some_name None x e = absurd cc
some_name (Some y) x e = (y, refl, same_Some (string_bytes y) x e)

-- what stands at places of a row
pub at_sorted : {X : Type 0} (xs : List X) (is : List ℕ) (ys : List X) → map (slice_get xs) is ≡ map (λ x. Some x) ys → (i : ℕ) (x : X) → order.Has is i → slice_get xs i ≡ Some x → Has ys x
at_sorted xs [] ys are i x has at = absurd has
at_sorted xs (j ∷ is) [] are i x has at = absurd cc
at_sorted xs (j ∷ is) (y ∷ ys) are i x has at =
    let here : slice_get xs j ≡ Some y = cc in
    let later : map (slice_get xs) is ≡ map (λ x. Some x) ys = cc in
    elim has as (λ _. Has (y ∷ ys) x) [
      | inl same ↦ (zero, sym here ∙ (ap (slice_get xs) (sym same) ∙ at))
      | inr rest ↦ has_later y ys x (at_sorted xs is ys later i x rest at)
    ]

-- stands in the row
pub was_sorted : {X : Type 0} (xs : List X) (is : List ℕ) (ys : List X) → map (slice_get xs) is ≡ map (λ x. Some x) ys → (x : X) → Has ys x → Has xs x
was_sorted xs [] [] are x has = absurd (has_none x has)
was_sorted xs [] (y ∷ ys) are x has = absurd cc
was_sorted xs (j ∷ is) [] are x has = absurd (has_none x has)
was_sorted xs (j ∷ is) (y ∷ ys) are x (zero, at) = (let here : slice_get xs j ≡ Some y = cc in (j, here ∙ at))
was_sorted xs (j ∷ is) (y ∷ ys) are x (suc k, at) = (let later : map (slice_get xs) is ≡ map (λ x. Some x) ys = cc in was_sorted xs is ys later x (k, at))

-- what stands behind others in two lists that are equal
same_at : {X Y : Type 0} (f g : X → Y) (xs : List X) (k : ℕ) (x : X) → map f xs ≡ map g xs → slice_get xs k ≡ Some x → f x ≡ g x
same_at f g xs k x same at =
    same_Some (f x) (g x) (sym (slice_get-map f xs k ∙ ap (option_map f) at) ∙ ap (λ (ys : List _). slice_get ys k) same ∙ slice_get-map g xs k ∙ ap (option_map g) at)

-- the parts of a list before and behind a place
record IsSplit {X : Type 0} (xs : List X) (k : ℕ) (x : X) : Type 0 where
  before : List X
  behind : List X
  whole : xs ≡ before ++ x ∷ behind
  so_many : length before ≡ k

split : {X : Type 0} (xs : List X) (k : ℕ) (x : X) → slice_get xs k ≡ Some x → IsSplit xs k x
split [] k x at = absurd cc
split (y ∷ xs) zero x at = record { before = []; behind = xs; whole = ap (λ (z : _). z ∷ xs) (same_Some y x at); so_many = refl }
split (y ∷ xs) (suc k) x at = (let s = split xs k x at in record { before = y ∷ s.before; behind = s.behind; whole = ap (λ (zs : List _). y ∷ zs) s.whole; so_many = ap suc s.so_many })

pub mapped_at : {X : Type 0} (f : X → X) (n : ℕ) (xs : List X) (k : ℕ) (x : X) → slice_get (drop n xs) k ≡ Some x → slice_get (drop n (map f xs)) k ≡ Some (f x)
mapped_at f n xs k x at =
    let here : slice_get xs (n + k) ≡ Some x = sym (dropped n xs k) ∙ at in
    dropped n (map f xs) k ∙ slice_get-map f xs (n + k) ∙ ap (option_map f) here

interface_ids : (i j : ℕ) → belongs.Interface i ≡ belongs.Interface j → i ≡ j
interface_ids i j e = cc

-- ---- a package to which files are resolved

-- the resource of a function is in the table
of_resource : (table : Entries) (mk : MemberKind) (k : FunctionKind) → IsKindOf table mk k → (i : ℕ) → resource_of k ≡ Some i → (x : Name) × (resource_text mk ≡ Some x) × Has table (x, i)
of_resource table (used t n) k is i e = absurd is
of_resource table (defined t) k is i e = absurd is
of_resource table (function f) k is i e = absurd (none f.is_async (ap resource_of (sym is) ∙ e))
  where
    none : (b : Bool) → resource_of (if b then of.AsyncFreestanding else of.Freestanding) ≡ Some i → ⊥
    none true h = cc
    none false h = cc
of_resource table (method r f) k (j, has, is) i e = (r.text, refl, subst (λ (n : ℕ). Has table (r.text, n)) (one f.is_async (ap resource_of (sym is) ∙ e)) has)
  where
    one : (b : Bool) → resource_of (if b then of.AsyncMethod j else of.Method j) ≡ Some i → j ≡ i
    one true h = same_Some j i h
    one false h = same_Some j i h
of_resource table (static r f) k (j, has, is) i e = (r.text, refl, subst (λ (n : ℕ). Has table (r.text, n)) (one f.is_async (ap resource_of (sym is) ∙ e)) has)
  where
    one : (b : Bool) → resource_of (if b then of.AsyncStatic j else of.Static j) ≡ Some i → j ≡ i
    one true h = same_Some j i h
    one false h = same_Some j i h
of_resource table (constructor r ps t) k (j, has, is) i e = (r.text, refl, subst (λ (n : ℕ). Has table (r.text, n)) (same_Some j i (ap resource_of (sym is) ∙ e)) has)

module _ (files : List FileTree) (p : UnresolvedPackage) (r : Resolves files p) where
  abbrev s : IsResolved files p
  s = r.resolved

  -- a type of another package belongs to an interface that is asked for
  unknown_owner : (i : ℕ) (d : TypeDef) → slice_get s.unknown i ≡ Some d → (j : ℕ) × (d.owner ≡ belongs.Interface j)
  unknown_owner i d at =
      let within : i < length s.unknown = slice_get_within s.unknown i d at in
      let so_many = s.unknown_are.so_many_types in
      let e = got s.names i (omega (arith, within, so_many)) in
      let known = s.unknown_are.each i e.0 e.1 in
      let one : known.def ≡ d = same_Some known.def d (sym known.type_at ∙ at) in
      (known.interface, ap (λ (z : TypeDef). z.owner) (sym one) ∙ known.is.owner)

  -- what none of these does is the package's own
  abbrev pub IsOwn : TypeOwner → Type 0
  IsOwn whose = (j : ℕ) → whose ≡ belongs.Interface j → interfaces_in s.items ≤ j

  own_place : (whose : TypeOwner) → IsOwn whose → (i : ℕ) (d : TypeDef) → slice_get p.types i ≡ Some d → d.owner ≡ whose → (m : ℕ) × (i ≡ asked_types p + m) × (slice_get (own_parts p).types m ≡ Some d)
  own_place whose own i d at of =
      elim (cases_lt i (length s.unknown)) as (λ _. (m : ℕ) × (i ≡ asked_types p + m) × (slice_get (own_parts p).types m ≡ Some d)) [
        | inl less ↦ absurd (
            let here : slice_get s.unknown i ≡ Some d = sym (get_same s.unknown s.others i less) ∙ subst (λ (ts : List TypeDef). slice_get ts i ≡ Some d) s.types_are at in
            let o = unknown_owner i d here in
            let low = other files p r i o.0 d here o.1 in
            let past = own o.0 (sym of ∙ o.1) in
            omega (arith, low, past))
        | inr behind ↦
            let types : length s.unknown ≡ length s.names = s.unknown_are.so_many_types in
            let places : asked_types p ≡ length s.names = s.unknown_are.so_many_spans in
            let m = rest (asked_types p) i (omega (arith, behind, types, places)) in
            (m.0, m.1, dropped (asked_types p) p.types m.0 ∙ ap (slice_get p.types) (sym m.1) ∙ at)
      ]

  -- the types of a scope, in their order
  module _ (c : Context) (o : Place) (whose : TypeOwner) (own : IsOwn whose) (ms sorted : List MemberTree) (are_sorted : AreSorted (types_of ms) sorted) (table : Entries) (types_are : Each (IsTypeIn c o whose p.types) sorted table) where
    own_type : (m : MemberTree) (e : Name × ℕ) → IsTypeIn c o whose p.types m e → IsOwnType p whose m e.1
    own_type m e is =
        let place = own_place whose own e.1 is.def is.there is.is.owner in
        let x = some_name is.def.name m.name.text is.is.name in
        record { place = place.0; place_is = place.1; def = is.def; there = place.2; own_name = x.0; named = x.1; owner = is.is.owner; gates = is.is.stability }

    -- the entry of a type in the table
    pub record IsEntered (m : MemberTree) : Type 0 where
      pub number : ℕ
      pub entry : Name × ℕ
      pub there : slice_get table number ≡ Some entry
      pub name : entry.0 ≡ m.name.text
      pub is : IsOwnType p whose m entry.1

    pub entered : (m : MemberTree) → Has (types_of ms) m → IsEntered m
    entered m (i, at) =
        let within : i < length (types_of ms) = slice_get_within (types_of ms) i m at in
        let all = are_sorted.1.is_order.all i (subst (λ (n : ℕ). i < n) (sym (length-map (types_of ms) type_entry)) within) in
        let h = at_sorted (types_of ms) are_sorted.0 sorted are_sorted.2 i m all at in
        let e = each_left (IsTypeIn c o whose p.types) sorted table types_are h.0 m h.1 in
        record { number = h.0; entry = e.0; there = e.1; name = e.2.name; is = own_type m e.0 e.2 }

    pub has_resource : (mk : MemberKind) (f : Function) → IsKindOf table mk f.kind → HasResource p whose ms mk f
    has_resource mk f is i e =
        let x = of_resource table mk f.kind is i e in
        let n = each_right (IsTypeIn c o whose p.types) sorted table types_are x.2.0 (x.0, i) x.2.1 in
        (n.0, was_sorted (types_of ms) are_sorted.0 sorted are_sorted.2 n.0 (x.2.0, n.1), x.1 ∙ ap (λ (y : Name). Some y) n.2.name, own_type n.0 (x.0, i) n.2)

  module _ (c : Context) (o : Place) (k : ℕ) (ms : List MemberTree) (d : Interface) (table : Entries) (fs : List Function) (past : interfaces_in s.items ≤ k) (types : named_types d.types.entries ≡ table)
      (functions : functions_in d.functions.entries ≡ fs) (named : AreNamed d.functions.entries) (scope : IsScopeIn c o (belongs.Interface k) p.types ms table fs) where
    abbrev scope_owner : TypeOwner
    scope_owner = belongs.Interface k

    none_asked : IsOwn scope_owner
    none_asked j e = (let same : k ≡ j = interface_ids k j e in omega (arith, same, past))

    has_types : (m : MemberTree) → Has (types_of ms) m → HasType p scope_owner d.types.entries m
    has_types m has =
        let t = entered c o scope_owner none_asked ms scope.sorted scope.are_sorted table scope.types_are m has in
        let entry = got_mapped (λ (x : String Global × ℕ). (string_bytes x.0, x.1)) d.types.entries t.number t.entry (subst (λ (es : Entries). slice_get es t.number ≡ Some t.entry) (sym types) t.there) in
        record {
          name = entry.0.0;
          type_id = t.entry.1;
          listed = (t.number, entry.1 ∙ ap (λ (i : ℕ). Some (entry.0.0, i)) (ap (λ (z : Name × ℕ). z.1) entry.2));
          text = ap (λ (z : Name × ℕ). z.0) entry.2 ∙ t.name;
          is = t.is;
        }

    has_functions : (m : MemberTree) → Has (functions_among ms) m → HasFunction p scope_owner ms d.functions.entries m
    has_functions m (j, at) =
        let f = each_left (IsFunctionIn c o p.types table) (functions_among ms) fs scope.functions_are j m at in
        let entry = got_mapped (λ (x : String Global × Function). x.1) d.functions.entries j f.0 (subst (λ (gs : List Function). slice_get gs j ≡ Some f.0) (sym functions) f.1) in
        let name = same_at (λ (x : String Global × Function). string_bytes x.0) (λ (x : String Global × Function). string_bytes x.1.name) d.functions.entries j entry.0 named entry.1 in
        record {
          name = entry.0.0;
          made = f.0;
          listed = (j, entry.1 ∙ ap (λ (g : Function). Some (entry.0.0, g)) entry.2);
          text = name ∙ ap (λ (g : Function). string_bytes g.name) entry.2 ∙ f.2.is.name;
          gates = f.2.is.stability;
          resource = has_resource c o scope_owner none_asked ms scope.sorted scope.are_sorted table scope.types_are m.kind f.0 f.2.is.kind;
        }

    only_types : (x : String Global) (i : ℕ) → Has d.types.entries (x, i) → (m : MemberTree) × Has (types_of ms) m × (string_bytes x ≡ m.name.text) × IsOwnType p scope_owner m i
    only_types x i (n, at) =
        let text : String Global × ℕ → Name × ℕ = λ e. (string_bytes e.0, e.1) in
        let there : slice_get table n ≡ Some (string_bytes x, i) = subst (λ (es : Entries). slice_get es n ≡ Some (string_bytes x, i)) types (slice_get-map text d.types.entries n ∙ ap (option_map text) at) in
        let t = each_right (IsTypeIn c o scope_owner p.types) scope.sorted table scope.types_are n (string_bytes x, i) there in
        (t.0, was_sorted (types_of ms) scope.are_sorted.0 scope.sorted scope.are_sorted.2 t.0 (n, t.1), t.2.name, own_type c o scope_owner none_asked ms scope.sorted scope.are_sorted table scope.types_are t.0 (string_bytes x, i) t.2)

    only_functions : (x : String Global) (f : Function) → Has d.functions.entries (x, f) → (m : MemberTree) × Has (functions_among ms) m × (string_bytes x ≡ full_name m.kind m.name) × IsStabilityOf m.attributes f.stability
    only_functions x f (n, at) =
        let value : String Global × Function → Function = λ e. e.1 in
        let there : slice_get fs n ≡ Some f = subst (λ (gs : List Function). slice_get gs n ≡ Some f) functions (slice_get-map value d.functions.entries n ∙ ap (option_map value) at) in
        let t = each_right (IsFunctionIn c o p.types table) (functions_among ms) fs scope.functions_are n f there in
        let name = same_at (λ (e : String Global × Function). string_bytes e.0) (λ (e : String Global × Function). string_bytes e.1.name) d.functions.entries n (x, f) named at in
        (t.0, (n, t.1), name ∙ t.2.is.name, t.2.is.stability)

    pub resolved_members : HasMembers p scope_owner ms d
    resolved_members = record { types = has_types; only_types = only_types; functions = has_functions; only_functions = only_functions }

-- ---- places that move

module _ (p : UnresolvedPackage) (n : ℕ) (whose : TypeOwner) where
  same_types : asked_types (package_at n p) ≡ asked_types p
  same_types = same_count n p

  pub moved_type : (m : MemberTree) (i : ℕ) → IsOwnType p whose m i → IsOwnType (package_at n p) whose m i
  moved_type m i h = record {
    place = h.place;
    place_is = h.place_is ∙ ap (λ (a : ℕ). a + h.place) (sym same_types);
    def = type_def_by (span_at n) h.def;
    there = subst (λ (a : ℕ). slice_get (drop a (map (type_def_by (span_at n)) p.types)) h.place ≡ Some (type_def_by (span_at n) h.def)) (sym same_types) (mapped_at (type_def_by (span_at n)) (asked_types p) p.types h.place h.def h.there);
    own_name = h.own_name;
    named = h.named;
    owner = h.owner;
    gates = h.gates;
  }

  pub moved_resource : (ms : List MemberTree) (k : MemberKind) (f : Function) → HasResource p whose ms k f → HasResource (package_at n p) whose ms k (function_by (span_at n) f)
  moved_resource ms k f h i e = (let g = h i e in (g.0, g.1, g.2, moved_type g.0 i g.3))

  pub moved_members : (ms : List MemberTree) (d : Interface) → HasMembers p whose ms d → HasMembers (package_at n p) whose ms (interface_by (span_at n) d)
  moved_members ms d h = record {
    types = λ m has. (let t = h.types m has in record { name = t.name; type_id = t.type_id; listed = t.listed; text = t.text; is = moved_type m t.type_id t.is });
    only_types = λ x i has. (let t = h.only_types x i has in (t.0, t.1, t.2, moved_type t.0 i t.3));
    only_functions = λ x f has. (
        let e = map_has (λ (e : String Global × Function). (e.0, function_by (span_at n) e.1)) d.functions.entries (x, f) has in
        let t = h.only_functions e.0.0 e.0.1 e.1 in
        (t.0, t.1, ap (λ (y : String Global × Function). string_bytes y.0) e.2 ∙ t.2, subst (λ (g : Function). IsStabilityOf t.0.attributes g.stability) (sym (ap (λ (y : String Global × Function). y.1) e.2)) t.3));
    functions = λ m has. (
        let f = h.functions m has in record {
          name = f.name;
          made = function_by (span_at n) f.made;
          listed = has_map (λ (e : String Global × Function). (e.0, function_by (span_at n) e.1)) d.functions.entries (f.name, f.made) f.listed;
          text = f.text;
          gates = f.gates;
          resource = moved_resource ms m.kind f.made f.resource;
        });
  }

-- ---- what stays

-- an entry of a value that stays has one
pub kept_has : {K V : Type 0} (keeps : V → Bool) (changes : V → V → Type 0) (es fs : List (K × V)) → AreKept keeps changes es fs → (k : K) (v : V) → Has es (k, v) → keeps v ≡ true → (w : V) × Has fs (k, w) × changes v w
kept_has keeps changes es fs no_entries k v has stay = absurd (has_none (k, v) has)
kept_has keeps changes es fs (one_goes l u gs hs goes more) k v (zero, at) stay = absurd (let bad : true ≡ false = sym stay ∙ (ap (λ (e : _). keeps e.1) (sym (same_Some (l, u) (k, v) at)) ∙ goes) in cc)
kept_has keeps changes es fs (one_goes l u gs hs goes more) k v (suc i, at) stay = kept_has keeps changes gs hs more k v (i, at) stay
kept_has keeps changes es fs (one_stays l u w gs hs stays_there is more) k v (zero, at) stay =
    let same = same_Some (l, u) (k, v) at in
    (w, (zero, ap (λ (x : _). Some (x, w)) (ap (λ (e : _). e.0) same)), subst (λ (x : _). changes x w) (ap (λ (e : _). e.1) same) is)
kept_has keeps changes es fs (one_stays l u w gs hs stays_there is more) k v (suc i, at) stay = (let r = kept_has keeps changes gs hs more k v (i, at) stay in (r.0, has_later (l, w) hs (k, r.0) r.1, r.2))

pub own_grows : (features : FeatureSet) (p : Plan) (ss : List Stability) → (more : Places) × ((with_own features p ss).places ≡ p.places ++ more)
own_grows features p [] = ([], sym (append-nil p.places))
own_grows features p (s ∷ ss) = one (stays features s) (λ b. own_grows features (with_place b p) ss)
  where
    one : (b : Bool) → ((c : Bool) → (more : Places) × ((with_own features (with_place c p) ss).places ≡ (with_place c p).places ++ more)) → (more : Places) × ((with_own features (with_place b p) ss).places ≡ p.places ++ more)
    one true grows = (let r = grows true in (Some p.next ∷ r.0, r.1 ∙ append_assoc p.places (Some p.next ∷ []) r.0))
    one false grows = (let r = grows false in (None ∷ r.0, r.1 ∙ append_assoc p.places (None ∷ []) r.0))

-- one of a package's own has a place where its gates let it stay
pub own_placed : (features : FeatureSet) (p : Plan) (ss : List Stability) (k : ℕ) (s : Stability) → slice_get ss k ≡ Some s → is_placed (with_own features p ss).places (length p.places + k) ≡ stays features s
own_placed features p [] k s at = absurd cc
own_placed features p (t ∷ ss) zero s at =
    let more = own_grows features (with_place (stays features t) p) ss in
    ap (is_placed (with_own features p (t ∷ ss)).places) (omega arith) ∙ ap (λ (ps : Places). is_placed ps (length p.places)) more.1 ∙ pushed_is (stays features t) p more.0 ∙ ap (stays features) (same_Some t s at)
own_placed features p (t ∷ ss) (suc k) s at =
    ap (is_placed (with_own features p (t ∷ ss)).places) (next (stays features t)) ∙ own_placed features (with_place (stays features t) p) ss k s at
  where
    next : (b : Bool) → length p.places + suc k ≡ length (with_place b p).places + k
    next true = (let e = length-append p.places (Some p.next ∷ []) in omega (arith, e))
    next false = (let e = length-append p.places (None ∷ []) in omega (arith, e))

module _ (features : FeatureSet) (graph : List Interface) (sizes : Sizes) (foreign owners : OwnerPlaces) (p : UnresolvedPackage) (places : Places) (planned : IsPlanned features graph sizes foreign (own_parts p) owners places) where
  -- a type has a place where its gates let it stay and what it belongs to has one
  pub type_is_placed : (whose : TypeOwner) (m : MemberTree) (i : ℕ) → (h : IsOwnType p whose m i) → is_placed places i ≡ (stays features h.def.stability && is_owner_placed owners h.def.owner)
  type_is_placed whose m i h =
      let cut = split (own_parts p).types h.place h.def h.there in
      let others : Places = map (type_found graph foreign.interfaces) (own_parts p).unknown in
      let within : asked_types p + h.place < length p.types = slice_get_within p.types (asked_types p + h.place) h.def (sym (dropped (asked_types p) p.types h.place) ∙ h.there) in
      let most : asked_types p ≤ length p.types = omega (arith, within) in
      let sized : length others ≡ asked_types p = length-map (take (asked_types p) p.types) (type_found graph foreign.interfaces) ∙ length-take-le (asked_types p) p.types most in
      let are = planned.types_are.are ∙ ap (λ (ds : List TypeDef). (with_types features owners (record { places = others; next = sizes.types }) ds).places) cut.whole in
      let place : i ≡ length others + length cut.before = (let is = h.place_is in let many = cut.so_many in omega (arith, is, sized, many)) in
      ap (is_placed places) place ∙ placed_where_stays features owners others places sizes.types cut.before cut.behind h.def are
      ∙ ap (named_stays features owners (with_types features owners (record { places = others; next = sizes.types }) cut.before).places h.def) h.named

  -- so it stays where its gates let it and what it belongs to does
  pub type_placed : (whose : TypeOwner) → is_owner_placed owners whose ≡ true → (m : MemberTree) (i : ℕ) → IsOwnType p whose m i → Stays features m.attributes → is_placed places i ≡ true
  type_placed whose there m i h stay = type_is_placed whose m i h ∙ and_true (stay h.def.stability h.gates) (ap (is_owner_placed owners) h.owner ∙ there)
    where
      and_true : {a b : Bool} → a ≡ true → b ≡ true → (a && b) ≡ true
      and_true x y = rw (x, y) refl

  -- and a function, where its gates let it and its resource does
  pub function_kept : (whose : TypeOwner) → is_owner_placed owners whose ≡ true → (ms : List MemberTree) (m : MemberTree) (f : Function) → IsStabilityOf m.attributes f.stability → HasResource p whose ms m.kind f → FunctionStays features ms m
      → function_stays features places f ≡ true
  function_kept whose there ms m f gates resource keep = by (resource_of f.kind) refl
    where
      by : (o : Option ℕ) → resource_of f.kind ≡ o → function_stays features places f ≡ true
      by None of = rw (keep.gates f.stability gates, of) refl
      by (Some i) of =
          let g = resource i of in
          let here : is_placed places i ≡ true = type_placed whose there g.0 i g.3 (keep.resource g.0 g.1 g.2) in
          rw (keep.gates f.stability gates, of, here) refl

  interface_placed : length foreign.interfaces ≡ (asked p).interfaces → (k : ℕ) (d : Interface) → slice_get (own_parts p).interfaces k ≡ Some d → stays features d.stability ≡ true → is_owner_placed owners (own_interface p k) ≡ true
  interface_placed so_many k d at stay =
      let gates : List Stability = map (λ (e : Interface). e.stability) (own_parts p).interfaces in
      let gate : slice_get gates k ≡ Some d.stability = slice_get-map (λ (e : Interface). e.stability) (own_parts p).interfaces k ∙ ap (option_map (λ (e : Interface). e.stability)) at in
      let there = own_placed features (record { places = foreign.interfaces; next = sizes.interfaces }) gates k d.stability gate in
      ap (λ (o : OwnerPlaces). is_placed o.interfaces ((asked p).interfaces + k)) planned.owners_are ∙ ap (λ (n : ℕ). is_placed (placed features foreign.interfaces sizes.interfaces gates) (n + k)) (sym so_many) ∙ there ∙ stay

  -- what stays of an interface's members stands in it
  pub members_listed : length foreign.interfaces ≡ (asked p).interfaces → (ms : List MemberTree) (k owner : ℕ) (d e : Interface) → slice_get (own_parts p).interfaces k ≡ Some d → stays features d.stability ≡ true → HasMembers p (own_interface p k) ms d
      → IsMovedInterface features places owner d e → ListsMembers features ms e
  members_listed so_many ms k owner d e at stay h moved = record {
    types = λ m has keep. (
        let t = h.types m has in
        let w = kept_has (is_placed places) _ d.types.entries e.types.entries moved.types t.name t.type_id t.listed (type_placed (own_interface p k) there m t.type_id t.is keep) in
        (t.name, w.0, w.1, t.text));
    only_types = λ x j has. (
        let w = kept_was (is_placed places) _ d.types.entries e.types.entries moved.types x j has in
        let t = h.only_types x w.0 w.1 in
        (t.0, t.1, t.2, (t.3.def.stability, t.3.gates, first_true (stays features t.3.def.stability) _ (sym (type_is_placed (own_interface p k) t.0 w.0 t.3) ∙ w.2))));
    only_functions = λ x g has. (
        let w = kept_was (function_stays features places) _ d.functions.entries e.functions.entries moved.functions x g has in
        let t = h.only_functions x w.0 w.1 in
        (t.0, t.1, t.2, (w.0.stability, t.3, first_true (stays features w.0.stability) _ w.2)));
    functions = λ m has keep. (
        let f = h.functions m has in
        let w = kept_has (function_stays features places) _ d.functions.entries e.functions.entries moved.functions f.name f.made f.listed (function_kept (own_interface p k) there ms m f.made f.gates f.resource keep) in
        (f.name, w.0, w.1, f.text));
  }
    where
      there : is_owner_placed owners (own_interface p k) ≡ true
      there = interface_placed so_many k d at stay

      first_true : (a b : Bool) → (a && b) ≡ true → a ≡ true
      first_true true b e = refl
      first_true false b e = e
