-- The interfaces of a package hold their types: these and what functions take and give are made of their own and of earlier ones.
use Rattle.std.proofs.Common.{◌≡◌, ℕ, ◌+◌, ◌<◌, Bool, true, false, List, [], ◌∷◌, ◌++◌, ◌⊎◌, inl, inr, length, String, Option, Some, None, map, refl, sym, subst, ap, ◌∙◌, arith}
use Rattle.std.proofs.lemmas.Grind.{flat_map-append}
use Rattle.std.proofs.lemmas.List.Folds.{flat_map-map}
use Rattle.std.proofs.lemmas.List.{append-nil}
use Rattle.std.proofs.lemmas.Option.{same_Some, slice_get_within}
use Rattle.std.specs.Prelude.{slice_get, flat_map, string_bytes, if◌then◌else◌}
use Rattle.std.specs.declared.alloc.Global.{Global}
use Rattle.wit_order.specs.Order as order
use Rattle.wit_types.specs.declared.kind.TypeDefKind.{TypeDefKind}
use Rattle.wit_types.specs.declared.kind.TypeDefKind.TheVariants as kind
use Rattle.wit_types.specs.declared.function.Function.{Function}
use Rattle.wit_types.specs.declared.function.FunctionKind.{FunctionKind}
use Rattle.wit_types.specs.declared.function.FunctionKind.TheVariants as of
use Rattle.wit_types.specs.declared.function.Param.{Param}
use Rattle.wit_types.specs.declared.interface.Interface.{Interface}
use Rattle.wit_types.specs.declared.interface.TypeDef.{TypeDef}
use Rattle.wit_types.specs.declared.interface.TypeOwner.{TypeOwner}
use Rattle.wit_types.specs.declared.interface.TypeOwner.TheVariants as belongs
use Rattle.wit_productions.specs.TypeTree.{TypeOption}
use Rattle.wit_package.specs.Passed.wit_scopes-Members.{MemberKind, MemberTree, used, defined, function, method, static, constructor}
use Rattle.wit_package.specs.Passed.wit_arena-Tree.{Name, Owner, Tree, Trees, resource_leaf, named_tree}
use Rattle.wit_package.specs.Passed.wit_arena-Table.{Entries}
use Rattle.wit_package.specs.Passed.wit_arena-Meaning.{Has, MeansParts, MeansName}
use Rattle.wit_package.specs.Passed.wit_arena-Standing.{HasTree}
use Rattle.wit_package.specs.Passed.wit_arena-Unfold.{Owners, kind_tree, named_kind_tree, owner_of, def_tree_of, trees, IsWhole}
use Rattle.wit_package.proofs.Passed.wit_arena-Lists.{has_map}
use Rattle.wit_package.proofs.Passed.wit_arena-Unfolding.{def_at, option_map_some}
use Rattle.wit_package.specs.Passed.wit_functions-Signature.{IsKindOf}
use Rattle.wit_package.specs.Passed.wit_interfaces-Interfaces.{IsInterfaceIn, AreInterfacesIn}
use Rattle.wit_package.specs.Passed.wit_resolved_scopes-InArena.{Context, IsTypeIn, IsFunctionIn}
use Rattle.wit_package.specs.Passed.wit_resolved_scopes-Meaning.{function_refs, written_parts}
use Rattle.wit_package.specs.Passed.wit_resolved_scopes-Scope.{functions_among}
use Rattle.wit_package.specs.Passed.wit_resolved_scopes-Texts.{InterfaceText}
use Rattle.wit_package.proofs.Passed.wit_resolved_scopes-Orders.{placed}
use Rattle.wit_package.proofs.Passed.wit_resolved_scopes-Eaches.{each_right}
use Rattle.wit_reach.specs.Holding.{IsUpTo, IsMadeUpTo, listed_types, functions_ids, AreNamedOwned, IsTypeUnder, HoldTheirTypes}
use Rattle.wit_reach.specs.Ids.{ref_ids, part_ids, resource_ids, signature_ids, function_ids}
use Rattle.wit_reach.specs.Types.{IsMadeOf}
use Rattle.wit_reach.proofs.Ends.{closed_ends}
use Rattle.wit_reach.proofs.Holding.{has_mapped, has_flat, got}
use Rattle.wit_reach.proofs.Lists.{has_parts}
use Rattle.wit_labels.proofs.Passed.wit_copied_trees-Owners.{IsIn, IsInParts, then_some, parts_within, made_within}
use Rattle.wit_well_formed.proofs.Nameless.{by_name}
use Rattle.wit_well_formed.proofs.Earlier.{IsOwnerUpTo}

-- ---- whose a type is, and its tree

named_in : (done : List (Option Tree)) (w : Owner) (x : Name) (k : TypeDefKind) (t : Tree) → named_kind_tree by_name done w x k ≡ Some t → IsIn w t
named_in done w x kind.Resource t h = subst (IsIn w) (same_Some (resource_leaf w x) t h) refl
named_in done w x kind.Unknown t h = subst (IsIn w) (same_Some (resource_leaf w x) t h) refl
named_in done w x k t h = (let m = option_map_some (named_tree w x) (kind_tree done k) t h in subst (IsIn w) m.2 (inl refl))

module _ (owners : Owners) where
  -- it belongs nowhere, or a name of its owner stands in its tree
  abbrev IsOwned : TypeOwner → Tree → Type 0
  IsOwned o t = (o ≡ belongs.None) ⊎ ((w : Owner) × (owner_of owners o ≡ Some w) × IsIn w t)

  def_owned : (done : List (Option Tree)) (n : Option (String Global)) (o : TypeOwner) (k : TypeDefKind) (t : Tree) → def_tree_of owners by_name done n o k ≡ Some t → IsOwned o t
  def_owned done None belongs.None k t h = inl refl
  def_owned done None (belongs.World w) k t h = absurd cc
  def_owned done None (belongs.Interface i) k t h = absurd cc
  def_owned done (Some x) o k t h =
      let a = then_some (λ (w : Owner). named_kind_tree by_name done w (string_bytes x) k) (owner_of owners o) t h in
      inr (a.0, a.1, named_in done a.0 (string_bytes x) k t a.2)

  named_owned : (done : List (Option Tree)) (x : String Global) (o : TypeOwner) (k : TypeDefKind) (t : Tree) → def_tree_of owners by_name done (Some x) o k ≡ Some t → o ≡ belongs.None → ⊥
  named_owned done x belongs.None k t h e = absurd cc
  named_owned done x (belongs.World w) k t h e = absurd cc
  named_owned done x (belongs.Interface i) k t h e = absurd cc

  module _ (a : List TypeDef) (whole : IsWhole owners by_name a) where
    -- types with names belong somewhere
    are_named_owned : AreNamedOwned a
    are_named_owned i d x at named none =
        let w = def_at owners by_name a i d whole at in
        named_owned (trees owners by_name a) x d.owner d.kind w.0 (subst (λ (n : Option (String Global)). def_tree_of owners by_name (trees owners by_name a) n d.owner d.kind ≡ Some w.0) named w.2) none

    -- ---- what is reached

    -- the id has a tree, in which only those stand
    abbrev HasTreeUpTo : ℕ → ℕ → Type 0
    HasTreeUpTo b i = (u : Tree) × HasTree owners by_name a i u × ((w : Owner) → IsIn w u → IsOwnerUpTo owners b w)

    up_to : (b i : ℕ) (d : TypeDef) → slice_get a i ≡ Some d → HasTreeUpTo b i → IsUpTo b d.owner
    up_to b i d at (u, has, all) =
        let here = def_at owners by_name a i d whole at in
        let same : here.0 ≡ u = same_Some here.0 u (sym here.1 ∙ has) in
        elim (def_owned (trees owners by_name a) d.name d.owner d.kind u (here.2 ∙ ap (λ (t : Tree). Some t) same)) as (λ _. IsUpTo b d.owner) [
          | inl none ↦ subst (IsUpTo b) (sym none) tt
          | inr (w, of, in_it) ↦ all w in_it d.owner of
        ]

    made_step : (b i j : ℕ) → HasTreeUpTo b i → IsMadeOf a i j → HasTreeUpTo b j
    made_step b i j (u, has, all) made = (let r = made_within owners by_name a whole i j u has made in (r.0, r.1, λ w h. all w (r.2 w h)))

    made_up_to : (b i : ℕ) → HasTreeUpTo b i → IsMadeUpTo a b i
    made_up_to b i has k d reach at = up_to b k d at (closed_ends (IsMadeOf a) (HasTreeUpTo b) (made_step b) i reach.0 k has reach.1)

-- ---- what functions are made of

one_of : (j i : ℕ) → order.Has (j ∷ []) i → i ≡ j
one_of j i h = elim h as (λ _. i ≡ j) [ inl e ↦ e | inr none ↦ absurd none ]

-- the resource of a function has a name in the table
pub of_resource : (table : Entries) (m : MemberKind) (k : FunctionKind) → IsKindOf table m k → (i : ℕ) → order.Has (resource_ids k) i → (x : Name) × Has table (x, i)
of_resource table (used t n) k is i h = absurd is
of_resource table (defined t) k is i h = absurd is
of_resource table (function f) k is i h = absurd (by f.is_async (subst (λ (l : FunctionKind). order.Has (resource_ids l) i) is h))
  where
    by : (b : Bool) → order.Has (resource_ids (if b then of.AsyncFreestanding else of.Freestanding)) i → ⊥
    by true k = k
    by false k = k
of_resource table (method r f) k (j, has, is) i h = (r.text, subst (λ (n : ℕ). Has table (r.text, n)) (sym (by f.is_async (subst (λ (l : FunctionKind). order.Has (resource_ids l) i) is h))) has)
  where
    by : (b : Bool) → order.Has (resource_ids (if b then of.AsyncMethod j else of.Method j)) i → i ≡ j
    by true k = one_of j i k
    by false k = one_of j i k
of_resource table (static r f) k (j, has, is) i h = (r.text, subst (λ (n : ℕ). Has table (r.text, n)) (sym (by f.is_async (subst (λ (l : FunctionKind). order.Has (resource_ids l) i) is h))) has)
  where
    by : (b : Bool) → order.Has (resource_ids (if b then of.AsyncStatic j else of.Static j)) i → i ≡ j
    by true k = one_of j i k
    by false k = one_of j i k
of_resource table (constructor r ps t) k (j, has, is) i h = (r.text, subst (λ (n : ℕ). Has table (r.text, n)) (sym (one_of j i (subst (λ (l : FunctionKind). order.Has (resource_ids l) i) is h))) has)

-- its parameters and its result, as parts
pub refs_have : (f : Function) (i : ℕ) → order.Has (signature_ids f) i → order.Has (flat_map part_ids (function_refs f)) i
refs_have f i h =
    let params : flat_map part_ids (map (λ (q : Param). Some q.ty) f.params.items) ≡ flat_map (λ (q : Param). ref_ids q.ty) f.params.items = flat_map-map part_ids (λ (q : Param). Some q.ty) f.params.items in
    let whole : flat_map part_ids (function_refs f) ≡ signature_ids f =
    flat_map-append part_ids (map (λ (q : Param). Some q.ty) f.params.items) (f.result ∷ []) ∙ ap (λ (xs : List ℕ). xs ++ (part_ids f.result ++ [])) params ∙ ap (λ (ys : List ℕ). flat_map (λ (q : Param). ref_ids q.ty) f.params.items ++ ys) (append-nil (part_ids f.result)) in
    subst (λ (xs : List ℕ). order.Has xs i) (sym whole) h

-- ---- an interface

module _ (c : Context) (a : List TypeDef) (whole : IsWhole c.owners by_name a) (n : ℕ) (t : InterfaceText)
    (names : (x : Name) (u : Tree) → MeansName c.me c.scopes by_name t.place x u → (w : Owner) → IsIn w u → IsOwnerUpTo c.owners n w)
    (signatures : (es : List TypeOption) (us : Trees) → MeansParts c.me c.scopes by_name t.place es us → (w : Owner) → IsInParts w us → IsOwnerUpTo c.owners n w) (d : Interface) (is : IsInterfaceIn c a t n d)
  where
    type_in : (e : Name × ℕ) → Has is.table e → (m : MemberTree) × IsTypeIn c t.place (belongs.Interface n) a m e
    type_in e (k, at) = (let r = each_right (IsTypeIn c t.place (belongs.Interface n) a) is.scope.sorted is.table is.scope.types_are k e at in (r.0, r.2))

    entry_in : (e : String Global × ℕ) → order.Has d.types.entries e → Has is.table (string_bytes e.0, e.1)
    entry_in e h = subst (λ (es : Entries). Has es (string_bytes e.0, e.1)) is.is.types (has_map (λ (z : String Global × ℕ). (string_bytes z.0, z.1)) d.types.entries e (placed d.types.entries e h))

    theirs : (e : String Global × ℕ) → order.Has d.types.entries e → IsTypeUnder a n e
    theirs e h =
        let r = type_in (string_bytes e.0, e.1) (entry_in e h) in
        let x = option_map_some (λ (s : String Global). string_bytes s) r.1.def.name r.0.name.text r.1.is.name in
        record { type_def = r.1.def; there = r.1.there; its = r.1.is.owner; own_name = x.0; named = x.1; is = x.2 ∙ sym r.1.name }

    table_uses : (x : Name) (i : ℕ) → Has is.table (x, i) → IsMadeUpTo a n i
    table_uses x i h =
        let r = type_in (x, i) h in
        let s = r.1.means by_name in
        made_up_to c.owners a whole n i (s.0, s.1, names r.0.name.text s.0 s.2)

    types_use : (i : ℕ) → order.Has (listed_types d) i → IsMadeUpTo a n i
    types_use i h =
        let e = has_mapped (λ (z : String Global × ℕ). z.1) d.types.entries i h in
        subst (IsMadeUpTo a n) e.2 (table_uses (string_bytes e.0.0) e.0.1 (entry_in e.0 e.1))

    function_uses : (m : MemberTree) (f : Function) → IsFunctionIn c t.place a is.table m f → (i : ℕ) → order.Has (function_ids f) i → IsMadeUpTo a n i
    function_uses m f stands i h = elim (has_parts (resource_ids f.kind) (signature_ids f) i h) as (λ _. IsMadeUpTo a n i) [
      | inl r ↦ (let x = of_resource is.table m.kind f.kind stands.is.kind i r in table_uses x.0 i x.1)
      | inr s ↦
          let p = stands.means by_name in
          let u = parts_within (trees c.owners by_name a) (function_refs f) p.parts p.unfolds i (refs_have f i s) in
          made_up_to c.owners a whole n i (u.0, u.1, λ w k. signatures (written_parts m) p.parts p.mean w (u.2 w k))
    ]

    functions_use : (i : ℕ) → order.Has (functions_ids d) i → IsMadeUpTo a n i
    functions_use i h =
        let e = has_flat (λ (z : String Global × Function). function_ids z.1) d.functions.entries i h in
        let f : Has is.functions e.0.1 = subst (λ (fs : List Function). Has fs e.0.1) is.is.functions (has_map (λ (z : String Global × Function). z.1) d.functions.entries e.0 (placed d.functions.entries e.0 e.1)) in
        let r = each_right (IsFunctionIn c t.place a is.table) (functions_among t.members) is.functions is.scope.functions_are f.0 e.0.1 f.1 in
        function_uses r.0 e.0.1 r.2 i e.2

-- ---- all of them

module _ (c : Context) (a : List TypeDef) (whole : IsWhole c.owners by_name a) (first : ℕ) (texts : List InterfaceText)
    (names : (m : ℕ) (t : InterfaceText) → slice_get texts m ≡ Some t → (x : Name) (u : Tree) → MeansName c.me c.scopes by_name t.place x u → (w : Owner) → IsIn w u → IsOwnerUpTo c.owners (first + m) w)
    (signatures : (m : ℕ) (t : InterfaceText) → slice_get texts m ≡ Some t → (es : List TypeOption) (us : Trees) → MeansParts c.me c.scopes by_name t.place es us → (w : Owner) → IsInParts w us → IsOwnerUpTo c.owners (first + m) w)
    (own : List Interface) (are : AreInterfacesIn c a first texts own)
  where
    text_of : (k : ℕ) (d : Interface) → slice_get own k ≡ Some d → (t : InterfaceText) × (slice_get texts k ≡ Some t) × IsInterfaceIn c a t (first + k) d
    text_of k d at =
        let within : k < length own = slice_get_within own k d at in
        let size : length own ≡ length texts = are.so_many in
        let t = got texts k (omega (arith, within, size)) in
        (t.0, t.1, are.each k t.0 d t.1 at)

    pub hold_their_types : HoldTheirTypes first a own
    hold_their_types = record {
      named = are_named_owned c.owners a whole;
      theirs = λ k d e at h. (let t = text_of k d at in theirs c a whole (first + k) t.0 (names k t.0 t.1) (signatures k t.0 t.1) d t.2 e h);
      types_use = λ k i d at h. (let t = text_of k d at in types_use c a whole (first + k) t.0 (names k t.0 t.1) (signatures k t.0 t.1) d t.2 i h);
      functions_use = λ k i d at h. (let t = text_of k d at in functions_use c a whole (first + k) t.0 (names k t.0 t.1) (signatures k t.0 t.1) d t.2 i h);
    }
