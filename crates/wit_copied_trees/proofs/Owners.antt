-- Whose the names are that stand in trees, and what a type is made of: its tree stands in the type's own.
use Rattle.std.proofs.Common.{◌≡◌, ℕ, Bool, true, false, List, [], ◌∷◌, ◌⊎◌, inl, inr, Option, Some, None, refl, sym, subst, ap, ◌∙◌, map}
use Rattle.std.proofs.lemmas.List.Folds.{flat_map-map}
use Rattle.std.proofs.lemmas.Option.{same_Some}
use Rattle.std.specs.Prelude.{slice_get, option_map, flat_map, String, string_bytes, if◌then◌else◌}
use Rattle.std.specs.declared.alloc.Global.{Global}
use Rattle.wit_arena.specs.Passed.wit_types-declared-kind-Type.{«Type» as Ref}
use Rattle.wit_arena.specs.Passed.wit_types-declared-kind-Type-TheVariants as ref
use Rattle.wit_arena.specs.Passed.wit_types-declared-kind-Handle.{Handle}
use Rattle.wit_arena.specs.Passed.wit_types-declared-kind-Handle-TheVariants as handle
use Rattle.wit_arena.specs.Passed.wit_types-declared-kind-Field.{Field}
use Rattle.wit_arena.specs.Passed.wit_types-declared-kind-Case.{Case}
use Rattle.wit_arena.specs.Passed.wit_types-declared-kind-TypeDefKind.{TypeDefKind}
use Rattle.wit_arena.specs.Passed.wit_types-declared-kind-TypeDefKind-TheVariants as kind
use Rattle.wit_arena.specs.Passed.wit_types-declared-interface-TypeDef.{TypeDef}
use Rattle.wit_arena.specs.Passed.wit_types-declared-interface-TypeOwner.{TypeOwner}
use Rattle.wit_arena.specs.Passed.wit_types-declared-interface-TypeOwner-TheVariants as belongs
use Rattle.wit_arena.specs.Passed.wit_order-Order.{Has}
use Rattle.wit_includes.specs.Passed.wit_reach-Ids.{ref_ids, part_ids, handle_ids, kind_ids}
use Rattle.wit_includes.specs.Passed.wit_reach-Types.{IsMadeOf}
use Rattle.wit_includes.proofs.Passed.wit_reach-Lists.{has_parts}
use Rattle.wit_arena.specs.Tree.{Name, Owner, Tree, TreeOption, Trees, no_tree, a_tree, no_trees, trees_and, primitive, list_tree, fixed_length_list_tree, option_tree, tuple_tree, result_tree, future_tree, stream_tree, own_tree, borrow_tree, record_tree, flags_tree, enum_tree, variant_tree, resource_leaf, named_tree, is_resource, value_of}
use Rattle.wit_arena.specs.Unfold.{Owners, flat, and_then, ref_tree, value_tree, part_tree, part_trees, handle_tree, kind_tree, named_kind_tree, owner_of, nameless_tree, def_tree_of, trees, IsWhole}
use Rattle.wit_arena.specs.Standing.{HasTree}
use Rattle.wit_arena.proofs.Unfolding.{option_map_some, def_at}

abbrev mutual
  -- a name or a resource of that owner stands in it, however deep
  pub IsIn : Owner → Tree → Type 0
  IsIn w (primitive p) = ⊥
  IsIn w (list_tree t) = IsIn w t
  IsIn w (fixed_length_list_tree t n) = IsIn w t
  IsIn w (option_tree t) = IsIn w t
  IsIn w (tuple_tree ts) = IsInParts w ts
  IsIn w (result_tree ok err) = IsInPart w ok ⊎ IsInPart w err
  IsIn w (future_tree t) = IsInPart w t
  IsIn w (stream_tree t) = IsInPart w t
  IsIn w (own_tree t) = IsIn w t
  IsIn w (borrow_tree t) = IsIn w t
  IsIn w (record_tree names ts) = IsInParts w ts
  IsIn w (flags_tree names) = ⊥
  IsIn w (enum_tree names) = ⊥
  IsIn w (variant_tree names ts) = IsInParts w ts
  IsIn w (resource_leaf o x) = w ≡ o
  IsIn w (named_tree o x t) = (w ≡ o) ⊎ IsIn w t

  pub IsInPart : Owner → TreeOption → Type 0
  IsInPart w no_tree = ⊥
  IsInPart w (a_tree t) = IsIn w t

  pub IsInParts : Owner → Trees → Type 0
  IsInParts w no_trees = ⊥
  IsInParts w (trees_and t ts) = IsInPart w t ⊎ IsInParts w ts

-- where a value is asked the same stand in it
pub value_has : (w : Owner) (t : Tree) → IsIn w t → IsIn w (value_of t)
value_has w t h = by (is_resource t)
  where
    by : (b : Bool) → IsIn w (if b then own_tree t else t)
    by true = h
    by false = h

pub has_value : (w : Owner) (t : Tree) → IsIn w (value_of t) → IsIn w t
has_value w t h = by (is_resource t) h
  where
    by : (b : Bool) → IsIn w (if b then own_tree t else t) → IsIn w t
    by true k = k
    by false k = k

pub then_some : {X Y : Type 0} (f : X → Option Y) (o : Option X) (y : Y) → and_then f o ≡ Some y → (x : X) × (o ≡ Some x) × (f x ≡ Some y)
then_some f None y h = absurd cc
then_some f (Some x) y h = (x, refl, h)

abbrev pub InTree : Tree → Owner → Type 0
InTree t w = IsIn w t

abbrev InPart : TreeOption → Owner → Type 0
InPart t w = IsInPart w t

abbrev pub InParts : Trees → Owner → Type 0
InParts ts w = IsInParts w ts

-- ---- over some trees

module _ (done : List (Option Tree)) where
  -- the id has a tree, in which only those stand
  abbrev pub HasWithin : ℕ → (Owner → Type 0) → Type 0
  HasWithin j Among = (u : Tree) × (flat (slice_get done j) ≡ Some u) × ((w : Owner) → IsIn w u → Among w)

  widened : (j : ℕ) (P Q : Owner → Type 0) → ((w : Owner) → P w → Q w) → HasWithin j P → HasWithin j Q
  widened j P Q more (u, at, all) = (u, at, λ w h. more w (all w h))

  one_within : (i : ℕ) (t : Tree) → flat (slice_get done i) ≡ Some t → (j : ℕ) → Has (i ∷ []) j → HasWithin j (InTree t)
  one_within i t h j has = elim has as (λ _. HasWithin j (InTree t)) [ inl same ↦ subst (λ (n : ℕ). HasWithin n (InTree t)) (sym same) (t, h, λ w a. a) | inr none ↦ absurd none ]

  ref_within : (r : Ref) (t : Tree) → ref_tree done r ≡ Some t → (j : ℕ) → Has (ref_ids r) j → HasWithin j (InTree t)
  ref_within (ref.Id i) t h j has = one_within i t h j has
  ref_within _ t h j has = absurd has

  value_within : (r : Ref) (t : Tree) → value_tree done r ≡ Some t → (j : ℕ) → Has (ref_ids r) j → HasWithin j (InTree t)
  value_within r t h j has =
      let m = option_map_some value_of (ref_tree done r) t h in
      subst (λ (s : Tree). HasWithin j (InTree s)) m.2 (widened j (InTree m.0) (InTree (value_of m.0)) (λ w. value_has w m.0) (ref_within r m.0 m.1 j has))

  part_within : (p : Option Ref) (t : TreeOption) → part_tree done p ≡ Some t → (j : ℕ) → Has (part_ids p) j → HasWithin j (InPart t)
  part_within None t h j has = absurd has
  part_within (Some r) t h j has = (let m = option_map_some a_tree (value_tree done r) t h in subst (λ (s : TreeOption). HasWithin j (InPart s)) m.2 (value_within r m.0 m.1 j has))

  pub parts_within : (ps : List (Option Ref)) (ts : Trees) → part_trees done ps ≡ Some ts → (j : ℕ) → Has (flat_map part_ids ps) j → HasWithin j (InParts ts)
  parts_within [] ts h j has = absurd has
  parts_within (p ∷ ps) ts h j has =
      let a = then_some (λ (t : TreeOption). option_map (trees_and t) (part_trees done ps)) (part_tree done p) ts h in
      let b = option_map_some (trees_and a.0) (part_trees done ps) ts a.2 in
      subst (λ (s : Trees). HasWithin j (InParts s)) b.2 (elim (has_parts (part_ids p) (flat_map part_ids ps) j has) as (λ _. HasWithin j (InParts (trees_and a.0 b.0))) [
        | inl first ↦ widened j (InPart a.0) (InParts (trees_and a.0 b.0)) (λ w k. inl k) (part_within p a.0 a.1 j first)
        | inr later ↦ widened j (InParts b.0) (InParts (trees_and a.0 b.0)) (λ w k. inr k) (parts_within ps b.0 b.1 j later)
      ])

  handle_within : (x : Handle) (t : Tree) → handle_tree done x ≡ Some t → (j : ℕ) → Has (handle_ids x) j → HasWithin j (InTree t)
  handle_within (handle.Own i) t h j has = (let m = option_map_some own_tree (flat (slice_get done i)) t h in subst (λ (s : Tree). HasWithin j (InTree s)) m.2 (one_within i m.0 m.1 j has))
  handle_within (handle.Borrow i) t h j has = (let m = option_map_some borrow_tree (flat (slice_get done i)) t h in subst (λ (s : Tree). HasWithin j (InTree s)) m.2 (one_within i m.0 m.1 j has))

  -- a row of parts, by what each is of
  row_within : {X : Type 0} (f : X → Option Ref) (xs : List X) (ts : Trees) → part_trees done (map f xs) ≡ Some ts → (j : ℕ) → Has (flat_map (λ (x : X). part_ids (f x)) xs) j → HasWithin j (InParts ts)
  row_within {X} f xs ts h j has = parts_within (map f xs) ts h j (subst (λ (is : List ℕ). Has is j) (sym (flat_map-map part_ids f xs)) has)

  kind_within : (k : TypeDefKind) (t : Tree) → kind_tree done k ≡ Some t → (j : ℕ) → Has (kind_ids k) j → HasWithin j (InTree t)
  kind_within (kind.Record r) t h j has =
      let m = option_map_some (record_tree (map (λ (f : Field). string_bytes f.name) r.fields.items)) (part_trees done (map (λ (f : Field). Some f.ty) r.fields.items)) t h in
      subst (λ (s : Tree). HasWithin j (InTree s)) m.2 (row_within (λ (f : Field). Some f.ty) r.fields.items m.0 m.1 j has)
  kind_within kind.Resource t h j has = absurd has
  kind_within (kind.Handle x) t h j has = handle_within x t h j has
  kind_within (kind.Flags x) t h j has = absurd has
  kind_within (kind.Tuple u) t h j has =
      let m = option_map_some tuple_tree (part_trees done (map (λ (r : Ref). Some r) u.types.items)) t h in
      subst (λ (s : Tree). HasWithin j (InTree s)) m.2 (row_within (λ (r : Ref). Some r) u.types.items m.0 m.1 j has)
  kind_within (kind.Variant v) t h j has =
      let m = option_map_some (variant_tree (map (λ (c : Case). string_bytes c.name) v.cases.items)) (part_trees done (map (λ (c : Case). c.ty) v.cases.items)) t h in
      subst (λ (s : Tree). HasWithin j (InTree s)) m.2 (row_within (λ (c : Case). c.ty) v.cases.items m.0 m.1 j has)
  kind_within (kind.Enum x) t h j has = absurd has
  kind_within (kind.Option r) t h j has = (let m = option_map_some option_tree (value_tree done r) t h in subst (λ (s : Tree). HasWithin j (InTree s)) m.2 (value_within r m.0 m.1 j has))
  kind_within (kind.Result r) t h j has =
      let a = then_some (λ (u : TreeOption). option_map (result_tree u) (part_tree done r.err)) (part_tree done r.ok) t h in
      let b = option_map_some (result_tree a.0) (part_tree done r.err) t a.2 in
      subst (λ (s : Tree). HasWithin j (InTree s)) b.2 (elim (has_parts (part_ids r.ok) (part_ids r.err) j has) as (λ _. HasWithin j (InTree (result_tree a.0 b.0))) [
        | inl ok ↦ widened j (InPart a.0) (InTree (result_tree a.0 b.0)) (λ w k. inl k) (part_within r.ok a.0 a.1 j ok)
        | inr err ↦ widened j (InPart b.0) (InTree (result_tree a.0 b.0)) (λ w k. inr k) (part_within r.err b.0 b.1 j err)
      ])
  kind_within (kind.List r) t h j has = (let m = option_map_some list_tree (value_tree done r) t h in subst (λ (s : Tree). HasWithin j (InTree s)) m.2 (value_within r m.0 m.1 j has))
  kind_within (kind.FixedLengthList r n) t h j has =
      let m = option_map_some (λ (u : Tree). fixed_length_list_tree u n) (value_tree done r) t h in
      subst (λ (s : Tree). HasWithin j (InTree s)) m.2 (value_within r m.0 m.1 j has)
  kind_within (kind.Future p) t h j has = (let m = option_map_some future_tree (part_tree done p) t h in subst (λ (s : Tree). HasWithin j (InTree s)) m.2 (part_within p m.0 m.1 j has))
  kind_within (kind.Stream p) t h j has = (let m = option_map_some stream_tree (part_tree done p) t h in subst (λ (s : Tree). HasWithin j (InTree s)) m.2 (part_within p m.0 m.1 j has))
  kind_within (kind.Alias r) t h j has = ref_within r t h j has
  kind_within kind.Unknown t h j has = absurd has

  named_within : (given : Owner → Name → Tree) (o : Owner) (x : Name) (k : TypeDefKind) (t : Tree) → named_kind_tree given done o x k ≡ Some t → (j : ℕ) → Has (kind_ids k) j → HasWithin j (InTree t)
  named_within given o x kind.Resource t h j has = absurd has
  named_within given o x kind.Unknown t h j has = absurd has
  named_within given o x k t h j has =
      let m = option_map_some (named_tree o x) (kind_tree done k) t h in
      subst (λ (s : Tree). HasWithin j (InTree s)) m.2 (widened j (InTree m.0) (InTree (named_tree o x m.0)) (λ w i. inr i) (kind_within k m.0 m.1 j has))

  nameless_within : (o : TypeOwner) (k : TypeDefKind) (t : Tree) → nameless_tree done o k ≡ Some t → (j : ℕ) → Has (kind_ids k) j → HasWithin j (InTree t)
  nameless_within belongs.None k t h j has = kind_within k t h j has
  nameless_within (belongs.World w) k t h j has = absurd cc
  nameless_within (belongs.Interface i) k t h j has = absurd cc

module _ (owners : Owners) (given : Owner → Name → Tree) where
  pub def_within : (done : List (Option Tree)) (n : Option (String Global)) (o : TypeOwner) (k : TypeDefKind) (t : Tree) → def_tree_of owners given done n o k ≡ Some t
      → (j : ℕ) → Has (kind_ids k) j → HasWithin done j (InTree t)
  def_within done None o k t h j has = nameless_within done o k t h j has
  def_within done (Some x) o k t h j has =
      let a = then_some (λ (w : Owner). named_kind_tree given done w (string_bytes x) k) (owner_of owners o) t h in
      named_within done given a.0 (string_bytes x) k t a.2 j has

  -- in an arena that is whole
  pub made_within : (a : List TypeDef) → IsWhole owners given a → (i j : ℕ) (t : Tree) → HasTree owners given a i t → IsMadeOf a i j → (u : Tree) × HasTree owners given a j u × ((w : Owner) → IsIn w u → IsIn w t)
  made_within a whole i j t has (d, at, made) =
      let here = def_at owners given a i d whole at in
      let same : here.0 ≡ t = same_Some here.0 t (sym here.1 ∙ has) in
      def_within (trees owners given a) d.name d.owner d.kind t (here.2 ∙ ap (λ (s : Tree). Some s) same) j made
