-- What is made of types whose trees are renamed has a tree that is renamed.
use Rattle.std.proofs.Common.{◌≡◌, ℕ, Bool, true, false, List, [], ◌∷◌, inl, Option, Some, None, refl, subst, ap, ◌∙◌, map}
use Rattle.std.proofs.lemmas.Option.{same_Some}
use Rattle.std.specs.Prelude.{slice_get, option_map, flat_map, if◌then◌else◌}
use Rattle.wit_arena.specs.Passed.wit_types-declared-kind-Type.{«Type» as Ref}
use Rattle.wit_arena.specs.Passed.wit_types-declared-kind-Type-TheVariants as ref
use Rattle.wit_arena.specs.Passed.wit_types-declared-kind-Handle.{Handle}
use Rattle.wit_arena.specs.Passed.wit_types-declared-kind-Handle-TheVariants as handle
use Rattle.wit_arena.specs.Passed.wit_types-declared-world-IncludeName.{IncludeName}
use Rattle.wit_arena.specs.Passed.wit_order-Order.{Has}
use Rattle.wit_includes.specs.Passed.wit_reach-Ids.{ref_ids, part_ids, handle_ids}
use Rattle.wit_includes.specs.Passed.wit_moves-Moved.{moved_ref, moved_part, moved_handle}
use Rattle.wit_arena.specs.Tree as tree
use Rattle.wit_arena.specs.Tree.{Owner, Tree, TreeOption, Trees, no_tree, a_tree, no_trees, trees_and, own_tree, borrow_tree, is_resource, value_of}
use Rattle.wit_arena.specs.Unfold.{flat, and_then, ref_tree, value_tree, part_tree, part_trees, handle_tree}
use Rattle.wit_arena.proofs.Unfolding.{option_map_some}
use Rattle.wit_copied_trees.specs.Renamed as renamed
use Rattle.wit_copied_trees.specs.Renamed.{IsRenamedTree, IsRenamedPart, AreRenamedTrees}
use Rattle.wit_arena.proofs.Passed.wit_order-Lists.{has_was}
use Rattle.wit_includes.proofs.Passed.wit_reach-Lists.{has_append}

-- it has a value, to which what holds there the first is related
abbrev pub Gives : {X : Type 0} → (X → X → Type 0) → X → Option X → Type 0
Gives {X} R x o = (y : X) × R x y × (o ≡ Some y)

pub gives_map : {X Y : Type 0} (R : X → X → Type 0) (S : Y → Y → Type 0) (f g : X → Y) (o p : Option X) (y : Y) → ((x : X) → o ≡ Some x → Gives R x p) → ((x z : X) → R x z → S (f x) (g z))
    → option_map f o ≡ Some y → Gives S y (option_map g p)
gives_map {X} {Y} R S f g o p y step keeps h =
    let m = option_map_some f o y h in
    let r = step m.0 m.1 in
    (g r.0, subst (λ (q : Y). S q (g r.0)) m.2 (keeps m.0 r.0 r.1), ap (option_map g) r.2)

pub gives_then : {X Y : Type 0} (R : X → X → Type 0) (S : Y → Y → Type 0) (f g : X → Option Y) (o p : Option X) (y : Y) → ((x : X) → o ≡ Some x → Gives R x p) → ((x z : X) → R x z → f x ≡ Some y → Gives S y (g z))
    → and_then f o ≡ Some y → Gives S y (and_then g p)
gives_then R S f g None p y step go h = absurd cc
gives_then R S f g (Some x) p y step go h =
    let r = step x refl in
    let q = go x r.0 r.1 h in
    (q.0, q.1, ap (and_then g) r.2 ∙ q.2)

module _ (names : List IncludeName) (from into : Owner) where
  -- what is a resource stays one
  resource_kept : (t u : Tree) → IsRenamedTree names from into t u → is_resource u ≡ is_resource t
  resource_kept _ _ (renamed.renamed_name x y t u n r) = resource_kept t u r
  resource_kept _ _ (renamed.renamed_leaf x y n) = refl
  resource_kept _ _ (renamed.other_name o x t n) = refl
  resource_kept _ _ (renamed.other_leaf o x n) = refl
  resource_kept _ _ (renamed.same_primitive p) = refl
  resource_kept _ _ (renamed.renamed_list t u r) = refl
  resource_kept _ _ (renamed.renamed_fixed_length_list t u n r) = refl
  resource_kept _ _ (renamed.renamed_option t u r) = refl
  resource_kept _ _ (renamed.renamed_tuple ts us r) = refl
  resource_kept _ _ (renamed.renamed_result t u v w r s) = refl
  resource_kept _ _ (renamed.renamed_future t u r) = refl
  resource_kept _ _ (renamed.renamed_stream t u r) = refl
  resource_kept _ _ (renamed.renamed_own t u r) = refl
  resource_kept _ _ (renamed.renamed_borrow t u r) = refl
  resource_kept _ _ (renamed.renamed_record xs ts us r) = refl
  resource_kept _ _ (renamed.same_flags xs) = refl
  resource_kept _ _ (renamed.same_enum xs) = refl
  resource_kept _ _ (renamed.renamed_variant xs ts us r) = refl

  pub value_renamed : (t u : Tree) → IsRenamedTree names from into t u → IsRenamedTree names from into (value_of t) (value_of u)
  value_renamed t u r = by (is_resource t) (is_resource u) (resource_kept t u r)
    where
      by : (b c : Bool) → c ≡ b → IsRenamedTree names from into (if b then own_tree t else t) (if c then own_tree u else u)
      by true true e = renamed.renamed_own t u r
      by false false e = r
      by true false e = absurd cc
      by false true e = absurd cc

-- where types of these ids have trees there that are renamed
module _ (names : List IncludeName) (from into : Owner) (P : ℕ → Type 0) (f : ℕ → ℕ) (done there : List (Option Tree))
    (follows : (i : ℕ) (t : Tree) → P i → flat (slice_get done i) ≡ Some t → Gives (IsRenamedTree names from into) t (flat (slice_get there (f i))))
  where
    abbrev All : List ℕ → Type 0
    All ids = (j : ℕ) → Has ids j → P j

    same : (p : tree.Primitive) (t : Tree) → Some (tree.primitive p) ≡ Some t → Gives (IsRenamedTree names from into) t (Some (tree.primitive p))
    same p t h = (tree.primitive p, subst (λ (u : Tree). IsRenamedTree names from into u (tree.primitive p)) (same_Some (tree.primitive p) t h) (renamed.same_primitive p), refl)

    pub ref_follows : (r : Ref) (t : Tree) → All (ref_ids r) → ref_tree done r ≡ Some t → Gives (IsRenamedTree names from into) t (ref_tree there (moved_ref f r))
    ref_follows (ref.Id i) t p h = follows i t (p i (inl refl)) h
    ref_follows ref.Bool t p h = same tree.bool t h
    ref_follows ref.U8 t p h = same tree.u8 t h
    ref_follows ref.U16 t p h = same tree.u16 t h
    ref_follows ref.U32 t p h = same tree.u32 t h
    ref_follows ref.U64 t p h = same tree.u64 t h
    ref_follows ref.S8 t p h = same tree.s8 t h
    ref_follows ref.S16 t p h = same tree.s16 t h
    ref_follows ref.S32 t p h = same tree.s32 t h
    ref_follows ref.S64 t p h = same tree.s64 t h
    ref_follows ref.F32 t p h = same tree.f32 t h
    ref_follows ref.F64 t p h = same tree.f64 t h
    ref_follows ref.Char t p h = same tree.char t h
    ref_follows ref.String t p h = same tree.string t h
    ref_follows ref.ErrorContext t p h = same tree.error_context t h

    pub value_follows : (r : Ref) (t : Tree) → All (ref_ids r) → value_tree done r ≡ Some t → Gives (IsRenamedTree names from into) t (value_tree there (moved_ref f r))
    value_follows r t p h =
        gives_map (IsRenamedTree names from into) (IsRenamedTree names from into) value_of value_of (ref_tree done r) (ref_tree there (moved_ref f r)) t
        (λ u. ref_follows r u p) (value_renamed names from into) h

    pub part_follows : (r : Option Ref) (t : TreeOption) → All (part_ids r) → part_tree done r ≡ Some t → Gives (IsRenamedPart names from into) t (part_tree there (moved_part f r))
    part_follows None t p h = (no_tree, subst (λ (u : TreeOption). IsRenamedPart names from into u no_tree) (same_Some no_tree t h) renamed.no_part, refl)
    part_follows (Some r) t p h =
        gives_map (IsRenamedTree names from into) (IsRenamedPart names from into) a_tree a_tree (value_tree done r) (value_tree there (moved_ref f r)) t
        (λ u. value_follows r u p) renamed.renamed_part h

    pub parts_follow : (rs : List (Option Ref)) (ts : Trees) → All (flat_map part_ids rs) → part_trees done rs ≡ Some ts → Gives (AreRenamedTrees names from into) ts (part_trees there (map (moved_part f) rs))
    parts_follow [] ts p h = (no_trees, subst (λ (us : Trees). AreRenamedTrees names from into us no_trees) (same_Some no_trees ts h) renamed.no_parts, refl)
    parts_follow (r ∷ rs) ts p h =
        gives_then (IsRenamedPart names from into) (AreRenamedTrees names from into)
        (λ (t : TreeOption). option_map (trees_and t) (part_trees done rs)) (λ (t : TreeOption). option_map (trees_and t) (part_trees there (map (moved_part f) rs)))
        (part_tree done r) (part_tree there (moved_part f r)) ts
        (λ t. part_follows r t (λ j h. p j (has_was (part_ids r) (flat_map part_ids rs) j h)))
        (λ t u n. gives_map (AreRenamedTrees names from into) (AreRenamedTrees names from into) (trees_and t) (trees_and u) (part_trees done rs) (part_trees there (map (moved_part f) rs)) ts
        (λ us. parts_follow rs us (λ j h. p j (has_append (part_ids r) (flat_map part_ids rs) j h)))
        (λ ps qs. renamed.parts_and t u ps qs n))
        h

    pub handle_follows : (x : Handle) (t : Tree) → All (handle_ids x) → handle_tree done x ≡ Some t → Gives (IsRenamedTree names from into) t (handle_tree there (moved_handle f x))
    handle_follows (handle.Own i) t p h =
        gives_map (IsRenamedTree names from into) (IsRenamedTree names from into) own_tree own_tree (flat (slice_get done i)) (flat (slice_get there (f i))) t (λ u. follows i u (p i (inl refl))) renamed.renamed_own h
    handle_follows (handle.Borrow i) t p h =
        gives_map (IsRenamedTree names from into) (IsRenamedTree names from into) borrow_tree borrow_tree (flat (slice_get done i)) (flat (slice_get there (f i))) t (λ u. follows i u (p i (inl refl))) renamed.renamed_borrow h
