-- A type that is copied has a tree that is renamed; one that belongs elsewhere keeps its own.
use Rattle.std.proofs.Common.{◌≡◌, ℕ, Bool, true, false, List, ◌⊎◌, inl, inr, Option, Some, None, refl, sym, subst, ap, ◌∙◌}
use Rattle.std.proofs.lemmas.Bool.{eqb-true, eq-eqb}
use Rattle.std.proofs.lemmas.Option.{same_Some}
use Rattle.std.specs.Prelude.{slice_get, option_map, String, string_bytes, if◌then◌else◌}
use Rattle.std.specs.declared.alloc.Global.{Global}
use Rattle.wit_arena.specs.Passed.wit_types-declared-kind-TypeDefKind.{TypeDefKind}
use Rattle.wit_arena.specs.Passed.wit_types-declared-kind-TypeDefKind-TheVariants as kind
use Rattle.wit_arena.specs.Passed.wit_types-declared-interface-TypeDef.{TypeDef}
use Rattle.wit_arena.specs.Passed.wit_types-declared-interface-TypeOwner.{TypeOwner}
use Rattle.wit_arena.specs.Passed.wit_types-declared-interface-TypeOwner-TheVariants as belongs
use Rattle.wit_arena.specs.Passed.wit_types-declared-world-IncludeName.{IncludeName}
use Rattle.wit_arena.specs.Passed.wit_order-Order.{Has}
use Rattle.wit_includes.specs.Passed.wit_reach-Ids.{kind_ids}
use Rattle.wit_includes.specs.Passed.wit_reach-Types.{is_local}
use Rattle.wit_includes.specs.Passed.wit_moves-Moved as moved
use Rattle.wit_includes.specs.Passed.wit_moves-Moved.{IsMovedKind}
use Rattle.wit_includes.specs.Passed.wit_copies-Same as copy
use Rattle.wit_includes.specs.Passed.wit_copies-Same.{text_of, IsSameKind}
use Rattle.wit_includes.specs.Passed.wit_copies-Copies.{copied_owner}
use Rattle.wit_includes.specs.Included.{is_of_world, IsRenamedName, IsRenamedDef}
use Rattle.wit_includes.specs.Passed.wit_sides-Renames.{IsRenamed}
use Rattle.wit_arena.specs.Tree.{Name, Owner, Tree, resource_leaf, named_tree}
use Rattle.wit_arena.specs.Unfold.{Owners, flat, and_then, kind_tree, named_kind_tree, owner_of, nameless_tree, def_tree_of, def_tree}
use Rattle.wit_arena.proofs.Unfolding.{option_map_some}
use Rattle.wit_copied_trees.specs.Renamed as renamed
use Rattle.wit_copied_trees.specs.Renamed.{IsRenamedTree}
use Rattle.wit_copied_trees.proofs.Owners.{then_some}
use Rattle.wit_copied_trees.proofs.Renaming.{Gives, gives_map}
use Rattle.wit_copied_trees.proofs.Definitions.{kind_follows}

-- ---- names

no_text : (n : Option (String Global)) → text_of n ≡ None → n ≡ None
no_text None e = refl
no_text (Some x) e = absurd cc

-- a type without a name is not renamed
renamed_nameless : (names : List IncludeName) (b : Bool) (n : Option (String Global)) (e g : TypeDef) → text_of n ≡ None → IsRenamedName names b e n g → g ≡ e
renamed_nameless names true None e g t r = r
renamed_nameless names false n e g t r = r
renamed_nameless names true (Some x) e g t r = absurd cc

-- one of the world has the changed name
pub renamed_named : (names : List IncludeName) (b : Bool) (n : Option (String Global)) (x : Name) (e g : TypeDef) → b ≡ true → text_of n ≡ Some x → IsRenamedName names b e n g
    → (y : String Global) × IsRenamed names x (string_bytes y) × (g ≡ record e { name = Some y })
renamed_named names false n x e g b t r = absurd cc
renamed_named names true None x e g b t r = absurd cc
renamed_named names true (Some z) x e g b t r = (r.0, subst (λ (m : Name). IsRenamed names m (string_bytes r.0)) (same_Some (string_bytes z) x t) r.1, r.2)

-- ---- definitions

module _ (given : Owner → Name → Tree) (f : ℕ → ℕ) (done there : List (Option Tree)) (w v : Owner) (x y : Name) where
  named_cases : (k m l : TypeDefKind) → IsSameKind k m → IsMovedKind f m l
      → ((k ≡ kind.Resource) × (l ≡ kind.Resource)) ⊎ ((k ≡ kind.Unknown) ⊎ ((named_kind_tree given done w x k ≡ option_map (named_tree w x) (kind_tree done k)) × (named_kind_tree given there v y l ≡ option_map (named_tree v y) (kind_tree there l))))
  named_cases _ _ _ copy.same_resource moved.moved_resource = inl (refl, refl)
  named_cases _ _ _ copy.same_unknown_kind moved.moved_unknown = inr (inl refl)
  named_cases _ _ _ (copy.same_record r s same) (moved.moved_record _ q e) = inr (inr (refl, refl))
  named_cases _ _ _ (copy.same_handle h) (moved.moved_handle_kind _) = inr (inr (refl, refl))
  named_cases _ _ _ (copy.same_flags a b same) (moved.moved_flags _) = inr (inr (refl, refl))
  named_cases _ _ _ (copy.same_tuple a b same) (moved.moved_tuple _ c e) = inr (inr (refl, refl))
  named_cases _ _ _ (copy.same_variant a b same) (moved.moved_variant _ c e) = inr (inr (refl, refl))
  named_cases _ _ _ (copy.same_enum a b same) (moved.moved_enum _) = inr (inr (refl, refl))
  named_cases _ _ _ (copy.same_option r) (moved.moved_option _) = inr (inr (refl, refl))
  named_cases _ _ _ (copy.same_result r) (moved.moved_result _) = inr (inr (refl, refl))
  named_cases _ _ _ (copy.same_list r) (moved.moved_list _) = inr (inr (refl, refl))
  named_cases _ _ _ (copy.same_fixed_length_list r n) (moved.moved_fixed_length_list _ _) = inr (inr (refl, refl))
  named_cases _ _ _ (copy.same_future r) (moved.moved_future _) = inr (inr (refl, refl))
  named_cases _ _ _ (copy.same_stream r) (moved.moved_stream _) = inr (inr (refl, refl))
  named_cases _ _ _ (copy.same_alias r) (moved.moved_alias _) = inr (inr (refl, refl))

module _ (names : List IncludeName) (owners : Owners) (given : Owner → Name → Tree) (from into : ℕ) (w v : Owner) (from_is : slice_get owners.worlds from ≡ Some w) (into_is : slice_get owners.worlds into ≡ Some v)
    (P : ℕ → Type 0) (f : ℕ → ℕ) (done there : List (Option Tree))
    (follows : (i : ℕ) (t : Tree) → P i → flat (slice_get done i) ≡ Some t → Gives (IsRenamedTree names w v) t (flat (slice_get there (f i))))
  where
    abbrev Is : Tree → Tree → Type 0
    Is = IsRenamedTree names w v

    named_follows : (x y : Name) (k m l : TypeDefKind) (t : Tree) → IsRenamed names x y → (k ≡ kind.Unknown → ⊥) → ((j : ℕ) → Has (kind_ids k) j → P j) → IsSameKind k m → IsMovedKind f m l
        → named_kind_tree given done w x k ≡ Some t → Gives Is t (named_kind_tree given there v y l)
    named_follows x y k m l t n known p s mv h =
        elim (named_cases given f done there w v x y k m l s mv) as (λ _. Gives Is t (named_kind_tree given there v y l)) [
          | inl both ↦
              let at : Some (resource_leaf w x) ≡ Some t = subst (λ (q : TypeDefKind). named_kind_tree given done w x q ≡ Some t) both.0 h in
              subst (λ (q : TypeDefKind). Gives Is t (named_kind_tree given there v y q)) (sym both.1)
              (resource_leaf v y, subst (λ (u : Tree). Is u (resource_leaf v y)) (same_Some (resource_leaf w x) t at) (renamed.renamed_leaf x y n), refl)
          | inr other ↦ elim other as (λ _. Gives Is t (named_kind_tree given there v y l)) [
            | inl unknown ↦ absurd (known unknown)
            | inr named ↦
                subst (λ (o : Option Tree). Gives Is t o) (sym named.1)
                (gives_map Is Is (named_tree w x) (named_tree v y) (kind_tree done k) (kind_tree there l) t
                (λ u. kind_follows names w v P f done there follows k m l u p s mv)
                (λ a b r. renamed.renamed_name x y a b n r) (sym named.0 ∙ h))
          ]
        ]

    -- a local type by its name and owner, its copy e, and that as the other world has it
    pub copy_follows : (n : Option (String Global)) (o : TypeOwner) (k m : TypeDefKind) (e g : TypeDef) (t : Tree) → is_local from o ≡ true → (k ≡ kind.Unknown → ⊥) → ((j : ℕ) → Has (kind_ids k) j → P j)
        → IsSameKind k m → IsMovedKind f m e.kind → text_of e.name ≡ text_of n → e.owner ≡ copied_owner from into o → IsRenamedDef names into e g
        → def_tree_of owners given done n o k ≡ Some t → Gives Is t (def_tree owners given there g)
    copy_follows None belongs.None k m e g t local known p s mv name owner r h =
        let same : g ≡ e = renamed_nameless names (is_of_world into e.owner) e.name e g name r in
        subst (λ (z : TypeDef). Gives Is t (def_tree owners given there z)) (sym same)
        (subst (λ (q : Option (String Global)). Gives Is t (def_tree_of owners given there q e.owner e.kind)) (sym (no_text e.name name))
        (subst (λ (q : TypeOwner). Gives Is t (nameless_tree there q e.kind)) (sym owner)
        (kind_follows names w v P f done there follows k m e.kind t p s mv h)))
    copy_follows None (belongs.World i) k m e g t local known p s mv name owner r h = absurd cc
    copy_follows None (belongs.Interface i) k m e g t local known p s mv name owner r h = absurd cc
    copy_follows (Some x) belongs.None k m e g t local known p s mv name owner r h = absurd cc
    copy_follows (Some x) (belongs.Interface i) k m e g t local known p s mv name owner r h = absurd cc
    copy_follows (Some x) (belongs.World i) k m e g t local known p s mv name owner r h =
        let there_is : e.owner ≡ belongs.World into = owner ∙ ap (λ (b : Bool). belongs.World (if b then into else i)) local in
        let of_world : is_of_world into e.owner ≡ true = ap (is_of_world into) there_is ∙ eq-eqb into into refl in
        let to = renamed_named names (is_of_world into e.owner) e.name (string_bytes x) e g of_world name r in
        let was : slice_get owners.worlds i ≡ Some w = ap (slice_get owners.worlds) (eqb-true i from local) ∙ from_is in
        let at : named_kind_tree given done w (string_bytes x) k ≡ Some t = subst (λ (q : Option Owner). and_then (λ (u : Owner). named_kind_tree given done u (string_bytes x) k) q ≡ Some t) was h in
        subst (λ (z : TypeDef). Gives Is t (def_tree owners given there z)) (sym to.2)
        (subst (λ (q : TypeOwner). Gives Is t (and_then (λ (u : Owner). named_kind_tree given there u (string_bytes to.0) e.kind) (owner_of owners q))) (sym there_is)
        (subst (λ (q : Option Owner). Gives Is t (and_then (λ (u : Owner). named_kind_tree given there u (string_bytes to.0) e.kind) q)) (sym into_is)
        (named_follows (string_bytes x) (string_bytes to.0) k m e.kind t to.1 known p s mv at)))

-- ---- what belongs elsewhere

module _ (names : List IncludeName) (owners : Owners) (given : Owner → Name → Tree) (from : ℕ) (w v : Owner) (done : List (Option Tree)) where
  stays_named : (u : Owner) (x : Name) (k : TypeDefKind) (t : Tree) → (u ≡ w → ⊥) → (k ≡ kind.Unknown → ⊥) → named_kind_tree given done u x k ≡ Some t → IsRenamedTree names w v t t
  stays_named u x kind.Resource t other known h = subst (λ (z : Tree). IsRenamedTree names w v z z) (same_Some (resource_leaf u x) t h) (renamed.other_leaf u x other)
  stays_named u x kind.Unknown t other known h = absurd (known refl)
  stays_named u x k t other known h = (let m = option_map_some (named_tree u x) (kind_tree done k) t h in subst (λ (z : Tree). IsRenamedTree names w v z z) m.2 (renamed.other_name u x m.0 other))

  pub stays_elsewhere : (n : Option (String Global)) (o : TypeOwner) (k : TypeDefKind) (t : Tree) → ((u : Owner) → owner_of owners o ≡ Some u → u ≡ w → ⊥) → is_local from o ≡ false → (k ≡ kind.Unknown → ⊥)
      → def_tree_of owners given done n o k ≡ Some t → IsRenamedTree names w v t t
  stays_elsewhere None belongs.None k t apart far known h = absurd cc
  stays_elsewhere None (belongs.World i) k t apart far known h = absurd cc
  stays_elsewhere None (belongs.Interface i) k t apart far known h = absurd cc
  stays_elsewhere (Some x) o k t apart far known h =
      let a = then_some (λ (u : Owner). named_kind_tree given done u (string_bytes x) k) (owner_of owners o) t h in
      stays_named a.0 (string_bytes x) k t (apart a.0 a.1) known a.2
