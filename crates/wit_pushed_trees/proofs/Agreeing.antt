-- A graph agrees with a package on what it has by owners of all that it holds.
use Rattle.std.proofs.Common.{◌≡◌, ◌<◌, ℕ, ◌+◌, suc, List, [], ◌∷◌, ◌++◌, length, length-append, Option, Some, None, String, refl, sym, ap, ◌∙◌, arith, append_assoc}
use Rattle.std.proofs.lemmas.List.{append-nil}
use Rattle.std.proofs.lemmas.Option.{same_Some}
use Rattle.std.specs.Prelude.{slice_get, string_bytes}
use Rattle.std.specs.declared.alloc.Global.{Global}
use Rattle.wit_types.specs.declared.interface.TypeDef.{TypeDef}
use Rattle.wit_types.specs.declared.interface.TypeOwner.{TypeOwner}
use Rattle.wit_types.specs.declared.interface.TypeOwner.TheVariants as belongs
use Rattle.wit_types.specs.declared.kind.TypeDefKind.{TypeDefKind}
use Rattle.wit_types.specs.declared.kind.«Type».TheVariants as ref
use Rattle.wit_arena.specs.Tree.{Name, Owner, Tree}
use Rattle.wit_arena.specs.Unfold.{Owners, IsWhole, owner_of, named_kind_tree, def_tree_of, def_tree, trees_from, trees, ref_tree}
use Rattle.wit_arena.specs.Standing.{HasTree}
use Rattle.wit_arena.proofs.Lists.{get_kept, get_last}
use Rattle.wit_arena.proofs.Unfolding.{flat_some, kept_then}
use Rattle.wit_pushed_trees.specs.Owned.{HaveMoreOwners}
use Rattle.wit_pushed_trees.specs.Agreed.{PushedPackagesAreAgreed}
use Rattle.wit_pushed_trees.proofs.Finding.{asked_found}
use Rattle.wit_pushed_trees.proofs.Given.{types_asked}

-- ---- more owners

module _ (old new : Owners) (more : HaveMoreOwners old new) where
  same_owner : (o : TypeOwner) (w : Owner) → owner_of old o ≡ Some w → owner_of new o ≡ Some w
  same_owner (belongs.Interface i) w h = ap (λ (os : List Owner). slice_get os i) more.interfaces_are ∙ get_kept old.interfaces more.interfaces i w h
  same_owner (belongs.World i) w h = ap (λ (os : List Owner). slice_get os i) more.worlds_are ∙ get_kept old.worlds more.worlds i w h
  same_owner belongs.None w h = absurd cc

  module _ (given : Owner → Name → Tree) where
    same_def_of : (done : List (Option Tree)) (n : Option (String Global)) (o : TypeOwner) (k : TypeDefKind) (t : Tree) → def_tree_of old given done n o k ≡ Some t → def_tree_of new given done n o k ≡ Some t
    same_def_of done None o k t h = h
    same_def_of done (Some x) o k t h =
        kept_then (λ w. named_kind_tree given done w (string_bytes x) k) (λ w. named_kind_tree given done w (string_bytes x) k) (owner_of old o) (owner_of new o) t (same_owner o) (λ w e. e) h

    trees_begin : (owners : Owners) (done : List (Option Tree)) (ds : List TypeDef) → (rest : List (Option Tree)) × (trees_from owners given done ds ≡ done ++ rest)
    trees_begin owners done [] = ([], sym (append-nil done))
    trees_begin owners done (d ∷ ds) =
        let r = trees_begin owners (done ++ def_tree owners given done d ∷ []) ds in
        (def_tree owners given done d ∷ r.0, r.1 ∙ append_assoc done (def_tree owners given done d ∷ []) r.0)

    -- arenas of which each type has a tree have the same by more owners
    same_from : (done : List (Option Tree)) (ds : List TypeDef) → ((i : ℕ) → i < length ds → (t : Tree) × (slice_get (trees_from old given done ds) (length done + i) ≡ Some (Some t))) → trees_from old given done ds ≡ trees_from new given done ds
    same_from done [] all = refl
    same_from done (d ∷ ds) all =
        let now : List (Option Tree) = done ++ def_tree old given done d ∷ [] in
        let first = all 0 (omega arith) in
        let begins = trees_begin old now ds in
        let there : slice_get (trees_from old given now ds) (length done) ≡ Some (def_tree old given done d) =
        ap (λ (ts : List (Option Tree)). slice_get ts (length done)) begins.1 ∙ get_kept now begins.0 (length done) (def_tree old given done d) (get_last done (def_tree old given done d)) in
        let here : Some (def_tree old given done d) ≡ Some (Some first.0) = sym there ∙ ap (slice_get (trees_from old given now ds)) (omega arith) ∙ first.1 in
        let was : def_tree old given done d ≡ Some first.0 = same_Some (def_tree old given done d) (Some first.0) here in
        let same : def_tree old given done d ≡ def_tree new given done d = was ∙ sym (same_def_of done d.name d.owner d.kind first.0 was) in
        let size : length now ≡ length done + 1 = length-append done (def_tree old given done d ∷ []) in
        same_from now ds (λ i less. (let a = all (suc i) (omega (arith, less)) in (a.0, ap (slice_get (trees_from old given now ds)) (omega (arith, size)) ∙ a.1)))
        ∙ ap (λ (o : Option Tree). trees_from new given (done ++ o ∷ []) ds) same

    pub same_trees : (a : List TypeDef) → IsWhole old given a → trees old given a ≡ trees new given a
    same_trees a whole = same_from [] a (λ i less. (let w = whole i less in (w.0, ap (slice_get (trees old given a)) (omega arith) ∙ flat_some (slice_get (trees old given a) i) w.0 w.1)))

    pub still_whole : (a : List TypeDef) → IsWhole old given a → IsWhole new given a
    still_whole a whole i less = (let w = whole i less in (w.0, ap (λ (ts : List (Option Tree)). ref_tree ts (ref.Id i)) (sym (same_trees a whole)) ∙ w.1))

    pub still_has : (a : List TypeDef) → IsWhole old given a → (i : ℕ) (t : Tree) → HasTree old given a i t → HasTree new given a i t
    still_has a whole i t has = ap (λ (ts : List (Option Tree)). ref_tree ts (ref.Id i)) (sym (same_trees a whole)) ∙ has

-- ---- a graph and a package

pub pushed_agreed : PushedPackagesAreAgreed
pushed_agreed given package_owners owners eq features old p new id tells stand owned whole by are package_whole h o =
    record {
      whole = still_whole owners o.all o.more given old.tables.types whole;
      found =
          types_asked given package_owners o.all old.tables h.foreign p package_whole are.asks
          (asked_found eq features old.names old.tables.packages package_owners p h.foreign.interfaces h.foreign.worlds tells stand are.asks h.are_places.found)
          (λ w j d is at x k has. still_has owners o.all o.more given old.tables.types whole k (given w (string_bytes x)) (by w j d is at x k has));
      owners_are = o.owners_are;
    }
