-- Copies of a world's types take types by use where the types do.
use Rattle.std.proofs.Common.{◌≡◌, ℕ, zero, suc, ◌+◌, ◌<◌, true, false, Bool, List, [], ◌∷◌, ◌++◌, ◌⊎◌, inl, inr, Option, Some, None, String, length, map, refl, sym, subst, ap, ◌∙◌, arith, nat_eq}
use Rattle.std.proofs.lemmas.Bool.{eq-eqb, eqb-true}
use Rattle.std.proofs.lemmas.List.{map-append}
use Rattle.std.proofs.lemmas.Option.{same_Some, slice_get_within}
use Rattle.std.specs.Prelude.{slice_get, string_bytes, if◌then◌else◌}
use Rattle.std.specs.declared.alloc.Global.{Global}
use Rattle.wit_joined.specs.Passed.wit_order-Order.{Has}
use Rattle.wit_joined.specs.Passed.wit_types-declared-kind-Type.{«Type» as Ref}
use Rattle.wit_joined.specs.Passed.wit_types-declared-kind-Type-TheVariants as ref
use Rattle.wit_joined.specs.Passed.wit_types-declared-kind-TypeDefKind.{TypeDefKind}
use Rattle.wit_joined.specs.Passed.wit_types-declared-kind-TypeDefKind-TheVariants as kind
use Rattle.wit_joined.specs.Passed.wit_types-declared-interface-TypeDef.{TypeDef}
use Rattle.wit_joined.specs.Passed.wit_types-declared-interface-TypeOwner.{TypeOwner}
use Rattle.wit_joined.specs.Passed.wit_types-declared-interface-TypeOwner-TheVariants as belongs
use Rattle.wit_joined.specs.Passed.wit_types-declared-world-IncludeName.{IncludeName}
use Rattle.wit_joined.specs.Passed.wit_types-declared-world-World.{World}
use Rattle.wit_joined.specs.Passed.wit_types-declared-world-WorldItem.{WorldItem}
use Rattle.wit_joined.specs.Passed.wit_types-declared-world-WorldItem-TheVariants as item
use Rattle.wit_joined.specs.Passed.wit_types-declared-world_key-WorldKey.{WorldKey}
use Rattle.wit_joined.specs.Passed.wit_moves-Moved as moved
use Rattle.wit_joined.specs.Passed.wit_moves-Moved.{moved_ref, IsMovedKind}
use Rattle.wit_joined.specs.Passed.wit_moves-Worlds as worlds
use Rattle.wit_joined.specs.Passed.wit_moves-Worlds.{IsMovedItem}
use Rattle.wit_joined.specs.Passed.wit_copies-Copies.{Copies, goes, copied_owner, IsCopiedDef, AreCopied, no_types, one_more, AreCopiedEntries, no_entries, one_entry_more}
use Rattle.wit_joined.specs.Passed.wit_copies-Same as copy
use Rattle.wit_joined.specs.Passed.wit_copies-Same.{IsSameKind, IsSameItem, text_of}
use Rattle.wit_joined.specs.Passed.wit_sides-Renames as renamed
use Rattle.wit_joined.specs.Passed.wit_sides-Renames.{IsRenamed, IsRenamedItem, AreRenamed}
use Rattle.wit_joined.specs.Passed.wit_includes-Included as brings
use Rattle.wit_joined.specs.Passed.wit_includes-Included.{is_of_world, IsRenamedName, IsRenamedDef, AreRenamedDefs, copies_behind, AreIncludedEntries, IsIncluded}
use Rattle.wit_joined.specs.Passed.wit_includes-declared-worlds-Included.{Included}
use Rattle.wit_joined.specs.Passed.wit_reach-Ids.{kind_ids, item_ids, side_ids}
use Rattle.wit_joined.specs.Passed.wit_reach-Lists.{item_type, type_items}
use Rattle.wit_joined.specs.Passed.wit_reach-Made.{is_open, IsMadeOfWithin}
use Rattle.wit_joined.specs.Passed.wit_reach-Paths.{Reaches}
use Rattle.wit_joined.specs.Passed.wit_reach-Types.{AreTypesBackward, AreSidesThere, IsLocalAt, is_local, UsesLocal, IsOfItem}
use Rattle.wit_joined.proofs.Passed.wit_reach-Ends.{closed_ends, reaches_more}
use Rattle.wit_joined.proofs.Passed.wit_reach-Growing.{get_same}
use Rattle.wit_joined.proofs.Passed.wit_reach-Holding.{got}
use Rattle.wit_joined.proofs.Passed.wit_reach-Local.{stays_local}
use Rattle.wit_joined.proofs.Passed.wit_copied_trees-Members.{has_place, goes_own, goes_else}
use Rattle.wit_joined.proofs.Passed.wit_copied_trees-Named.{renamed_named}
use Rattle.wit_joined.proofs.Passed.wit_copied_trees-MovedIds.{has_moved, kind_moved, item_moved}
use Rattle.wit_placed.proofs.Holding.{get_behind}
use Rattle.wit_uses.specs.Uses.{IsOwn, IsUse, TakesByUse}
use Rattle.wit_uses.specs.Included.{brought_types, IsOfBrought, BroughtTakesByUse}

abbrev Entry : Type 0
Entry = WorldKey × WorldItem

-- ---- owners

pub own_local : (w : ℕ) (o : TypeOwner) → IsOwn (belongs.World w) o → is_local w o ≡ true
own_local w o (inl none) = subst (λ (x : TypeOwner). is_local w x ≡ true) (sym none) refl
own_local w o (inr same) = subst (λ (x : TypeOwner). is_local w x ≡ true) (sym same) (eq-eqb w w refl)

own_copied : (from into : ℕ) (o : TypeOwner) → IsOwn (belongs.World from) o → IsOwn (belongs.World into) (copied_owner from into o)
own_copied from into o (inl none) = inl (ap (copied_owner from into) none)
own_copied from into o (inr same) = inr (ap (copied_owner from into) same ∙ ap (λ (b : Bool). belongs.World (if b then into else from)) (eq-eqb from from refl))

-- ---- definitions

renamed_keeps : (names : List IncludeName) (b : Bool) (d : TypeDef) (x : Option (String Global)) (e : TypeDef) → IsRenamedName names b d x e → (e.owner ≡ d.owner) × (e.kind ≡ d.kind)
renamed_keeps names true d (Some x) e h = (ap (λ (t : TypeDef). t.owner) h.2, ap (λ (t : TypeDef). t.kind) h.2)
renamed_keeps names true d None e h = (ap (λ (t : TypeDef). t.owner) h, ap (λ (t : TypeDef). t.kind) h)
renamed_keeps names false d x e h = (ap (λ (t : TypeDef). t.owner) h, ap (λ (t : TypeDef). t.kind) h)

copied_at : (c : Copies) (from into : ℕ) (types : List TypeDef) (ids : List ℕ) (copied : List TypeDef) → AreCopied c from into types ids copied → (k i : ℕ) → slice_get ids k ≡ Some i
    → (d : TypeDef) × (e : TypeDef) × (slice_get types i ≡ Some d) × (slice_get copied k ≡ Some e) × IsCopiedDef c from into d e
copied_at c from into types _ _ no_types k i at = absurd cc
copied_at c from into types _ _ (one_more i0 d e is es at_d one more) zero i at = (d, e, subst (λ (n : ℕ). slice_get types n ≡ Some d) (same_Some i0 i at) at_d, refl, one)
copied_at c from into types _ _ (one_more i0 d e is es at_d one more) (suc k) i at = copied_at c from into types is es more k i at

renamed_at : (names : List IncludeName) (w : ℕ) (ds es : List TypeDef) → AreRenamedDefs names w ds es → (k : ℕ) (d : TypeDef) → slice_get ds k ≡ Some d → (e : TypeDef) × (slice_get es k ≡ Some e) × IsRenamedDef names w d e
renamed_at names w _ _ brings.no_types k d at = absurd cc
renamed_at names w _ _ (brings.one_more x y xs ys one more) zero d at = (y, refl, subst (λ (z : TypeDef). IsRenamedDef names w z y) (same_Some x d at) one)
renamed_at names w _ _ (brings.one_more x y xs ys one more) (suc k) d at = renamed_at names w xs ys more k d at

alias_copied : (f : ℕ → ℕ) (k m l : TypeDefKind) → IsSameKind k m → IsMovedKind f m l → (i : ℕ) → k ≡ kind.Alias (ref.Id i) → l ≡ kind.Alias (ref.Id (f i))
alias_copied f _ _ _ (copy.same_alias r) (moved.moved_alias _) i e = (let same : r ≡ ref.Id i = cc in ap (λ (x : Ref). kind.Alias (moved_ref f x)) same)
alias_copied f _ _ _ _ _ i e = absurd cc

ref_was : (f : ℕ → ℕ) (r : Ref) (i : ℕ) → moved_ref f r ≡ ref.Id i → (j : ℕ) × (r ≡ ref.Id j) × (f j ≡ i)
ref_was f (ref.Id j) i e = (j, refl, cc)
ref_was f _ i e = absurd cc

-- what is another name where it is moved was one
pub alias_came : (f : ℕ → ℕ) (k l : TypeDefKind) → IsMovedKind f k l → (i : ℕ) → l ≡ kind.Alias (ref.Id i) → (j : ℕ) × (k ≡ kind.Alias (ref.Id j)) × (f j ≡ i)
alias_came f _ _ (moved.moved_alias r) i e = (let same : moved_ref f r ≡ ref.Id i = cc in let q = ref_was f r i same in (q.0, ap (λ (x : Ref). kind.Alias x) q.1, q.2))
alias_came f _ _ _ i e = absurd cc

alias_same : (k m : TypeDefKind) → IsSameKind k m → (i : ℕ) → m ≡ kind.Alias (ref.Id i) → k ≡ kind.Alias (ref.Id i)
alias_same _ _ (copy.same_alias r) i e = e
alias_same _ _ _ i e = absurd cc

alias_was : (f : ℕ → ℕ) (k m l : TypeDefKind) → IsSameKind k m → IsMovedKind f m l → (i : ℕ) → l ≡ kind.Alias (ref.Id i) → (j : ℕ) × (k ≡ kind.Alias (ref.Id j)) × (f j ≡ i)
alias_was f k m l same is i e = (let q = alias_came f m l is i e in (q.0, alias_same k m same q.0 q.1, q.2))

-- ---- sides

renamed_ids : (names : List IncludeName) (x y : WorldItem) → IsRenamedItem names x y → item_ids y ≡ item_ids x
renamed_ids names (item.Function f) y h = ap item_ids h.1
renamed_ids names (item.Interface id stability span) y h = ap item_ids h
renamed_ids names (item.TypeItem id span) y h = ap item_ids h

renamed_type : (names : List IncludeName) (x y : WorldItem) → IsRenamedItem names x y → item_type y ≡ item_type x
renamed_type names (item.Function f) y h = ap item_type h.1
renamed_type names (item.Interface id stability span) y h = ap item_type h
renamed_type names (item.TypeItem id span) y h = ap item_type h

type_moved : (f : ℕ → ℕ) (x y z : WorldItem) → IsSameItem x y → IsMovedItem f (λ (i : ℕ). i) y z → item_type z ≡ map f (item_type x)
type_moved f _ _ _ (copy.same_interface id s t span q) (worlds.moved_interface _ _ _) = refl
type_moved f _ _ _ (copy.same_function a b same) (worlds.moved_function _ c to) = refl
type_moved f _ _ _ (copy.same_type id span) (worlds.moved_type _ _) = refl

renamed_sides : (names : List IncludeName) (es fs : List Entry) → AreRenamed names es fs → (side_ids fs ≡ side_ids es) × (type_items fs ≡ type_items es)
renamed_sides names _ _ renamed.no_entries = (refl, refl)
renamed_sides names _ _ (renamed.one_more k l i j es fs key it rest) =
    let r = renamed_sides names es fs rest in
    let a = renamed_ids names i j it in
    let b = renamed_type names i j it in
    (ap (λ (xs : List ℕ). xs ++ side_ids fs) a ∙ ap (λ (xs : List ℕ). item_ids i ++ xs) r.0, ap (λ (xs : List ℕ). xs ++ type_items fs) b ∙ ap (λ (xs : List ℕ). item_type i ++ xs) r.1)

copied_sides : (c : Copies) (es fs : List Entry) → AreCopiedEntries c es fs → (side_ids fs ≡ map (goes c) (side_ids es)) × (type_items fs ≡ map (goes c) (type_items es))
copied_sides c _ _ no_entries = (refl, refl)
copied_sides c _ _ (one_entry_more k l i j es fs key it rest) =
    let r = copied_sides c es fs rest in
    let a = item_moved (goes c) i it.0 j it.1 it.2 in
    let b = type_moved (goes c) i it.0 j it.1 it.2 in (
      ap (λ (xs : List ℕ). xs ++ side_ids fs) a ∙ ap (λ (xs : List ℕ). map (goes c) (item_ids i) ++ xs) r.0 ∙ sym (map-append (goes c) (item_ids i) (side_ids es)),
      ap (λ (xs : List ℕ). xs ++ type_items fs) b ∙ ap (λ (xs : List ℕ). map (goes c) (item_type i) ++ xs) r.1 ∙ sym (map-append (goes c) (item_type i) (type_items es)),
    )

pub included_sides : (names : List IncludeName) (c : Copies) (es fs : List Entry) → AreIncludedEntries names c es fs → (side_ids fs ≡ map (goes c) (side_ids es)) × (type_items fs ≡ map (goes c) (type_items es))
included_sides names c es fs h = (let a = copied_sides c es h.0 h.1 in let b = renamed_sides names h.0 fs h.2 in (b.0 ∙ a.0, b.1 ∙ a.1))

map_has : (f : ℕ → ℕ) (xs : List ℕ) (i : ℕ) → Has xs i → Has (map f xs) (f i)
map_has f [] i h = absurd h
map_has f (x ∷ xs) i (inl here) = inl (ap f here)
map_has f (x ∷ xs) i (inr later) = inr (map_has f xs i later)

-- ---- a world

module _ (names : List IncludeName) (from into : ℕ) (types : List TypeDef) (world : World) (b : Included) (backward : AreTypesBackward types) (there : AreSidesThere types world) (is : IsIncluded names from into types world b)
  where
    abbrev own : List ℕ
    own = is.own

    abbrev c : Copies
    c = copies_behind types own

    abbrev new : List TypeDef
    new = b.types.items

    -- ---- copies

    pub own_at : (i : ℕ) → Has own i → IsLocalAt from types i
    own_at i h = (let o = is.are_own.only i h in stays_local from types o.0 o.2.0 i o.1.1 o.2.1)

    of_including : (o : TypeOwner) → o ≡ belongs.World from → is_of_world into (copied_owner from into o) ≡ true
    of_including o its = ap (λ (z : TypeOwner). is_of_world into (copied_owner from into z)) its ∙ ap (λ (z : Bool). nat_eq (if z then into else from) into) (eq-eqb from from refl) ∙ eq-eqb into into refl

    -- a copy of it stands where it goes
    pub record IsCopied (i : ℕ) (d : TypeDef) : Type 0 where
      pub copy_of : TypeDef
      pub at : slice_get (types ++ new) (goes c i) ≡ Some copy_of
      pub owner_is : copy_of.owner ≡ copied_owner from into d.owner
      pub parts : kind_ids copy_of.kind ≡ map (goes c) (kind_ids d.kind)
      pub name_was : (x : String Global) → d.name ≡ Some x → d.owner ≡ belongs.World from → (y : String Global) × IsRenamed names (string_bytes x) (string_bytes y) × (copy_of.name ≡ Some y)
      pub alias_was : (p : ℕ) → copy_of.kind ≡ kind.Alias (ref.Id p) → (q : ℕ) × (d.kind ≡ kind.Alias (ref.Id q)) × (goes c q ≡ p)
      pub alias : (p : ℕ) → d.kind ≡ kind.Alias (ref.Id p) → copy_of.kind ≡ kind.Alias (ref.Id (goes c p))

    pub is_copied : (i : ℕ) (d : TypeDef) → Has own i → slice_get types i ≡ Some d → IsCopied i d
    is_copied i d h at =
        let k = has_place own i h in
        let defs = is.brings.types_are in
        let x = copied_at c from into types own defs.0 defs.1 k.0 i k.1 in
        let y = renamed_at names into defs.0 new defs.2 k.0 x.1 x.3 in
        let keeps = renamed_keeps names (is_of_world into x.1.owner) x.1 x.1.name y.0 y.2 in
        let same : x.0 ≡ d = same_Some x.0 d (sym x.2 ∙ at) in
        let clone = x.4 in
        record {
          copy_of = y.0;
          at = ap (slice_get (types ++ new)) (goes_own types own k.0 i is.are_own.rising k.1) ∙ get_behind types new k.0 ∙ y.1;
          owner_is = keeps.0 ∙ clone.2.owner_is ∙ ap (λ (z : TypeDef). copied_owner from into z.owner) same;
          parts = ap kind_ids keeps.1 ∙ kind_moved (goes c) x.0.kind clone.0.kind x.1.kind clone.1.kind clone.2.kind ∙ ap (λ (z : TypeDef). map (goes c) (kind_ids z.kind)) same;
          name_was = λ n named its.
              (let text : text_of x.1.name ≡ Some (string_bytes n) = ap text_of clone.2.name ∙ clone.1.name ∙ ap (λ (z : TypeDef). text_of z.name) same ∙ ap text_of named in
              let of : is_of_world into x.1.owner ≡ true = ap (is_of_world into) (clone.2.owner_is ∙ ap (λ (z : TypeDef). copied_owner from into z.owner) same) ∙ of_including d.owner its in
              let r = renamed_named names (is_of_world into x.1.owner) x.1.name (string_bytes n) x.1 y.0 of text y.2 in
              (r.0, r.1, ap (λ (z : TypeDef). z.name) r.2));
          alias_was = λ p e.
              (let q = alias_was (goes c) x.0.kind clone.0.kind x.1.kind clone.1.kind clone.2.kind p (sym keeps.1 ∙ e) in (q.0, sym (ap (λ (z : TypeDef). z.kind) same) ∙ q.1, q.2));
          alias = λ p e. keeps.1 ∙ alias_copied (goes c) x.0.kind clone.0.kind x.1.kind clone.1.kind clone.2.kind p (ap (λ (z : TypeDef). z.kind) same ∙ e);
        }

    -- ---- what is of interfaces stays where it was

    abbrev IsOther : ℕ → Type 0
    IsOther i = (d : TypeDef) × (slice_get types i ≡ Some d) × ((j : ℕ) × (d.owner ≡ belongs.Interface j))

    other_not_own : (i : ℕ) → IsOther i → Has own i → ⊥
    other_not_own i (d, at, (j, of)) h =
        let l = own_at i h in
        let same : l.0 ≡ d = same_Some l.0 d (sym l.1 ∙ at) in
        let e : is_local from (belongs.Interface j) ≡ true = sym (ap (is_local from) (ap (λ (z : TypeDef). z.owner) same ∙ of)) ∙ l.2 in
        cc

    other_goes : (i : ℕ) → IsOther i → goes c i ≡ i
    other_goes i o = goes_else types own i (other_not_own i o)

    other_at : (i : ℕ) (o : IsOther i) → slice_get (types ++ new) (goes c i) ≡ Some o.0
    other_at i o = ap (slice_get (types ++ new)) (other_goes i o) ∙ get_same types new i (slice_get_within types i o.0 o.1) ∙ o.1

    module _ (takes : TakesByUse types (belongs.World from) (Has (type_items world.imports.entries)) (IsOfItem world)) where
      -- ---- what is its own is copied

      own_first : (s : ℕ) (d : TypeDef) → IsOfItem world s → slice_get types s ≡ Some d → IsOwn (belongs.World from) d.owner → Has own s
      own_first s d starts at is_own = is.are_own.all s s (starts, (d, at, own_local from d.owner is_own)) ([], refl)

      own_next : (i p : ℕ) (d e : TypeDef) → Has own i → slice_get types i ≡ Some d → Has (kind_ids d.kind) p → slice_get types p ≡ Some e → IsOwn (belongs.World from) e.owner → Has own p
      own_next i p d e h at part at_p is_own =
          let o = is.are_own.only i h in
          is.are_own.all p o.0 o.1 (reaches_more (UsesLocal from types) o.0 i p o.2 ((d, at, part), (e, at_p, own_local from e.owner is_own)))

      -- ---- what the including world sees was seen

      record CameFrom (m : ℕ) : Type 0 where
        id : ℕ
        goes_is : goes c id ≡ m
        first : ℕ
        starts : IsOfItem world first
        reaches : Reaches (IsMadeOfWithin (belongs.World from) types) first id
        sort : Has own id ⊎ IsOther id

      record Began (j : ℕ) : Type 0 where
        id : ℕ
        goes_is : goes c id ≡ j
        starts : IsOfItem world id

      began : (j : ℕ) → IsOfBrought b j → Began j
      began j (inl h) = (let r = has_moved (goes c) (side_ids world.imports.entries) j (subst (λ (l : List ℕ). Has l j) (included_sides names c world.imports.entries b.imports.items is.brings.imports_are).0 h) in record { id = r.0; goes_is = sym r.2; starts = inl r.1 })
      began j (inr h) = (let r = has_moved (goes c) (side_ids world.exports.entries) j (subst (λ (l : List ℕ). Has l j) (included_sides names c world.exports.entries b.exports.items is.brings.exports_are).0 h) in record { id = r.0; goes_is = sym r.2; starts = inr r.1 })

      start_there : (s : ℕ) → IsOfItem world s → s < length types
      start_there s (inl h) = there.0 s h
      start_there s (inr h) = there.1 s h

      -- a type into which the including world sees is a copy
      record SawInto (m : ℕ) (x : CameFrom m) (d : TypeDef) : Type 0 where
        own_is : Has own x.id
        was : TypeDef
        was_at : slice_get types x.id ≡ Some was
        into_was : is_open (belongs.World from) was.owner ≡ true
        copied : IsCopied x.id was
        same : copied.copy_of ≡ d

      local_open : (o : TypeOwner) → is_local from o ≡ true → is_open (belongs.World from) o ≡ true
      local_open belongs.None e = refl
      local_open (belongs.World v) e = e
      local_open (belongs.Interface j) e = absurd cc

      saw_into : (m : ℕ) (x : CameFrom m) (d : TypeDef) → slice_get (types ++ new) m ≡ Some d → is_open (belongs.World into) d.owner ≡ true → SawInto m x d
      saw_into m x d at opened = elim x.sort as (λ _. SawInto m x d) [
        | inl own_is ↦
            let l = own_at x.id own_is in
            let copied = is_copied x.id l.0 own_is l.1 in
            record { own_is = own_is; was = l.0; was_at = l.1; into_was = local_open l.0.owner l.2; copied = copied; same = same_Some copied.copy_of d (sym copied.at ∙ ap (slice_get (types ++ new)) x.goes_is ∙ at) }
        | inr other ↦
            let same : other.0 ≡ d = same_Some other.0 d (sym (other_at x.id other) ∙ ap (slice_get (types ++ new)) x.goes_is ∙ at) in
            let e : is_open (belongs.World into) (belongs.Interface other.2.0) ≡ true = sym (ap (is_open (belongs.World into)) (sym (ap (λ (z : TypeDef). z.owner) same) ∙ other.2.1)) ∙ opened in
            absurd cc
      ]

      -- what that is made of came from what it was made of
      record PartCame (i j : ℕ) (was : TypeDef) : Type 0 where
        id : ℕ
        has : Has (kind_ids was.kind) id
        goes_is : goes c id ≡ j
        def : TypeDef
        at : slice_get types id ≡ Some def

      part_came : (m j : ℕ) (x : CameFrom m) (d : TypeDef) (f : SawInto m x d) → Has (kind_ids d.kind) j → PartCame x.id j f.was
      part_came m j x d f has =
          let r = has_moved (goes c) (kind_ids f.was.kind) j (subst (λ (l : List ℕ). Has l j) f.copied.parts (subst (λ (z : TypeDef). Has (kind_ids z.kind) j) (sym f.same) has)) in
          let down : r.0 < x.id = backward x.id r.0 (f.was, f.was_at, r.1) in
          let low : x.id < length types = slice_get_within types x.id f.was f.was_at in
          let e = got types r.0 (omega (arith, down, low)) in
          record { id = r.0; has = r.1; goes_is = sym r.2; def = e.0; at = e.1 }

      came_part : (m j : ℕ) (x : CameFrom m) (d : TypeDef) (f : SawInto m x d) (part : PartCame x.id j f.was) → IsOwn (belongs.World from) part.def.owner ⊎ IsUse (Has (type_items world.imports.entries)) x.id part.id f.was part.def
      came_part m j x d f part = takes.parts x.first x.id part.id f.was part.def x.starts x.reaches f.was_at f.into_was part.has part.at

      step : (m j : ℕ) → CameFrom m → IsMadeOfWithin (belongs.World into) (types ++ new) m j → CameFrom j
      step m j x (d, at, opened, has) =
          let f = saw_into m x d at opened in
          let part = part_came m j x d f has in
          record {
            id = part.id;
            goes_is = part.goes_is;
            first = x.first;
            starts = x.starts;
            reaches = reaches_more (IsMadeOfWithin (belongs.World from) types) x.first x.id part.id x.reaches (f.was, f.was_at, f.into_was, part.has);
            sort = elim (came_part m j x d f part) as (λ _. Has own part.id ⊎ IsOther part.id) [
              | inl is_own ↦ inl (own_next x.id part.id f.was part.def f.own_is f.was_at part.has part.at is_own)
              | inr u ↦ inr (part.def, part.at, (u.interface, u.of))
            ];
          }

      came_first : (j : ℕ) → IsOfBrought b j → CameFrom j
      came_first j h =
          let x = began j h in
          let d = got types x.id (start_there x.id x.starts) in
          record { id = x.id; goes_is = x.goes_is; first = x.id; starts = x.starts; reaches = ([], refl); sort = inl (own_first x.id d.0 x.starts d.1 (takes.starts x.id d.0 x.starts d.1)) }

      came_from : (j m : ℕ) → IsOfBrought b j → Reaches (IsMadeOfWithin (belongs.World into) (types ++ new)) j m → CameFrom m
      came_from j m h reach = closed_ends (IsMadeOfWithin (belongs.World into) (types ++ new)) CameFrom step j reach.0 m (came_first j h) reach.1

      -- ---- so it takes types by use

      own_is_own : (i : ℕ) (d e : TypeDef) → Has own i → slice_get types i ≡ Some d → IsOwn (belongs.World from) d.owner → slice_get (types ++ new) (goes c i) ≡ Some e → IsOwn (belongs.World into) e.owner
      own_is_own i d e h at is_own at_e =
          let copied = is_copied i d h at in
          let same : copied.copy_of ≡ e = same_Some copied.copy_of e (sym copied.at ∙ at_e) in
          subst (IsOwn (belongs.World into)) (sym copied.owner_is ∙ ap (λ (z : TypeDef). z.owner) same) (own_copied from into d.owner is_own)

      starts_own : (j : ℕ) (d : TypeDef) → IsOfBrought b j → slice_get (types ++ new) j ≡ Some d → IsOwn (belongs.World into) d.owner
      starts_own j d h at =
          let x = began j h in
          let e = got types x.id (start_there x.id x.starts) in
          let is_own = takes.starts x.id e.0 x.starts e.1 in
          own_is_own x.id e.0 d (own_first x.id e.0 x.starts e.1 is_own) e.1 is_own (ap (slice_get (types ++ new)) x.goes_is ∙ at)

      listed_goes : (i : ℕ) → Has (type_items world.imports.entries) i → Has (brought_types b) (goes c i)
      listed_goes i h = subst (λ (l : List ℕ). Has l (goes c i)) (sym (included_sides names c world.imports.entries b.imports.items is.brings.imports_are).1) (map_has (goes c) (type_items world.imports.entries) i h)

      parts_taken : (a m j : ℕ) (d e : TypeDef) → IsOfBrought b a → Reaches (IsMadeOfWithin (belongs.World into) (types ++ new)) a m → slice_get (types ++ new) m ≡ Some d → is_open (belongs.World into) d.owner ≡ true → Has (kind_ids d.kind) j
          → slice_get (types ++ new) j ≡ Some e → IsOwn (belongs.World into) e.owner ⊎ IsUse (Has (brought_types b)) m j d e
      parts_taken a m j d e h reach at opened has at_e =
          let x = came_from a m h reach in
          let f = saw_into m x d at opened in
          let part = part_came m j x d f has in
          let at_goes : slice_get (types ++ new) (goes c part.id) ≡ Some e = ap (slice_get (types ++ new)) part.goes_is ∙ at_e in
          elim (came_part m j x d f part) as (λ _. IsOwn (belongs.World into) e.owner ⊎ IsUse (Has (brought_types b)) m j d e) [
            | inl is_own ↦ inl (own_is_own part.id part.def e (own_next x.id part.id f.was part.def f.own_is f.was_at part.has part.at is_own) part.at is_own at_goes)
            | inr u ↦
                let other : IsOther part.id = (part.def, part.at, (u.interface, u.of)) in
                let same : part.def ≡ e = same_Some part.def e (sym (other_at part.id other) ∙ at_goes) in
                inr (record {
                  is_listed = subst (Has (brought_types b)) x.goes_is (listed_goes x.id u.is_listed);
                  kind_is = sym (ap (λ (z : TypeDef). z.kind) f.same) ∙ f.copied.alias part.id u.kind_is ∙ ap (λ (n : ℕ). kind.Alias (ref.Id n)) part.goes_is;
                  interface = u.interface;
                  of = sym (ap (λ (z : TypeDef). z.owner) same) ∙ u.of;
                })
          ]

      -- ---- and lists what is its own

      owner_back : (o : TypeOwner) → is_local from o ≡ true → copied_owner from into o ≡ belongs.World into → o ≡ belongs.World from
      owner_back belongs.None local its = absurd cc
      owner_back (belongs.Interface j) local its = absurd cc
      owner_back (belongs.World v) local its = ap (λ (n : ℕ). belongs.World n) (eqb-true v from local)

      lists_own : (a m : ℕ) (d : TypeDef) → IsOfBrought b a → Reaches (IsMadeOfWithin (belongs.World into) (types ++ new)) a m → slice_get (types ++ new) m ≡ Some d → d.owner ≡ belongs.World into → Has (brought_types b) m
      lists_own a m d h reach at its =
          let x = came_from a m h reach in
          elim x.sort as (λ _. Has (brought_types b) m) [
            | inl own_is ↦
                let l = own_at x.id own_is in
                let copied = is_copied x.id l.0 own_is l.1 in
                let same : copied.copy_of ≡ d = same_Some copied.copy_of d (sym copied.at ∙ ap (slice_get (types ++ new)) x.goes_is ∙ at) in
                let back : l.0.owner ≡ belongs.World from = owner_back l.0.owner l.2 (sym copied.owner_is ∙ ap (λ (z : TypeDef). z.owner) same ∙ its) in
                subst (Has (brought_types b)) x.goes_is (listed_goes x.id (takes.lists x.first x.id l.0 x.starts x.reaches l.1 back))
            | inr other ↦
                let same : other.0 ≡ d = same_Some other.0 d (sym (other_at x.id other) ∙ ap (slice_get (types ++ new)) x.goes_is ∙ at) in
                let e : belongs.Interface other.2.0 ≡ belongs.World into = sym other.2.1 ∙ ap (λ (z : TypeDef). z.owner) same ∙ its in
                absurd cc
          ]

      brought : TakesByUse (types ++ new) (belongs.World into) (Has (brought_types b)) (IsOfBrought b)
      brought = record { starts = starts_own; parts = parts_taken; lists = lists_own }

pub brought_takes : BroughtTakesByUse
brought_takes names from into types world b backward there is takes = brought names from into types world b backward there is takes
