-- What a world brings to one that includes it uses types of the interfaces that it uses, and imports those that it imports.
use Rattle.std.proofs.Common.{◌≡◌, ℕ, ◌<◌, true, false, List, [], ◌∷◌, ◌++◌, ◌⊎◌, inl, inr, Some, refl, sym, subst, ap, ◌∙◌, arith, length, nat_eq}
use Rattle.std.proofs.lemmas.Bool.{cases_Bool, eq-eqb, eqb-true}
use Rattle.std.proofs.lemmas.Option.{same_Some, slice_get_within}
use Rattle.std.specs.Prelude.{slice_get}
use Rattle.wit_order.specs.Order.{Has}
use Rattle.wit_order.proofs.Lists.{has_was}
use Rattle.wit_types.specs.declared.kind.TypeDefKind.{TypeDefKind}
use Rattle.wit_types.specs.declared.interface.TypeDef.{TypeDef}
use Rattle.wit_types.specs.declared.interface.TypeOwner.{TypeOwner}
use Rattle.wit_types.specs.declared.interface.TypeOwner.TheVariants as belongs
use Rattle.wit_types.specs.declared.world.IncludeName.{IncludeName}
use Rattle.wit_types.specs.declared.world.World.{World}
use Rattle.wit_types.specs.declared.world.WorldItem.{WorldItem}
use Rattle.wit_types.specs.declared.world.WorldItem.TheVariants as item
use Rattle.wit_types.specs.declared.world_key.WorldKey.{WorldKey}
use Rattle.wit_types.specs.declared.world_key.WorldKey.TheVariants as key
use Rattle.wit_moves.specs.Worlds as worlds
use Rattle.wit_moves.specs.Worlds.{IsMovedItem}
use Rattle.wit_labels.specs.Passed.wit_copies-Copies.{Copies, goes, copied_owner, AreCopiedEntries, no_entries, one_entry_more}
use Rattle.wit_labels.specs.Passed.wit_copies-Same as copy
use Rattle.wit_labels.specs.Passed.wit_copies-Same.{IsSameItem, IsSameKey}
use Rattle.wit_labels.specs.Passed.wit_sides-Renames as renamed
use Rattle.wit_labels.specs.Passed.wit_sides-Renames.{IsRenamedKey, IsRenamedItem, AreRenamed}
use Rattle.wit_labels.specs.Passed.wit_includes-Included.{copies_behind, AreIncludedEntries, IsIncluded}
use Rattle.wit_labels.specs.Passed.wit_includes-declared-worlds-Included.{Included}
use Rattle.wit_reach.specs.Deps.{is_of_interface, IsDepOf, AreUsed}
use Rattle.wit_reach.specs.Ids.{kind_ids, item_ids, side_ids}
use Rattle.wit_reach.specs.Lists.{item_type, item_types, type_items, item_interface, listed, listed_in}
use Rattle.wit_reach.specs.Types.{AreTypesBackward, AreTypesThere, AreSidesThere, is_local}
use Rattle.wit_reach.proofs.Growing.{get_same, dep_same}
use Rattle.wit_reach.proofs.Holding.{alias_of, of_alias, got}
use Rattle.wit_reach.proofs.Lists.{has_append, has_parts}
use Rattle.wit_labels.proofs.Passed.wit_copied_trees-Members.{goes_else}
use Rattle.wit_labels.proofs.Passed.wit_copied_trees-MovedIds.{has_moved}
use Rattle.wit_graph_worlds.proofs.Passed.wit_uses-Brought.{is_copied, own_at, included_sides}
use Rattle.wit_item_names.proofs.Sides.{Entry}

-- ---- types of a side

type_id : (v : WorldItem) (i : ℕ) → Has (item_type v) i → Has (item_ids v) i
type_id (item.Interface id stability span) i h = absurd h
type_id (item.Function f) i h = absurd h
type_id (item.TypeItem id span) i h = h

pub type_ids : (es : List Entry) (i : ℕ) → Has (type_items es) i → Has (side_ids es) i
type_ids [] i h = absurd h
type_ids (e ∷ es) i h = elim (has_parts (item_type e.1) (type_items es) i h) as (λ _. Has (item_ids e.1 ++ side_ids es) i) [
  | inl here ↦ has_was (item_ids e.1) (side_ids es) i (type_id e.1 i here)
  | inr later ↦ has_append (item_ids e.1) (side_ids es) i (type_ids es i later)
]

pub types_there : (types : List TypeDef) (es fs : List Entry) → AreTypesThere types (side_ids es) → AreTypesThere types (side_ids fs) → AreTypesThere types (type_items es ++ type_items fs)
types_there types es fs a b i h = elim (has_parts (type_items es) (type_items fs) i h) as (λ _. i < length types) [ inl x ↦ a i (type_ids es i x) | inr y ↦ b i (type_ids fs i y) ]

-- ---- interfaces under their own names

copied_interface : (f : ℕ → ℕ) (x y z : WorldItem) → IsSameItem x y → IsMovedItem f (λ (i : ℕ). i) y z → item_interface z ≡ item_interface x
copied_interface f _ _ _ (copy.same_interface id s t span q) (worlds.moved_interface _ _ _) = refl
copied_interface f _ _ _ (copy.same_function a b same) (worlds.moved_function _ c to) = refl
copied_interface f _ _ _ (copy.same_type id span) (worlds.moved_type _ _) = refl

pub listed_alike : (k l : WorldKey) (i j : WorldItem) → IsSameKey k l → item_interface j ≡ item_interface i → listed (l, j) ≡ listed (k, i)
listed_alike _ _ i j (copy.same_name x y h) e = refl
listed_alike _ _ i j (copy.same_key_interface id) e = e

renamed_interface : (names : List IncludeName) (x y : WorldItem) → IsRenamedItem names x y → item_interface y ≡ item_interface x
renamed_interface names (item.Function f) y h = ap item_interface h.1
renamed_interface names (item.Interface id stability span) y h = ap item_interface h
renamed_interface names (item.TypeItem id span) y h = ap item_interface h

listed_renamed : (names : List IncludeName) (k l : WorldKey) (i j : WorldItem) → IsRenamedKey names k l → item_interface j ≡ item_interface i → listed (l, j) ≡ listed (k, i)
listed_renamed names (key.Name x) l i j h e = ap (λ (z : WorldKey). listed (z, j)) h.1
listed_renamed names (key.Interface n) l i j h e = ap (λ (z : WorldKey). listed (z, j)) h ∙ e

copied_listed : (c : Copies) (es fs : List Entry) → AreCopiedEntries c es fs → listed_in fs ≡ listed_in es
copied_listed c _ _ no_entries = refl
copied_listed c _ _ (one_entry_more k l i j es fs k_l it rest) =
    ap (λ (xs : List ℕ). xs ++ listed_in fs) (listed_alike k l i j k_l (copied_interface (goes c) i it.0 j it.1 it.2)) ∙ ap (λ (xs : List ℕ). listed (k, i) ++ xs) (copied_listed c es fs rest)

renamed_listed : (names : List IncludeName) (es fs : List Entry) → AreRenamed names es fs → listed_in fs ≡ listed_in es
renamed_listed names _ _ renamed.no_entries = refl
renamed_listed names _ _ (renamed.one_more k l i j es fs k_l it rest) =
    ap (λ (xs : List ℕ). xs ++ listed_in fs) (listed_renamed names k l i j k_l (renamed_interface names i j it)) ∙ ap (λ (xs : List ℕ). listed (k, i) ++ xs) (renamed_listed names es fs rest)

pub included_listed : (names : List IncludeName) (c : Copies) (es fs : List Entry) → AreIncludedEntries names c es fs → listed_in fs ≡ listed_in es
included_listed names c es fs h = renamed_listed names h.0 fs h.2 ∙ copied_listed c es h.0 h.1

-- ---- types that are other names of types of interfaces

has_or_not : (xs : List ℕ) (x : ℕ) → Has xs x ⊎ (Has xs x → ⊥)
has_or_not [] x = inr (λ h. h)
has_or_not (y ∷ ys) x = elim (cases_Bool (nat_eq x y)) as (λ _. Has (y ∷ ys) x ⊎ (Has (y ∷ ys) x → ⊥)) [
  | inl same ↦ inl (inl (eqb-true x y same))
  | inr differ ↦ elim (has_or_not ys x) as (λ _. Has (y ∷ ys) x ⊎ (Has (y ∷ ys) x → ⊥)) [
    | inl later ↦ inl (inr later)
    | inr none ↦ inr (λ h. elim h as (λ _. ⊥) [ inl here ↦ (let e = eq-eqb x y here in absurd cc) | inr later ↦ none later ])
  ]
]

local_other : (w j : ℕ) (o : TypeOwner) → is_local w o ≡ true → is_of_interface j o ≡ false
local_other w j (belongs.Interface i) h = absurd cc
local_other w j (belongs.World v) h = refl
local_other w j belongs.None h = refl

local_copied : (from into j w : ℕ) (o : TypeOwner) → is_local w o ≡ true → copied_owner from into o ≡ belongs.Interface j → ⊥
local_copied from into j w (belongs.Interface i) h e = absurd (let l : false ≡ true = h in cc)
local_copied from into j w (belongs.World v) h e = absurd cc
local_copied from into j w belongs.None h e = absurd cc

module _ (names : List IncludeName) (from into : ℕ) (types : List TypeDef) (world : World) (b : Included) (backward : AreTypesBackward types) (there : AreSidesThere types world) (is : IsIncluded names from into types world b) where
  abbrev own : List ℕ
  own = is.own

  abbrev c : Copies
  c = copies_behind types own

  abbrev all : List TypeDef
  all = types ++ b.types.items

  -- a copy is another name of what the type is one of
  own_dep : (k j : ℕ) → Has own k → IsDepOf all (goes c k) j → IsDepOf types k j
  own_dep k j h (e, at_e, dep) =
      let l = own_at names from into types world b backward there is k h in
      let copied = is_copied names from into types world b backward there is k l.0 h l.1 in
      let same : copied.copy_of ≡ e = same_Some copied.copy_of e (sym copied.at ∙ at_e) in
      let a = alias_of all e j dep in
      let p = copied.alias_was a.target (ap (λ (z : TypeDef). z.kind) same ∙ a.kind_is) in
      let down : p.0 < k = backward k p.0 (l.0, l.1, subst (λ (z : TypeDefKind). Has (kind_ids z) p.0) (sym p.1) (inl refl)) in
      let low : k < length types = slice_get_within types k l.0 l.1 in
      let d = got types p.0 (omega (arith, down, low)) in
      let not_own : (Has own p.0 → ⊥) = λ o.
      (let m = own_at names from into types world b backward there is p.0 o in
      let twin = is_copied names from into types world b backward there is p.0 m.0 o m.1 in
      let one : twin.copy_of ≡ a.of = same_Some twin.copy_of a.of (sym twin.at ∙ ap (slice_get all) p.2 ∙ a.there) in
      local_copied from into j from m.0.owner m.2 (sym twin.owner_is ∙ ap (λ (z : TypeDef). z.owner) one ∙ a.owner))
      in
      let stays : p.0 ≡ a.target = sym (goes_else types own p.0 not_own) ∙ p.2 in
      let of : slice_get types p.0 ≡ Some a.of = sym (get_same types b.types.items p.0 (omega (arith, down, low))) ∙ ap (slice_get all) stays ∙ a.there in
      (l.0, l.1, of_alias types l.0 j (record { target = p.0; of = a.of; kind_is = p.1; there = of; owner = a.owner; other = local_other from j l.0.owner l.2 }))

  -- and what is no copy is where it was
  other_dep : (k j : ℕ) → k < length types → (Has own k → ⊥) → IsDepOf all (goes c k) j → IsDepOf types k j
  other_dep k j low not_own (e, at_e, dep) =
      let here : slice_get types k ≡ Some e = sym (get_same types b.types.items k low) ∙ ap (slice_get all) (sym (goes_else types own k not_own)) ∙ at_e in
      (e, here, sym (dep_same types b.types.items backward k e here) ∙ dep)

  included_dep : (k j : ℕ) → k < length types → IsDepOf all (goes c k) j → IsDepOf types k j
  included_dep k j low dep = elim (has_or_not own k) as (λ _. IsDepOf types k j) [ inl h ↦ own_dep k j h dep | inr none ↦ other_dep k j low none dep ]

  pub included_used : (j : ℕ) → AreUsed all (type_items b.imports.items ++ type_items b.exports.items) j → AreUsed types (item_types world) j
  included_used j (i, has, dep) = elim (has_parts (type_items b.imports.items) (type_items b.exports.items) i has) as (λ _. AreUsed types (item_types world) j) [
    | inl first ↦
        let r = has_moved (goes c) (type_items world.imports.entries) i (subst (λ (l : List ℕ). Has l i) (included_sides names c world.imports.entries b.imports.items is.brings.imports_are).1 first) in
        (r.0, has_was (type_items world.imports.entries) (type_items world.exports.entries) r.0 r.1, included_dep r.0 j (there.0 r.0 (type_ids world.imports.entries r.0 r.1)) (subst (λ (n : ℕ). IsDepOf all n j) r.2 dep))
    | inr second ↦
        let r = has_moved (goes c) (type_items world.exports.entries) i (subst (λ (l : List ℕ). Has l i) (included_sides names c world.exports.entries b.exports.items is.brings.exports_are).1 second) in
        (r.0, has_append (type_items world.imports.entries) (type_items world.exports.entries) r.0 r.1, included_dep r.0 j (there.1 r.0 (type_ids world.exports.entries r.0 r.1)) (subst (λ (n : ℕ). IsDepOf all n j) r.2 dep))
  ]
