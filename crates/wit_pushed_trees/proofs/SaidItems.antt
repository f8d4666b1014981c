-- Items that a world has of an included one are copies of its items.
use Rattle.std.proofs.Common.{◌≡◌, ℕ, List, ◌∷◌, inl, inr, refl, sym, subst, ap, ◌∙◌}
use Rattle.std.specs.Prelude.{String, string_bytes}
use Rattle.std.specs.declared.alloc.Global.{Global}
use Rattle.wit_words.specs.declared.source_map.Span.{Span}
use Rattle.wit_types.specs.WorldKey.{known, spelled}
use Rattle.wit_types.specs.declared.function.Function.{Function}
use Rattle.wit_types.specs.declared.stability.Stability.{Stability}
use Rattle.wit_types.specs.declared.world.IncludeName.{IncludeName}
use Rattle.wit_types.specs.declared.world.WorldItem.{WorldItem}
use Rattle.wit_types.specs.declared.world.WorldItem.TheVariants as item
use Rattle.wit_types.specs.declared.world_key.WorldKey.{WorldKey}
use Rattle.wit_sides.specs.Renames as renames
use Rattle.wit_sides.specs.Renames.{IsRenamedKey, IsRenamed, AreRenamed, IsRenamedItem}
use Rattle.wit_copies.specs.Copies as copies
use Rattle.wit_copies.specs.Copies.{Copies, goes, IsCopiedItem, AreCopiedEntries}
use Rattle.wit_copies.specs.Same.{IsSameKey, same_name, same_key_interface, IsSameFunction, IsSameItem, same_interface, same_function, same_type}
use Rattle.wit_moves.specs.Moved.{IsMovedFunction}
use Rattle.wit_moves.specs.Worlds.{IsMovedItem, moved_interface, moved_function, moved_type}
use Rattle.wit_includes.specs.Included.{AreIncludedEntries}
use Rattle.wit_arena.specs.Tree.{Name}
use Rattle.wit_arena.specs.Meaning.{Has}
use Rattle.wit_arena.proofs.Lists.{has_none, has_here, has_later, has_cases}

-- an item that comes, renamed, of one that was there
pub record Came (names : List IncludeName) (c : Copies) (es : List (WorldKey × WorldItem)) (k : WorldKey) (i : WorldItem) : Type 0 where
  pub first : WorldKey
  pub item_was : WorldItem
  pub there : Has es (first, item_was)
  pub copied : WorldItem
  pub is_copied : IsCopiedItem c item_was copied
  pub is_renamed : IsRenamedItem names copied i
  pub between : WorldKey
  pub same_key : IsSameKey first between
  pub renamed_key : IsRenamedKey names between k

renamed_at : (names : List IncludeName) (es fs : List (WorldKey × WorldItem)) → AreRenamed names es fs → (k : WorldKey) (i : WorldItem) → Has fs (k, i) → (l : WorldKey) × (j : WorldItem) × Has es (l, j) × IsRenamedItem names j i × IsRenamedKey names l k
renamed_at names _ _ renames.no_entries k i has = absurd (has_none (k, i) has)
renamed_at names _ _ (renames.one_more l m j i0 es fs key renamed rest) k i has = elim (has_cases (m, i0) fs (k, i) has) as (λ _. (n : WorldKey) × (x : WorldItem) × Has ((l, j) ∷ es) (n, x) × IsRenamedItem names x i × IsRenamedKey names n k) [
  | inl here ↦ (l, j, has_here (l, j) es, subst (IsRenamedItem names j) (sym (ap (λ (e : WorldKey × WorldItem). e.1) here)) renamed, subst (IsRenamedKey names l) (sym (ap (λ (e : WorldKey × WorldItem). e.0) here)) key)
  | inr later ↦ (let r = renamed_at names es fs rest k i later in (r.0, r.1, has_later (l, j) es (r.0, r.1) r.2, r.3, r.4))
]

copied_at : (c : Copies) (es fs : List (WorldKey × WorldItem)) → AreCopiedEntries c es fs → (k : WorldKey) (i : WorldItem) → Has fs (k, i) → (l : WorldKey) × (j : WorldItem) × Has es (l, j) × IsCopiedItem c j i × IsSameKey l k
copied_at c _ _ copies.no_entries k i has = absurd (has_none (k, i) has)
copied_at c _ _ (copies.one_entry_more l m j i0 es fs key copied rest) k i has = elim (has_cases (m, i0) fs (k, i) has) as (λ _. (n : WorldKey) × (x : WorldItem) × Has ((l, j) ∷ es) (n, x) × IsCopiedItem c x i × IsSameKey n k) [
  | inl here ↦ (l, j, has_here (l, j) es, subst (IsCopiedItem c j) (sym (ap (λ (e : WorldKey × WorldItem). e.1) here)) copied, subst (IsSameKey l) (sym (ap (λ (e : WorldKey × WorldItem). e.0) here)) key)
  | inr later ↦ (let r = copied_at c es fs rest k i later in (r.0, r.1, has_later (l, j) es (r.0, r.1) r.2, r.3, r.4))
]

pub came : (names : List IncludeName) (c : Copies) (es fs : List (WorldKey × WorldItem)) → AreIncludedEntries names c es fs → (k : WorldKey) (i : WorldItem) → Has fs (k, i) → Came names c es k i
came names c es fs (between, copied, renamed) k i has =
    let r = renamed_at names between fs renamed k i has in
    let o = copied_at c es between copied r.0 r.1 r.2 in
    record { first = o.0; item_was = o.1; there = o.2; copied = r.1; is_copied = o.3; is_renamed = r.3; between = r.0; same_key = o.4; renamed_key = r.4 }

-- a function comes of a function
pub record CameFunction (names : List IncludeName) (c : Copies) (es : List (WorldKey × WorldItem)) (h : Function) : Type 0 where
  pub key : WorldKey
  pub f : Function
  pub there : Has es (key, item.Function f)
  pub g : Function
  pub is_same : IsSameFunction f g
  pub between : Function
  pub is_moved : IsMovedFunction (goes c) g between
  pub to : String Global
  pub is : h ≡ record between { name = to }
  pub renamed : IsRenamed names (string_bytes between.name) (string_bytes to)

function_eq : (f g : Function) → item.Function f ≡ item.Function g → f ≡ g
function_eq f g e = cc

moved_from : (c : Copies) (v : WorldItem) (g : Function) → IsMovedItem (goes c) (λ (i : ℕ). i) v (item.Function g) → (f : Function) × (v ≡ item.Function f) × IsMovedFunction (goes c) f g
moved_from c _ _ (moved_function f g is) = (f, refl, is)

pub same_from : (v : WorldItem) (g : Function) → IsSameItem v (item.Function g) → (f : Function) × (v ≡ item.Function f) × IsSameFunction f g
same_from _ _ (same_function f g is) = (f, refl, is)

pub came_function : (names : List IncludeName) (c : Copies) (es : List (WorldKey × WorldItem)) (k : WorldKey) (h : Function) → Came names c es k (item.Function h) → CameFunction names c es h
came_function names c es k h r = by r.copied refl r.is_renamed
  where
    by : (x : WorldItem) → r.copied ≡ x → IsRenamedItem names x (item.Function h) → CameFunction names c es h
    by (item.Function b) is renamed =
        let moved = moved_from c r.is_copied.0 b (subst (λ (x : WorldItem). IsMovedItem (goes c) (λ (i : ℕ). i) r.is_copied.0 x) is r.is_copied.2) in
        let same = same_from r.item_was moved.0 (subst (IsSameItem r.item_was) moved.1 r.is_copied.1) in
        record {
          key = r.first;
          f = same.0;
          there = subst (λ (x : WorldItem). Has es (r.first, x)) same.1 r.there;
          g = moved.0;
          is_same = same.2;
          between = b;
          is_moved = moved.2;
          to = renamed.0;
          is = function_eq h (record b { name = renamed.0 }) renamed.1;
          renamed = renamed.2;
        }
    by (item.Interface i gate span) is renamed = absurd cc
    by (item.TypeItem i span) is renamed = absurd cc

-- a type of one
type_eq : (i j : ℕ) (s t : Span) → item.TypeItem i s ≡ item.TypeItem j t → i ≡ j
type_eq i j s t e = cc

moved_type_from : (c : Copies) (v : WorldItem) (i : ℕ) (s : Span) → IsMovedItem (goes c) (λ (i : ℕ). i) v (item.TypeItem i s) → (j : ℕ) × (v ≡ item.TypeItem j s) × (i ≡ goes c j)
moved_type_from c _ _ _ (moved_type j s) = (j, refl, refl)

pub same_type_from : (v : WorldItem) (i : ℕ) (s : Span) → IsSameItem v (item.TypeItem i s) → v ≡ item.TypeItem i s
same_type_from _ _ _ (same_type i s) = refl

pub came_type : (names : List IncludeName) (c : Copies) (es : List (WorldKey × WorldItem)) (k : WorldKey) (i : ℕ) (span : Span) → (r : Came names c es k (item.TypeItem i span)) → (j : ℕ) × (s : Span) × Has es (r.first, item.TypeItem j s) × (i ≡ goes c j)
came_type names c es k i span r = by r.copied refl r.is_renamed
  where
    by : (x : WorldItem) → r.copied ≡ x → IsRenamedItem names x (item.TypeItem i span) → (j : ℕ) × (s : Span) × Has es (r.first, item.TypeItem j s) × (i ≡ goes c j)
    by (item.Function b) is renamed = absurd (let bad : item.TypeItem i span ≡ item.Function (record b { name = renamed.0 }) = renamed.1 in cc)
    by (item.Interface j g s) is renamed = absurd (let bad : item.TypeItem i span ≡ item.Interface j g s = renamed in cc)
    by (item.TypeItem j s) is renamed =
        let moved = moved_type_from c r.is_copied.0 j s (subst (λ (x : WorldItem). IsMovedItem (goes c) (λ (i : ℕ). i) r.is_copied.0 x) is r.is_copied.2) in
        let same = same_type_from r.item_was moved.0 s (subst (IsSameItem r.item_was) moved.1 r.is_copied.1) in
        (moved.0, s, subst (λ (x : WorldItem). Has es (r.first, x)) same r.there, type_eq i j span s renamed ∙ moved.2)

-- by its key
pub key_came : (names : List IncludeName) (k l n : WorldKey) (x : Name) → IsSameKey k l → IsRenamedKey names l n → known k ≡ spelled x → (y : Name) × (known n ≡ spelled y) × IsRenamed names x y
key_came names _ _ n x (same_name a b same) renamed by = (
  string_bytes renamed.0,
  ap known renamed.1,
  subst (λ (z : Name). IsRenamed names z (string_bytes renamed.0)) (same ∙ spelled_eq (string_bytes a) x by) renamed.2,
)
  where
    spelled_eq : (p q : Name) → spelled p ≡ spelled q → p ≡ q
    spelled_eq p q e = cc
key_came names _ _ n x (same_key_interface id) renamed by = absurd cc

pub key_same : (k l : WorldKey) (x : Name) → IsSameKey k l → known k ≡ spelled x → known l ≡ spelled x
key_same _ _ x (same_name a b same) by = ap spelled same ∙ by
key_same _ _ x (same_key_interface id) by = by

-- and an interface of the same
interface_eq : (i j : ℕ) (g d : Stability) (s t : Span) → item.Interface i g s ≡ item.Interface j d t → i ≡ j
interface_eq i j g d s t e = cc

moved_interface_from : (c : Copies) (v : WorldItem) (i : ℕ) (g : Stability) (s : Span) → IsMovedItem (goes c) (λ (i : ℕ). i) v (item.Interface i g s) → v ≡ item.Interface i g s
moved_interface_from c _ _ _ _ (moved_interface i g s) = refl

pub same_interface_from : (v : WorldItem) (i : ℕ) (g : Stability) (s : Span) → IsSameItem v (item.Interface i g s) → (d : Stability) × (v ≡ item.Interface i d s)
same_interface_from _ _ _ _ (same_interface i d g s same) = (d, refl)

pub came_interface : (names : List IncludeName) (c : Copies) (es : List (WorldKey × WorldItem)) (k : WorldKey) (i : ℕ) (gate : Stability) (span : Span) → Came names c es k (item.Interface i gate span) → (l : WorldKey) × (d : Stability) × (s : Span) × Has es (l, item.Interface i d s)
came_interface names c es k i gate span r = by r.copied refl r.is_renamed
  where
    by : (x : WorldItem) → r.copied ≡ x → IsRenamedItem names x (item.Interface i gate span) → (l : WorldKey) × (d : Stability) × (s : Span) × Has es (l, item.Interface i d s)
    by (item.Function b) is renamed = absurd (let bad : item.Interface i gate span ≡ item.Function (record b { name = renamed.0 }) = renamed.1 in cc)
    by (item.Interface j g s) is renamed =
        let same_id : i ≡ j = interface_eq i j gate g span s renamed in
        let moved = moved_interface_from c r.is_copied.0 j g s (subst (λ (x : WorldItem). IsMovedItem (goes c) (λ (i : ℕ). i) r.is_copied.0 x) is r.is_copied.2) in
        let same = same_interface_from r.item_was j g s (subst (IsSameItem r.item_was) moved r.is_copied.1) in
        (r.first, same.0, s, subst (λ (n : ℕ). Has es (r.first, item.Interface n same.0 s)) (sym same_id) (subst (λ (x : WorldItem). Has es (r.first, x)) same.1 r.there))
    by (item.TypeItem j s) is renamed = absurd (let bad : item.Interface i gate span ≡ item.TypeItem j s = renamed in cc)
