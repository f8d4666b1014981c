-- Where entries come from that an included world brings.
use Rattle.std.proofs.Common.{◌≡◌, ℕ, List, [], inl, inr, String, refl, sym, subst, ap, ◌∙◌}
use Rattle.std.specs.Prelude.{string_bytes}
use Rattle.std.specs.declared.alloc.Global.{Global}
use Rattle.wit_order.specs.Order.{Has}
use Rattle.wit_words.specs.declared.source_map.Span.{Span}
use Rattle.wit_types.specs.declared.function.Function.{Function}
use Rattle.wit_types.specs.declared.world.IncludeName.{IncludeName}
use Rattle.wit_types.specs.declared.world.WorldItem.{WorldItem}
use Rattle.wit_types.specs.declared.world.WorldItem.TheVariants as item
use Rattle.wit_types.specs.declared.world_key.WorldKey.{WorldKey}
use Rattle.wit_types.specs.declared.world_key.WorldKey.TheVariants as key
use Rattle.wit_moves.specs.Worlds as worlds
use Rattle.wit_moves.specs.Worlds.{IsMovedItem}
use Rattle.wit_labels.specs.Passed.wit_copies-Copies.{Copies, IsCopiedItem, AreCopiedEntries, no_entries, one_entry_more}
use Rattle.wit_labels.specs.Passed.wit_copies-Same as copy
use Rattle.wit_labels.specs.Passed.wit_copies-Same.{IsSameItem, IsSameKey}
use Rattle.wit_labels.specs.Passed.wit_sides-Renames as renamed
use Rattle.wit_labels.specs.Passed.wit_sides-Renames.{IsRenamed, IsRenamedKey, IsRenamedItem, AreRenamed}
use Rattle.wit_labels.specs.Passed.wit_includes-Included.{AreIncludedEntries}
use Rattle.wit_item_names.proofs.Sides.{Entry}

abbrev pub text_of_key : WorldKey → List ℕ
text_of_key (key.Name x) = string_bytes x
text_of_key (key.Interface i) = []

abbrev pub text_of_item : WorldItem → List ℕ
text_of_item (item.Function f) = string_bytes f.name
text_of_item (item.Interface id stability span) = []
text_of_item (item.TypeItem id span) = []

-- ---- keys

renamed_name : (names : List IncludeName) (k : WorldKey) (x : String Global) → IsRenamedKey names k (key.Name x) → (y : String Global) × (k ≡ key.Name y) × IsRenamed names (string_bytes y) (string_bytes x)
renamed_name names (key.Name y) x (z, e, h) = (y, refl, subst (IsRenamed names (string_bytes y)) (sym (ap text_of_key e)) h)
renamed_name names (key.Interface i) x e = absurd cc

pub same_name : (k l : WorldKey) → IsSameKey k l → (y : String Global) → l ≡ key.Name y → (x : String Global) × (k ≡ key.Name x) × (string_bytes y ≡ string_bytes x)
same_name _ _ (copy.same_name x z h) y e = (x, refl, sym (ap text_of_key e) ∙ h)
same_name _ _ (copy.same_key_interface id) y e = absurd cc

-- ---- entries

record CopiedFrom (c : Copies) (es : List Entry) (e : Entry) : Type 0 where
  was : Entry
  has : Has es was
  keys : IsSameKey was.0 e.0
  items : IsCopiedItem c was.1 e.1

copied_from : (c : Copies) (es fs : List Entry) → AreCopiedEntries c es fs → (e : Entry) → Has fs e → CopiedFrom c es e
copied_from c _ _ no_entries e h = absurd h
copied_from c _ _ (one_entry_more k l i j es fs k_l it rest) e (inl here) = record { was = (k, i); has = inl refl; keys = subst (λ (x : Entry). IsSameKey k x.0) (sym here) k_l; items = subst (λ (x : Entry). IsCopiedItem c i x.1) (sym here) it }
copied_from c _ _ (one_entry_more k l i j es fs k_l it rest) e (inr later) = (let r = copied_from c es fs rest e later in record { was = r.was; has = inr r.has; keys = r.keys; items = r.items })

record RenamedFrom (names : List IncludeName) (es : List Entry) (e : Entry) : Type 0 where
  was : Entry
  has : Has es was
  keys : IsRenamedKey names was.0 e.0
  items : IsRenamedItem names was.1 e.1

renamed_from : (names : List IncludeName) (es fs : List Entry) → AreRenamed names es fs → (e : Entry) → Has fs e → RenamedFrom names es e
renamed_from names _ _ renamed.no_entries e h = absurd h
renamed_from names _ _ (renamed.one_more k l i j es fs k_l it rest) e (inl here) = record { was = (k, i); has = inl refl; keys = subst (λ (x : Entry). IsRenamedKey names k x.0) (sym here) k_l; items = subst (λ (x : Entry). IsRenamedItem names i x.1) (sym here) it }
renamed_from names _ _ (renamed.one_more k l i j es fs k_l it rest) e (inr later) = (let r = renamed_from names es fs rest e later in record { was = r.was; has = inr r.has; keys = r.keys; items = r.items })

-- what stands under a plain name stood under one
pub record NamedFrom (names : List IncludeName) (c : Copies) (es : List Entry) (x : String Global) (j : WorldItem) : Type 0 where
  pub name : String Global
  pub was : WorldItem
  pub has : Has es (key.Name name, was)
  pub becomes : IsRenamed names (string_bytes name) (string_bytes x)
  pub clone : WorldItem
  pub copied : IsCopiedItem c was clone
  pub renamed : IsRenamedItem names clone j

pub named_from : (names : List IncludeName) (c : Copies) (es fs : List Entry) → AreIncludedEntries names c es fs → (x : String Global) (j : WorldItem) → Has fs (key.Name x, j) → NamedFrom names c es x j
named_from names c es fs h x j has =
    let r = renamed_from names h.0 fs h.2 (key.Name x, j) has in
    let k = renamed_name names r.was.0 x r.keys in
    let q = copied_from c es h.0 h.1 r.was r.has in
    let l = same_name q.was.0 r.was.0 q.keys k.0 k.1 in
    record {
      name = l.0;
      was = q.was.1;
      has = subst (λ (z : WorldKey). Has es (z, q.was.1)) l.1 q.has;
      becomes = subst (λ (t : List ℕ). IsRenamed names t (string_bytes x)) l.2 k.2;
      clone = r.was.1;
      copied = q.items;
      renamed = r.items;
    }

-- ---- items

-- a function was one, of that name
pub function_from : (f : ℕ → ℕ) (x y z : WorldItem) → IsSameItem x y → IsMovedItem f (λ (i : ℕ). i) y z → (g : Function) → z ≡ item.Function g → (h : Function) × (x ≡ item.Function h) × (string_bytes g.name ≡ string_bytes h.name)
function_from f _ _ _ (copy.same_interface id s t span same) (worlds.moved_interface _ _ _) g e = absurd cc
function_from f _ _ _ (copy.same_function a b same) (worlds.moved_function _ c m) g e = (a, refl, sym (ap text_of_item e) ∙ ap string_bytes m.name ∙ same.name)
function_from f _ _ _ (copy.same_type id span) (worlds.moved_type _ _) g e = absurd cc

pub renamed_function : (names : List IncludeName) (x : WorldItem) (g : Function) → IsRenamedItem names x (item.Function g) → (h : Function) × (x ≡ item.Function h) × IsRenamed names (string_bytes h.name) (string_bytes g.name)
renamed_function names (item.Function h) g (y, e, r) = (h, refl, subst (IsRenamed names (string_bytes h.name)) (sym (ap text_of_item e)) r)
renamed_function names (item.Interface id stability span) g e = absurd cc
renamed_function names (item.TypeItem id span) g e = absurd cc

abbrev type_or : ℕ → WorldItem → ℕ
type_or d (item.TypeItem id span) = id
type_or d (item.Interface id stability span) = d
type_or d (item.Function f) = d

-- and a type one that goes there
pub type_from : (f : ℕ → ℕ) (x y z : WorldItem) → IsSameItem x y → IsMovedItem f (λ (i : ℕ). i) y z → (id : ℕ) (span : Span) → z ≡ item.TypeItem id span → (i : ℕ) × (at : Span) × (x ≡ item.TypeItem i at) × (f i ≡ id)
type_from f _ _ _ (copy.same_interface i s t at same) (worlds.moved_interface _ _ _) id span e = absurd cc
type_from f _ _ _ (copy.same_function a b same) (worlds.moved_function _ c m) id span e = absurd cc
type_from f _ _ _ (copy.same_type i at) (worlds.moved_type _ _) id span e = (i, at, refl, ap (type_or id) e)

pub renamed_type : (names : List IncludeName) (x : WorldItem) (id : ℕ) (span : Span) → IsRenamedItem names x (item.TypeItem id span) → x ≡ item.TypeItem id span
renamed_type names (item.Function h) id span (y, e, r) = absurd cc
renamed_type names (item.Interface i stability at) id span e = absurd cc
renamed_type names (item.TypeItem i at) id span e = sym e
