-- What worlds that say the same bring to one that includes them says the same.
use Rattle.std.proofs.Common.{◌≡◌, ℕ, Bool, true, false, List, ◌∷◌, Option, Some, None, String, refl, sym, ap, ap₂, subst, ◌∙◌, map, option_map}
use Rattle.std.proofs.lemmas.Option.{same_Some}
use Rattle.std.specs.Prelude.{string_bytes, slice_get}
use Rattle.std.specs.declared.alloc.Global.{Global}
use Rattle.wit_types.specs.declared.interface.TypeDef.{TypeDef}
use Rattle.wit_types.specs.declared.interface.TypeOwner.{TypeOwner}
use Rattle.wit_types.specs.declared.world.IncludeName.{IncludeName}
use Rattle.wit_types.specs.declared.world.World.{World}
use Rattle.wit_types.specs.declared.world.WorldItem.{WorldItem}
use Rattle.wit_types.specs.declared.world.WorldItem.TheVariants as item
use Rattle.wit_types.specs.declared.world_key.WorldKey.{WorldKey}
use Rattle.wit_types.specs.declared.world_key.WorldKey.TheVariants as key
use Rattle.wit_types.specs.WorldKey.{Known, spelled, known}
use Rattle.wit_copies.specs.Copies.{Copies, goes, copied_owner, IsCopiedDef, AreCopied, no_types, one_more, IsCopiedItem, AreCopiedEntries, no_entries, one_entry_more}
use Rattle.wit_sides.specs.Renames as renames
use Rattle.wit_sides.specs.Renames.{IsRenamedKey, IsRenamedItem, AreRenamed}
use Rattle.wit_includes.specs.Included as included
use Rattle.wit_includes.specs.Included.{is_of_world, IsRenamedName, IsRenamedDef, AreRenamedDefs, copies_behind, IsIncluded}
use Rattle.wit_includes.specs.declared.worlds.Included.{Included}
use Rattle.wit_push_causes.specs.Said
use Rattle.wit_push_causes.specs.Said.{Text, SaidType, SaidFunction, SaidItem, SaidEntry, SaidWorld, text_said, type_said, function_said, item_said, entry_said, world_said}
use Rattle.wit_push_causes.proofs.Lists.{head_of, tail_of, not_empty, same_heads, same_size, same_get}
use Rattle.wit_push_causes.proofs.Forms.{moved_type, moved_type_said, moved_item, moved_item_said}
use Rattle.wit_push_causes.proofs.Uses.{world_types_one}
use Rattle.wit_push_causes.proofs.Renames.{renamed_one}
use Rattle.wit_push_causes.proofs.Clones.{type_clone, item_clone, key_clone}

-- ---- types

copied_said : (c : Copies) (from into : ℕ) (d e : TypeDef) → IsCopiedDef c from into d e → type_said e ≡ moved_type (goes c) (copied_owner from into d.owner) (type_said d)
copied_said c from into d e h = moved_type_said (goes c) (copied_owner from into d.owner) h.0 e h.2 ∙ ap (moved_type (goes c) (copied_owner from into d.owner)) (type_clone d h.0 h.1)

module _ (c : Copies) (from into : ℕ) (ds es : List TypeDef) (same : map type_said ds ≡ map type_said es) where
  copy_same : (i : ℕ) (d x e y : TypeDef) → slice_get ds i ≡ Some d → slice_get es i ≡ Some e → IsCopiedDef c from into d x → IsCopiedDef c from into e y → type_said x ≡ type_said y
  copy_same i d x e y at there a b =
      let is : type_said d ≡ type_said e = same_Some (type_said d) (type_said e) (ap (option_map type_said) (sym at) ∙ same_get type_said ds es same i ∙ ap (option_map type_said) there) in
      copied_said c from into d x a
      ∙ ap (λ (t : SaidType). moved_type (goes c) (copied_owner from into t.owner) t) is
      ∙ sym (copied_said c from into e y b)

  copies_same : (own : List ℕ) (xs ys : List TypeDef) → AreCopied c from into ds own xs → AreCopied c from into es own ys → map type_said xs ≡ map type_said ys
  copies_same _ _ _ no_types no_types = refl
  copies_same _ _ _ (one_more i d x own xs at a more) (one_more _ e y _ ys there b others) =
      same_heads (type_said x) (type_said y) (map type_said xs) (map type_said ys) (copy_same i d x e y at there a b) (copies_same own xs ys more others)

module _ (names : List IncludeName) (w : ℕ) where
  name_changed : (d e x y : TypeDef) → type_said d ≡ type_said e → (b : Bool) (m n : Option (String Global)) → text_said m ≡ text_said n → IsRenamedName names b d m x → IsRenamedName names b e n y → type_said x ≡ type_said y
  name_changed d e x y same false m n spelt a b = ap type_said a ∙ same ∙ sym (ap type_said b)
  name_changed d e x y same true None None spelt a b = ap type_said a ∙ same ∙ sym (ap type_said b)
  name_changed d e x y same true None (Some n) spelt a b = absurd cc
  name_changed d e x y same true (Some m) None spelt a b = absurd cc
  name_changed d e x y same true (Some m) (Some n) spelt (s, a, is) (t, b, also) =
      let text : string_bytes s ≡ string_bytes t = renamed_one names (string_bytes m) (string_bytes n) (string_bytes s) (string_bytes t) (same_Some (string_bytes m) (string_bytes n) spelt) a b in
      ap type_said is
      ∙ ap₂ (λ (k : Text) (t : SaidType). record t { name = Some k }) text same
      ∙ sym (ap type_said also)

  def_renamed : (d e x y : TypeDef) → type_said d ≡ type_said e → IsRenamedDef names w d x → IsRenamedDef names w e y → type_said x ≡ type_said y
  def_renamed d e x y same a b =
      name_changed d e x y same (is_of_world w d.owner) d.name e.name (ap (λ (t : SaidType). t.name) same) a
      (subst (λ (o : TypeOwner). IsRenamedName names (is_of_world w o) e e.name y) (sym (ap (λ (t : SaidType). t.owner) same)) b)

  defs_renamed : (ds es xs ys : List TypeDef) → map type_said ds ≡ map type_said es → AreRenamedDefs names w ds xs → AreRenamedDefs names w es ys → map type_said xs ≡ map type_said ys
  defs_renamed _ _ _ _ same included.no_types included.no_types = refl
  defs_renamed _ _ _ _ same included.no_types (included.one_more e y es ys b others) = absurd (not_empty (type_said e) (map type_said es) same)
  defs_renamed _ _ _ _ same (included.one_more d x ds xs a more) included.no_types = absurd (not_empty (type_said d) (map type_said ds) (sym same))
  defs_renamed _ _ _ _ same (included.one_more d x ds xs a more) (included.one_more e y es ys b others) =
      same_heads (type_said x) (type_said y) (map type_said xs) (map type_said ys)
      (def_renamed d e x y (head_of (type_said d) (type_said e) (map type_said ds) (map type_said es) same) a b)
      (defs_renamed ds es xs ys (tail_of (type_said d) (type_said e) (map type_said ds) (map type_said es) same) more others)

-- ---- entries

abbrev copied_entry : Copies → SaidEntry → SaidEntry
copied_entry c e = (e.0, moved_item (goes c) (λ (i : ℕ). i) e.1)

item_copied : (c : Copies) (i j : WorldItem) → IsCopiedItem c i j → item_said j ≡ moved_item (goes c) (λ (k : ℕ). k) (item_said i)
item_copied c i j h = moved_item_said (goes c) (λ (k : ℕ). k) h.0 j h.2 ∙ ap (moved_item (goes c) (λ (k : ℕ). k)) (item_clone i h.0 h.1)

entries_copied : (c : Copies) (es fs : List (WorldKey × WorldItem)) → AreCopiedEntries c es fs → map entry_said fs ≡ map (copied_entry c) (map entry_said es)
entries_copied c _ _ no_entries = refl
entries_copied c _ _ (one_entry_more k l i j es fs key one more) =
    let entry : entry_said (l, j) ≡ copied_entry c (entry_said (k, i)) = rw (key_clone k l key, item_copied c i j one) refl in
    ap₂ (λ (z : SaidEntry) (zs : List SaidEntry). z ∷ zs) entry (entries_copied c es fs more)

same_spelling : (x y : List ℕ) → spelled x ≡ spelled y → x ≡ y
same_spelling x y e = cc

same_function : (f g : SaidFunction) → Said.a_function f ≡ Said.a_function g → f ≡ g
same_function f g e = cc

module _ (names : List IncludeName) where
  key_renamed : (k l x y : WorldKey) → known k ≡ known l → IsRenamedKey names k x → IsRenamedKey names l y → known x ≡ known y
  key_renamed (key.Name m) (key.Name n) x y same (s, is, a) (t, also, b) =
      ap known is ∙ ap spelled (renamed_one names (string_bytes m) (string_bytes n) (string_bytes s) (string_bytes t) (same_spelling (string_bytes m) (string_bytes n) same) a b) ∙ sym (ap known also)
  key_renamed (key.Name m) (key.Interface j) x y same a b = absurd cc
  key_renamed (key.Interface i) (key.Name n) x y same a b = absurd cc
  key_renamed (key.Interface i) (key.Interface j) x y same a b = ap known a ∙ same ∙ sym (ap known b)

  item_renamed : (i j x y : WorldItem) → item_said i ≡ item_said j → IsRenamedItem names i x → IsRenamedItem names j y → item_said x ≡ item_said y
  item_renamed (item.Function f) (item.Function g) x y same (s, is, a) (t, also, b) =
      let said : function_said f ≡ function_said g = same_function (function_said f) (function_said g) same in
      let text : string_bytes s ≡ string_bytes t = renamed_one names (string_bytes f.name) (string_bytes g.name) (string_bytes s) (string_bytes t) (ap (λ (z : SaidFunction). z.name) said) a b in
      ap item_said is ∙ ap₂ (λ (k : Text) (z : SaidFunction). Said.a_function (record z { name = k })) text said ∙ sym (ap item_said also)
  item_renamed (item.Interface i s at) (item.Interface j t to) x y same a b = ap item_said a ∙ same ∙ sym (ap item_said b)
  item_renamed (item.TypeItem i at) (item.TypeItem j to) x y same a b = ap item_said a ∙ same ∙ sym (ap item_said b)
  item_renamed (item.Function f) (item.Interface j t to) x y same a b = absurd cc
  item_renamed (item.Function f) (item.TypeItem j to) x y same a b = absurd cc
  item_renamed (item.Interface i s at) (item.Function g) x y same a b = absurd cc
  item_renamed (item.Interface i s at) (item.TypeItem j to) x y same a b = ap item_said a ∙ same ∙ sym (ap item_said b)
  item_renamed (item.TypeItem i at) (item.Function g) x y same a b = absurd cc
  item_renamed (item.TypeItem i at) (item.Interface j t to) x y same a b = ap item_said a ∙ same ∙ sym (ap item_said b)

  entries_renamed : (es fs xs ys : List (WorldKey × WorldItem)) → map entry_said es ≡ map entry_said fs → AreRenamed names es xs → AreRenamed names fs ys → map entry_said xs ≡ map entry_said ys
  entries_renamed _ _ _ _ same renames.no_entries renames.no_entries = refl
  entries_renamed _ _ _ _ same renames.no_entries (renames.one_more k l i j fs ys b n others) = absurd (not_empty (entry_said (k, i)) (map entry_said fs) same)
  entries_renamed _ _ _ _ same (renames.one_more k l i j es xs a m more) renames.no_entries = absurd (not_empty (entry_said (k, i)) (map entry_said es) (sym same))
  entries_renamed _ _ _ _ same (renames.one_more k l i j es xs a m more) (renames.one_more q r u v fs ys b n others) =
      let first : entry_said (k, i) ≡ entry_said (q, u) = head_of (entry_said (k, i)) (entry_said (q, u)) (map entry_said es) (map entry_said fs) same in
      let one : entry_said (l, j) ≡ entry_said (r, v) =
      ap₂ (λ (z : Known) (s : SaidItem). (z, s)) (key_renamed k q l r (ap (λ (e : SaidEntry). e.0) first) a b) (item_renamed i u j v (ap (λ (e : SaidEntry). e.1) first) m n) in
      same_heads (entry_said (l, j)) (entry_said (r, v)) (map entry_said xs) (map entry_said ys) one
      (entries_renamed es fs xs ys (tail_of (entry_said (k, i)) (entry_said (q, u)) (map entry_said es) (map entry_said fs) same) more others)

-- ---- a world

pub record SaySame (a b : Included) : Type 0 where
  pub types : map type_said a.types.items ≡ map type_said b.types.items
  pub imports : map entry_said a.imports.items ≡ map entry_said b.imports.items
  pub exports : map entry_said a.exports.items ≡ map entry_said b.exports.items

module _ (names : List IncludeName) (c : Copies) where
  side_same : (es fs xs ys : List (WorldKey × WorldItem)) → map entry_said es ≡ map entry_said fs → included.AreIncludedEntries names c es xs → included.AreIncludedEntries names c fs ys → map entry_said xs ≡ map entry_said ys
  side_same es fs xs ys same a b =
      entries_renamed names a.0 b.0 xs ys (entries_copied c es a.0 a.1 ∙ ap (map (copied_entry c)) same ∙ sym (entries_copied c fs b.0 b.1)) a.2 b.2

pub included_same : (names : List IncludeName) (from into : ℕ) (ds es : List TypeDef) (w v : World) (a b : Included) → map type_said ds ≡ map type_said es → world_said w ≡ world_said v
    → IsIncluded names from into ds w a → IsIncluded names from into es v b → SaySame a b
included_same names from into ds es w v a b same world x y =
    let own : x.own ≡ y.own = world_types_one from ds es w v x.own y.own same world x.are_own y.are_own in
    let c = copies_behind ds x.own in
    let copies : copies_behind es y.own ≡ c = rw (own, same_size type_said ds es same) refl in
    let t = x.brings.types_are in
    let u = y.brings.types_are in
    let mine = subst (λ (k : Copies). AreCopied k from into es y.own u.0) copies u.1 in
    let copied : map type_said t.0 ≡ map type_said u.0 = copies_same c from into ds es same x.own t.0 u.0 t.1 (subst (λ (l : List ℕ). AreCopied c from into es l u.0) (sym own) mine) in
    record {
      types = defs_renamed names into t.0 u.0 a.types.items b.types.items copied t.2 u.2;
      imports = side_same names c w.imports.entries v.imports.entries a.imports.items b.imports.items (ap (λ (z : SaidWorld). z.imports) world) x.brings.imports_are
          (subst (λ (k : Copies). included.AreIncludedEntries names k v.imports.entries b.imports.items) copies y.brings.imports_are);
      exports = side_same names c w.exports.entries v.exports.entries a.exports.items b.exports.items (ap (λ (z : SaidWorld). z.exports) world) x.brings.exports_are
          (subst (λ (k : Copies). included.AreIncludedEntries names k v.exports.entries b.exports.items) copies y.brings.exports_are);
    }
