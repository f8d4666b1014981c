-- Plain names of what stays of a side, of what is brought, and of sides that are joined.
use Rattle.std.proofs.Common.{◌≡◌, ℕ, Bool, true, false, List, [], ◌∷◌, ◌++◌, ◌⊎◌, inl, inr, Option, Some, None, is_some, String, map, refl, sym, subst, ap, ◌∙◌}
use Rattle.std.proofs.lemmas.Slice.Eq.{bytes_eq-Decides}
use Rattle.std.specs.Prelude.{slice_get, flat_map, string_bytes, bytes_eq, if◌then◌else◌}
use Rattle.std.specs.List.{AllByRecursion as Each}
use Rattle.std.specs.Map.{lookup}
use Rattle.std.specs.declared.alloc.Global.{Global}
use Rattle.wit_order.specs.Order.{Has}
use Rattle.wit_joined.specs.Passed.wit_types-declared-function-Function.{Function}
use Rattle.wit_joined.specs.Passed.wit_types-declared-interface-TypeDef.{TypeDef}
use Rattle.wit_joined.specs.Passed.wit_types-declared-world-IncludeName.{IncludeName}
use Rattle.wit_joined.specs.Passed.wit_types-declared-world-World.{World}
use Rattle.wit_joined.specs.Passed.wit_types-declared-world-WorldInclude.{WorldInclude}
use Rattle.wit_joined.specs.Passed.wit_types-declared-world-WorldItem.{WorldItem}
use Rattle.wit_joined.specs.Passed.wit_types-declared-world-WorldItem-TheVariants as item
use Rattle.wit_joined.specs.Passed.wit_types-declared-world_key-WorldKey.{WorldKey}
use Rattle.wit_joined.specs.Passed.wit_types-declared-world_key-WorldKey-TheVariants as key
use Rattle.wit_joined.specs.Passed.wit_types-WorldKey.{key_eq}
use Rattle.wit_joined.specs.Passed.wit_features-Features.{FeatureSet, stays}
use Rattle.wit_joined.specs.Passed.wit_moves-Moved.{Places, to}
use Rattle.wit_joined.specs.Passed.wit_moves-Interfaces as kept
use Rattle.wit_joined.specs.Passed.wit_moves-Interfaces.{AreKept}
use Rattle.wit_joined.specs.Passed.wit_moves-Worlds as worlds
use Rattle.wit_joined.specs.Passed.wit_moves-Worlds.{IsMovedItem, moved_entry}
use Rattle.wit_joined.specs.Passed.wit_copies-Copies.{Copies, goes, AreCopiedEntries, no_entries, one_entry_more}
use Rattle.wit_joined.specs.Passed.wit_copies-Same as copy
use Rattle.wit_joined.specs.Passed.wit_copies-Same.{IsSameKey, IsSameItem}
use Rattle.wit_joined.specs.Passed.wit_sides-Renames as renamed
use Rattle.wit_joined.specs.Passed.wit_sides-Renames.{IsRenamed, IsRenamedKey, IsRenamedItem, AreRenamed}
use Rattle.wit_joined.specs.Passed.wit_sides-Sides as side
use Rattle.wit_joined.specs.Passed.wit_sides-Sides.{AreUnited}
use Rattle.wit_joined.specs.Passed.wit_includes-Included.{copies_behind, AreIncludedEntries}
use Rattle.wit_joined.specs.Passed.wit_plans-Moves.{moved_include}
use Rattle.wit_placed.specs.Passed.wit_elaborated-Elaborated.{imported, plain_entries}
use Rattle.wit_joined.specs.Joined.{State, Includes, includes_none, includes_one}
use Rattle.wit_plain_texts.specs.Plain.{IsPlain}
use Rattle.wit_labels.specs.Plain.{ArePlainApart}
use Rattle.wit_labels.specs.Named.{IsNamedItem, IsPlainEntry, IsSidePlain, IsSideNamed, AreSidesPlain, ArePlainChanges, AreChangesPlain, AreSidesNamed, SidesAreNamed, MovedSidesAreNamed, MovedWorldsAreNamed, ElaboratedSidesAreNamed, BroughtSidesArePlain, JoinedSidesAreNamed}
use Rattle.wit_labels.proofs.Every.{each_join, each_front, each_behind, each_at}
use Rattle.wit_labels.proofs.Renaming.{renamed_one, renamed_plain}

abbrev Entry : Type 0
Entry = WorldKey × WorldItem

-- ---- by what is said of each

item_named : (x : String Global) (b : WorldItem) → ((f : Function) → b ≡ item.Function f → string_bytes f.name ≡ string_bytes x) → IsNamedItem x b
item_named x (item.Interface id stability span) h = tt
item_named x (item.Function f) h = h f refl
item_named x (item.TypeItem id span) h = tt

named_entries : (es : List Entry) → ((x : String Global) (b : WorldItem) → Has es (key.Name x, b) → IsPlain (string_bytes x) × IsNamedItem x b) → IsSidePlain es
named_entries [] h = tt
named_entries ((key.Name x, b) ∷ es) h = (h x b (inl refl), named_entries es (λ y d has. h y d (inr has)))
named_entries ((key.Interface i, b) ∷ es) h = (tt, named_entries es (λ y d has. h y d (inr has)))

pub sides_are_named : SidesAreNamed
sides_are_named types es under plain = record {
  apart = under.apart;
  plain = named_entries es (λ x b has. (plain x b has, item_named x b (λ f is. under.functions x f (subst (λ (d : WorldItem). Has es (key.Name x, d)) is has))));
}

-- ---- what stays

item_moved : (types interfaces : ℕ → ℕ) (x : String Global) (a b : WorldItem) → IsMovedItem types interfaces a b → IsNamedItem x a → IsNamedItem x b
item_moved types interfaces x _ _ (worlds.moved_interface id stability span) h = tt
item_moved types interfaces x _ _ (worlds.moved_function f g is) h = ap string_bytes is.name ∙ h
item_moved types interfaces x _ _ (worlds.moved_type id span) h = tt

entry_moved : (types interfaces : ℕ → ℕ) (k : WorldKey) (a b : WorldItem) → IsMovedItem types interfaces a b → IsPlainEntry (k, a) → IsPlainEntry (k, b)
entry_moved types interfaces (key.Name x) a b is h = (h.0, item_moved types interfaces x a b is h.1)
entry_moved types interfaces (key.Interface i) a b is h = tt

kept_plain : (stays : WorldItem → Bool) (types interfaces : ℕ → ℕ) (es fs : List Entry) → AreKept stays (IsMovedItem types interfaces) es fs → IsSidePlain es → IsSidePlain fs
kept_plain stays types interfaces _ _ kept.no_entries h = tt
kept_plain stays types interfaces _ _ (kept.one_goes k v es fs out more) h = kept_plain stays types interfaces es fs more h.1
kept_plain stays types interfaces _ _ (kept.one_stays k v w es fs st is more) h = (entry_moved types interfaces k v w is h.0, kept_plain stays types interfaces es fs more h.1)

kept_was : (stays : WorldItem → Bool) (types interfaces : ℕ → ℕ) (es fs : List Entry) → AreKept stays (IsMovedItem types interfaces) es fs → (k : WorldKey) (b : WorldItem) → Has fs (k, b) → (a : WorldItem) × Has es (k, a)
kept_was stays types interfaces _ _ kept.no_entries k b h = absurd h
kept_was stays types interfaces _ _ (kept.one_goes l v es fs out more) k b h = (let r = kept_was stays types interfaces es fs more k b h in (r.0, inr r.1))
kept_was stays types interfaces _ _ (kept.one_stays l v w es fs st is more) k b (inl here) = (v, inl (ap (λ (m : WorldKey). (m, v)) (ap (λ (e : Entry). e.0) here)))
kept_was stays types interfaces _ _ (kept.one_stays l v w es fs st is more) k b (inr later) = (let r = kept_was stays types interfaces es fs more k b later in (r.0, inr r.1))

kept_apart : (stays : WorldItem → Bool) (types interfaces : ℕ → ℕ) (es fs : List Entry) → AreKept stays (IsMovedItem types interfaces) es fs → ArePlainApart es → ArePlainApart fs
kept_apart stays types interfaces _ _ kept.no_entries h = tt
kept_apart stays types interfaces _ _ (kept.one_goes (key.Name x) v es fs out more) h = kept_apart stays types interfaces es fs more h.1
kept_apart stays types interfaces _ _ (kept.one_goes (key.Interface i) v es fs out more) h = kept_apart stays types interfaces es fs more h
kept_apart stays types interfaces _ _ (kept.one_stays (key.Name x) v w es fs st is more) h =
    (λ y b has same. (let r = kept_was stays types interfaces es fs more (key.Name y) b has in h.0 y r.0 r.1 same), kept_apart stays types interfaces es fs more h.1)
kept_apart stays types interfaces _ _ (kept.one_stays (key.Interface i) v w es fs st is more) h = kept_apart stays types interfaces es fs more h

keys_plain : (interfaces : ℕ → ℕ) (es : List Entry) → IsSidePlain es → IsSidePlain (map (moved_entry interfaces) es)
keys_plain interfaces [] h = tt
keys_plain interfaces ((key.Name x, b) ∷ es) h = (h.0, keys_plain interfaces es h.1)
keys_plain interfaces ((key.Interface i, b) ∷ es) h = (tt, keys_plain interfaces es h.1)

key_was : (interfaces : ℕ → ℕ) (es : List Entry) (x : String Global) (b : WorldItem) → Has (map (moved_entry interfaces) es) (key.Name x, b) → Has es (key.Name x, b)
key_was interfaces [] x b h = absurd h
key_was interfaces ((key.Name y, d) ∷ es) x b (inl here) = inl here
key_was interfaces ((key.Interface i, d) ∷ es) x b (inl here) = absurd (let e : key.Name x ≡ key.Interface (interfaces i) = ap (λ (z : Entry). z.0) here in cc)
key_was interfaces (e ∷ es) x b (inr later) = inr (key_was interfaces es x b later)

keys_apart : (interfaces : ℕ → ℕ) (es : List Entry) → ArePlainApart es → ArePlainApart (map (moved_entry interfaces) es)
keys_apart interfaces [] h = tt
keys_apart interfaces ((key.Name x, b) ∷ es) h = (λ y d has same. h.0 y d (key_was interfaces es y d has) same, keys_apart interfaces es h.1)
keys_apart interfaces ((key.Interface i, b) ∷ es) h = keys_apart interfaces es h

pub moved_sides : MovedSidesAreNamed
moved_sides features places interfaces old new (stay, items, is) h = subst IsSideNamed (sym is) (record {
  apart = keys_apart (to interfaces) stay (kept_apart _ (to places) (to interfaces) old stay items h.apart);
  plain = keys_plain (to interfaces) stay (kept_plain _ (to places) (to interfaces) old stay items h.plain);
})

-- ---- worlds that include others

include_stays : (places : Places) (b : Bool) (n : WorldInclude) → ArePlainChanges n.names.items → AreChangesPlain (if b then record n { id = to places n.id } ∷ [] else [])
include_stays places true n h = (h, tt)
include_stays places false n h = tt

changes_stay : (features : FeatureSet) (places : Places) (ns : List WorldInclude) → AreChangesPlain ns → AreChangesPlain (flat_map (moved_include features places) ns)
changes_stay features places [] h = tt
changes_stay features places (n ∷ ns) h =
    each_join (λ (i : WorldInclude). ArePlainChanges i.names.items) (moved_include features places n) (flat_map (moved_include features places) ns) (include_stays places (stays features n.stability) n h.0) (changes_stay features places ns h.1)

pub moved_named : MovedWorldsAreNamed
moved_named features s old new is h = record {
  imports_named = moved_sides features s.types s.interfaces old.imports.entries new.imports.items is.imports h.imports_named;
  exports_named = moved_sides features s.types s.interfaces old.exports.entries new.exports.items is.exports h.exports_named;
  changes = subst AreChangesPlain (sym is.includes) (changes_stay features s.worlds old.includes.items h.changes);
}

-- ---- all that a world imports in the end

plain_was : (es : List Entry) (e : Entry) → Has (plain_entries es) e → Has es e
plain_was [] e h = absurd h
plain_was ((key.Name x, b) ∷ es) e (inl here) = inl here
plain_was ((key.Name x, b) ∷ es) e (inr later) = inr (plain_was es e later)
plain_was ((key.Interface i, b) ∷ es) e h = inr (plain_was es e h)

entries_apart : (es : List Entry) → ArePlainApart es → ArePlainApart (plain_entries es)
entries_apart [] h = tt
entries_apart ((key.Name x, b) ∷ es) h = (λ y d has same. h.0 y d (plain_was es (key.Name y, d) has) same, entries_apart es h.1)
entries_apart ((key.Interface i, b) ∷ es) h = entries_apart es h

entries_plain : (es : List Entry) → IsSidePlain es → IsSidePlain (plain_entries es)
entries_plain [] h = tt
entries_plain ((key.Name x, b) ∷ es) h = (h.0, entries_plain es h.1)
entries_plain ((key.Interface i, b) ∷ es) h = entries_plain es h.1

-- behind interfaces
behind_apart : (at : ℕ → WorldItem) (order : List ℕ) (es : List Entry) → ArePlainApart es → ArePlainApart (map (λ (i : ℕ). (key.Interface i, at i)) order ++ es)
behind_apart at [] es h = h
behind_apart at (i ∷ order) es h = behind_apart at order es h

behind_plain : (at : ℕ → WorldItem) (order : List ℕ) (es : List Entry) → IsSidePlain es → IsSidePlain (map (λ (i : ℕ). (key.Interface i, at i)) order ++ es)
behind_plain at [] es h = h
behind_plain at (i ∷ order) es h = (tt, behind_plain at order es h)

pub elaborated_sides : ElaboratedSidesAreNamed
elaborated_sides types interfaces uses world found is h =
    let es = world.imports.entries in
    subst IsSideNamed (sym is.imports)
    (record { apart = behind_apart (imported interfaces es) is.order (plain_entries es) (entries_apart es h.apart); plain = behind_plain (imported interfaces es) is.order (plain_entries es) (entries_plain es h.plain) })

-- ---- what is brought

item_copied : (types interfaces : ℕ → ℕ) (x y : String Global) (a c b : WorldItem) → string_bytes y ≡ string_bytes x → IsSameItem a c → IsMovedItem types interfaces c b → IsNamedItem x a → IsNamedItem y b
item_copied types interfaces x y _ _ _ e (copy.same_interface id s t span _) (worlds.moved_interface _ _ _) h = tt
item_copied types interfaces x y _ _ _ e (copy.same_function f g same) (worlds.moved_function _ k is) h = ap string_bytes is.name ∙ same.name ∙ h ∙ sym e
item_copied types interfaces x y _ _ _ e (copy.same_type id span) (worlds.moved_type _ _) h = tt

entry_copied : (types interfaces : ℕ → ℕ) (k l : WorldKey) (a c b : WorldItem) → IsSameKey k l → IsSameItem a c → IsMovedItem types interfaces c b → IsPlainEntry (k, a) → IsPlainEntry (l, b)
entry_copied types interfaces _ _ a c b (copy.same_name x y e) same is h = (subst IsPlain (sym e) h.0, item_copied types interfaces x y a c b e same is h.1)
entry_copied types interfaces _ _ a c b (copy.same_key_interface i) same is h = tt

entries_copied : (c : Copies) (es fs : List Entry) → AreCopiedEntries c es fs → IsSidePlain es → IsSidePlain fs
entries_copied c _ _ no_entries h = tt
entries_copied c _ _ (one_entry_more k l i j es fs same (clone, as_it, is) more) h = (entry_copied (goes c) (λ (n : ℕ). n) k l i clone j same as_it is h.0, entries_copied c es fs more h.1)

item_renamed : (names : List IncludeName) (x y : String Global) (a b : WorldItem) → IsRenamed names (string_bytes x) (string_bytes y) → IsRenamedItem names a b → IsNamedItem x a → IsNamedItem y b
item_renamed names x y (item.Function f) b r h named =
    subst (IsNamedItem y) (sym h.1) (renamed_one names (string_bytes f.name) (string_bytes x) (string_bytes h.0) (string_bytes y) named h.2 r)
item_renamed names x y (item.Interface id stability span) b r h named = subst (IsNamedItem y) (sym h) tt
item_renamed names x y (item.TypeItem id span) b r h named = subst (IsNamedItem y) (sym h) tt

entry_renamed : (names : List IncludeName) → ArePlainChanges names → (k l : WorldKey) (a b : WorldItem) → IsRenamedKey names k l → IsRenamedItem names a b → IsPlainEntry (k, a) → IsPlainEntry (l, b)
entry_renamed names are (key.Name x) l a b r h is =
    subst (λ (m : WorldKey). IsPlainEntry (m, b)) (sym r.1) (renamed_plain names (string_bytes x) (string_bytes r.0) are r.2 is.0, item_renamed names x r.0 a b r.2 h is.1)
entry_renamed names are (key.Interface i) l a b r h is = subst (λ (m : WorldKey). IsPlainEntry (m, b)) (sym r) tt

entries_renamed : (names : List IncludeName) → ArePlainChanges names → (es fs : List Entry) → AreRenamed names es fs → IsSidePlain es → IsSidePlain fs
entries_renamed names are _ _ renamed.no_entries h = tt
entries_renamed names are _ _ (renamed.one_more k l i j es fs new one more) h = (entry_renamed names are k l i j new one h.0, entries_renamed names are es fs more h.1)

side_brought : (names : List IncludeName) → ArePlainChanges names → (c : Copies) (es fs : List Entry) → AreIncludedEntries names c es fs → IsSidePlain es → IsSidePlain fs
side_brought names are c es fs (copied, same, re) h = entries_renamed names are copied fs re (entries_copied c es copied same h)

pub brought_sides : BroughtSidesArePlain
brought_sides names from into types world b is are h =
    let x = is.brings in
    record {
      imports_plain = side_brought names are (copies_behind types is.own) world.imports.entries b.imports.items x.imports_are h.imports_plain;
      exports_plain = side_brought names are (copies_behind types is.own) world.exports.entries b.exports.items x.exports_are h.exports_plain;
    }

-- ---- joined

either : (es fs : List Entry) (e : Entry) → Has (es ++ fs) e → Has es e ⊎ Has fs e
either [] fs e h = inr h
either (d ∷ es) fs e (inl here) = inl (inl here)
either (d ∷ es) fs e (inr later) = elim (either es fs e later) as (λ _. Has (d ∷ es) e ⊎ Has fs e) [ inl a ↦ inl (inr a) | inr b ↦ inr b ]

apart_more : (es : List Entry) (k : WorldKey) (b : WorldItem) → ArePlainApart es → ((x y : String Global) (d : WorldItem) → Has es (key.Name x, d) → k ≡ key.Name y → string_bytes x ≡ string_bytes y → ⊥) → ArePlainApart (es ++ (k, b) ∷ [])
apart_more [] (key.Name y) b h new = (λ z d has. absurd has, tt)
apart_more [] (key.Interface i) b h new = tt
apart_more ((key.Name x, a) ∷ es) k b h new = (
  λ y d has same. elim (either es ((k, b) ∷ []) (key.Name y, d) has) as (λ _. ⊥) [
    | inl earlier ↦ h.0 y d earlier same
    | inr last ↦ elim last as (λ _. ⊥) [ inl here ↦ new x y a (inl refl) (sym (ap (λ (e : Entry). e.0) here)) same | inr none ↦ none ]
  ],
  apart_more es k b h.1 (λ z y d has. new z y d (inr has)),
)
apart_more ((key.Interface i, a) ∷ es) k b h new = apart_more es k b h (λ z y d has. new z y d (inr has))

passed : (t : Bool) (b : WorldItem) (o : Option WorldItem) → is_some (if t then Some b else o) ≡ false → is_some o ≡ false
passed true b o h = absurd cc
passed false b o h = h

-- what isn't found isn't there
not_found : (x y : String Global) (es : List Entry) (d : WorldItem) → is_some (lookup (key_eq (key.Name y)) es) ≡ false → Has es (key.Name x, d) → string_bytes x ≡ string_bytes y → ⊥
not_found x y [] d none h same = h
not_found x y ((k, b) ∷ es) d none (inl here) same =
    let equal : key_eq (key.Name y) k ≡ true = ap (key_eq (key.Name y)) (sym (ap (λ (e : Entry). e.0) here)) ∙ (bytes_eq-Decides (string_bytes y) (string_bytes x)).1 (sym same) in
    let found : is_some (lookup (key_eq (key.Name y)) ((k, b) ∷ es)) ≡ true = ap (λ (t : Bool). is_some (if t then Some b else lookup (key_eq (key.Name y)) es)) equal in
    cc
not_found x y ((k, b) ∷ es) d none (inr later) same = not_found x y es d (passed (key_eq (key.Name y) k) b (lookup (key_eq (key.Name y)) es) none) later same

in_front : (es fs : List Entry) (e : Entry) → Has es e → Has (es ++ fs) e
in_front [] fs e h = absurd h
in_front (d ∷ es) fs e (inl here) = inl here
in_front (d ∷ es) fs e (inr later) = inr (in_front es fs e later)

at_end : (es fs : List Entry) (e : Entry) → Has fs e → Has (es ++ fs) e
at_end [] fs e h = h
at_end (d ∷ es) fs e h = inr (at_end es fs e h)

united_was : (es fs : List Entry) → AreUnited key_eq es fs → (e : Entry) → Has fs e → Has es e
united_was _ _ side.no_entries e h = h
united_was _ _ (side.first_of_its_key es fs d more new) e h = elim (either fs (d ∷ []) e h) as (λ _. Has (es ++ d ∷ []) e) [ inl a ↦ in_front es (d ∷ []) e (united_was es fs more e a) | inr b ↦ at_end es (d ∷ []) e b ]
united_was _ _ (side.key_again es fs d more again) e h = in_front es (d ∷ []) e (united_was es fs more e h)

side_apart : (es fs : List Entry) → AreUnited key_eq es fs → ArePlainApart fs
side_apart _ _ side.no_entries = tt
side_apart _ _ (side.first_of_its_key es fs e more new) =
    apart_more fs e.0 e.1 (side_apart es fs more)
    (λ x y d has same. not_found x y es d (subst (λ (k : WorldKey). is_some (lookup (key_eq k) es) ≡ false) same new) (united_was es fs more (key.Name x, d) has))
side_apart _ _ (side.key_again es fs e more again) = side_apart es fs more

side_plain : (es fs : List Entry) → AreUnited key_eq es fs → IsSidePlain es → IsSidePlain fs
side_plain _ _ side.no_entries h = tt
side_plain _ _ (side.first_of_its_key es fs e more new) h =
    each_join IsPlainEntry fs (e ∷ []) (side_plain es fs more (each_front IsPlainEntry es (e ∷ []) h)) (each_behind IsPlainEntry es (e ∷ []) h)
side_plain _ _ (side.key_again es fs e more again) h = side_plain es fs more (each_front IsPlainEntry es (e ∷ []) h)

module _ (all : List World) (id : ℕ) (plain : Each (λ (v : World). AreSidesPlain v.imports.entries v.exports.entries) all) where
  includes_plain : (ns : List WorldInclude) (s t : State) → Includes all id ns s t → Each (λ (i : WorldInclude). ArePlainChanges i.names.items) ns → AreSidesPlain s.imports s.exports → AreSidesPlain t.imports t.exports
  includes_plain _ _ _ (includes_none s) are h = h
  includes_plain _ s u (includes_one ns n _ t _ before (w, b, at, is, same)) are h =
      let far = includes_plain ns s t before (each_front (λ (i : WorldInclude). ArePlainChanges i.names.items) ns (n ∷ []) are) h in
      let changes = (each_behind (λ (i : WorldInclude). ArePlainChanges i.names.items) ns (n ∷ []) are).0 in
      let brought = brought_sides n.names.items n.id id t.types w b is changes (each_at (λ (v : World). AreSidesPlain v.imports.entries v.exports.entries) all plain n.id w at) in
      subst (λ (z : State). AreSidesPlain z.imports z.exports) (sym same) (record {
        imports_plain = each_join IsPlainEntry t.imports b.imports.items far.imports_plain brought.imports_plain;
        exports_plain = each_join IsPlainEntry t.exports b.exports.items far.exports_plain brought.exports_plain;
      })

pub joined_sides : JoinedSidesAreNamed
joined_sides all id owner m old new w is changes plain own =
    let s = is.sides in
    let far = includes_plain all id plain m.includes.items _ s.joined s.includes changes own in
    record {
      imports_named = record { apart = side_apart s.joined.imports w.imports.entries s.imports_are.entries; plain = side_plain s.joined.imports w.imports.entries s.imports_are.entries far.imports_plain };
      exports_named = record { apart = side_apart s.joined.exports w.exports.entries s.exports_are.entries; plain = side_plain s.joined.exports w.exports.entries s.exports_are.entries far.exports_plain };
    }
