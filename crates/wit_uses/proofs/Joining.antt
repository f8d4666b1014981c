-- A world with all that it includes takes types by use where what it includes does.
use Rattle.std.proofs.Common.{◌≡◌, ℕ, ◌+◌, ◌<◌, Bool, true, false, List, [], ◌∷◌, ◌++◌, ◌⊎◌, inl, inr, Some, String, length, length-append, map, take, refl, sym, subst, ap, ◌∙◌, arith}
use Rattle.std.proofs.lemmas.Grind.{flat_map-append}
use Rattle.std.proofs.lemmas.List.{map-append, length-map, take-append-le}
use Rattle.std.proofs.Math.Seq.{take-append_seam}
use Rattle.std.proofs.lemmas.Slice.Eq.{bytes_eq-Decides}
use Rattle.std.proofs.lemmas.Option.{slice_get_within}
use Rattle.std.specs.List.{list_any}
use Rattle.std.specs.Map.{lookup}
use Rattle.std.specs.Prelude.{slice_get, flat_map, is_some, bytes_eq, string_bytes, ◌||◌, if◌then◌else◌}
use Rattle.std.specs.declared.alloc.Global.{Global}
use Rattle.wit_joined.specs.Passed.wit_order-Order.{Has}
use Rattle.wit_joined.proofs.Passed.wit_order-Lists.{has_was}
use Rattle.wit_words.specs.Slice.{Slice}
use Rattle.wit_words.specs.NameKey.{name_key}
use Rattle.wit_words.specs.declared.source_map.Span.{Span}
use Rattle.wit_joined.specs.Passed.wit_types-declared-interface-TypeDef.{TypeDef}
use Rattle.wit_joined.specs.Passed.wit_types-declared-interface-TypeOwner.{TypeOwner}
use Rattle.wit_joined.specs.Passed.wit_types-declared-interface-TypeOwner-TheVariants as belongs
use Rattle.wit_joined.specs.Passed.wit_types-declared-world-World.{World}
use Rattle.wit_joined.specs.Passed.wit_types-declared-world-WorldInclude.{WorldInclude}
use Rattle.wit_joined.specs.Passed.wit_types-declared-world-WorldItem.{WorldItem}
use Rattle.wit_joined.specs.Passed.wit_types-declared-world-WorldItem-TheVariants as item
use Rattle.wit_joined.specs.Passed.wit_types-declared-world_key-WorldKey.{WorldKey}
use Rattle.wit_joined.specs.Passed.wit_types-declared-world_key-WorldKey-TheVariants as key
use Rattle.wit_joined.specs.Passed.wit_types-World.{span_of}
use Rattle.wit_joined.specs.Passed.wit_types-WorldKey.{key_eq}
use Rattle.wit_joined.specs.Passed.wit_types-declared-world-IncludeName.{IncludeName}
use Rattle.wit_joined.specs.Passed.wit_moves-Worlds as worlds
use Rattle.wit_joined.specs.Passed.wit_moves-Worlds.{IsMovedItem}
use Rattle.wit_joined.specs.Passed.wit_copies-Same as copy
use Rattle.wit_joined.specs.Passed.wit_copies-Same.{IsSameItem, IsSameKey}
use Rattle.wit_joined.specs.Passed.wit_copies-Copies as copies
use Rattle.wit_joined.specs.Passed.wit_sides-Renames as renamed
use Rattle.wit_joined.specs.Passed.wit_sides-Renames.{IsRenamedKey, IsRenamedItem, AreRenamed}
use Rattle.wit_joined.proofs.Passed.wit_arena-Lists.{get_kept, get_last}
use Rattle.wit_joined.specs.Passed.wit_reach-Ids.{item_ids, side_ids}
use Rattle.wit_joined.specs.Passed.wit_reach-Lists.{item_type, item_interface, type_items}
use Rattle.wit_joined.specs.Passed.wit_reach-Types.{AreTypesBackward, AreTypesThere, AreSidesThere, IsOfItem}
use Rattle.wit_joined.proofs.Passed.wit_reach-Lists.{has_append, has_parts}
use Rattle.wit_placed.specs.Passed.wit_elaborated-Worlds.{IsKeyOfItem, AreKeysOfItems}
use Rattle.wit_placed.proofs.Members.{has_get}
use Rattle.wit_joined.specs.Passed.wit_copies-Copies.{Copies, goes, AreCopiedEntries}
use Rattle.wit_joined.specs.Passed.wit_sides-Sides.{plain_name, plain_names, name_keys, IsClash, AreUnited, no_entries, first_of_its_key, key_again}
use Rattle.wit_joined.specs.Passed.wit_includes-Included.{copies_behind, IsIncluded}
use Rattle.wit_joined.specs.Passed.wit_includes-declared-worlds-Included.{Included}
use Rattle.wit_joined.specs.Passed.wit_copied_trees-There.{IncludedTypesAreBackward, IncludedSidesAreThere}
use Rattle.wit_joined.specs.Joined.{State, with_brought, Includes, includes_none, includes_one, own_state, AreWorldsThere}
use Rattle.wit_uses.specs.Uses.{IsOwn, IsUse, TakesByUse, WorldsTakeByUse}
use Rattle.wit_uses.specs.Included.{brought_types, IsOfBrought, BroughtTakesByUse}
use Rattle.wit_uses.specs.Joined.{JoinedWorldsTakeByUse}
use Rattle.wit_uses.proofs.Growing.{takes_more}

abbrev Entry : Type 0
Entry = WorldKey × WorldItem

abbrev Sides : List Entry → List Entry → ℕ → Type 0
Sides imports exports i = Has (side_ids imports) i ⊎ Has (side_ids exports) i

-- ---- parts of a side

module _ (f : WorldItem → List ℕ) where
  abbrev of : List Entry → List ℕ
  of es = flat_map f (map (λ (e : Entry). e.1) es)

  pub of_parts : (xs ys : List Entry) (i : ℕ) → Has (of (xs ++ ys)) i → Has (of xs) i ⊎ Has (of ys) i
  of_parts [] ys i h = inr h
  of_parts (x ∷ xs) ys i h = elim (has_parts (f x.1) (of (xs ++ ys)) i h) as (λ _. Has (f x.1 ++ of xs) i ⊎ Has (of ys) i) [
    | inl here ↦ inl (has_was (f x.1) (of xs) i here)
    | inr later ↦ elim (of_parts xs ys i later) as (λ _. Has (f x.1 ++ of xs) i ⊎ Has (of ys) i) [ inl a ↦ inl (has_append (f x.1) (of xs) i a) | inr b ↦ inr b ]
  ]

  pub of_first : (xs ys : List Entry) (i : ℕ) → Has (of xs) i → Has (of (xs ++ ys)) i
  of_first [] ys i h = absurd h
  of_first (x ∷ xs) ys i h = elim (has_parts (f x.1) (of xs) i h) as (λ _. Has (f x.1 ++ of (xs ++ ys)) i) [
    | inl here ↦ has_was (f x.1) (of (xs ++ ys)) i here
    | inr later ↦ has_append (f x.1) (of (xs ++ ys)) i (of_first xs ys i later)
  ]

  pub of_second : (xs ys : List Entry) (i : ℕ) → Has (of ys) i → Has (of (xs ++ ys)) i
  of_second [] ys i h = h
  of_second (x ∷ xs) ys i h = has_append (f x.1) (of (xs ++ ys)) i (of_second xs ys i h)

  -- what is united stood there
  pub united_was : (es side : List Entry) → AreUnited key_eq es side → (i : ℕ) → Has (of side) i → Has (of es) i
  united_was _ _ no_entries i h = h
  united_was _ _ (first_of_its_key es side e u new) i h = elim (of_parts side (e ∷ []) i h) as (λ _. Has (of (es ++ e ∷ [])) i) [
    | inl was ↦ of_first es (e ∷ []) i (united_was es side u i was)
    | inr last ↦ of_second es (e ∷ []) i last
  ]
  united_was _ _ (key_again es side e u again) i h = of_first es (e ∷ []) i (united_was es side u i h)

-- ---- no type is left out where sides are united

abbrev pub IsClear : List Entry → Type 0
IsClear es = (at : Span) → IsClash es at → ⊥

abbrev keys_of : List Entry → List (List ℕ)
keys_of es = name_keys (plain_names es)

abbrev spans_of : List Entry → List Span
spans_of es = map (λ (n : Slice). n.span) (plain_names es)

plain_append : (es fs : List Entry) → plain_names (es ++ fs) ≡ plain_names es ++ plain_names fs
plain_append es fs = flat_map-append (λ (e : Entry). plain_name e.0 e.1) es fs

keys_append : (es fs : List Entry) → keys_of (es ++ fs) ≡ keys_of es ++ keys_of fs
keys_append es fs = ap name_keys (plain_append es fs) ∙ map-append (λ (n : Slice). name_key n.text) (plain_names es) (plain_names fs)

spans_append : (es fs : List Entry) → spans_of (es ++ fs) ≡ spans_of es ++ spans_of fs
spans_append es fs = ap (map (λ (n : Slice). n.span)) (plain_append es fs) ∙ map-append (λ (n : Slice). n.span) (plain_names es) (plain_names fs)

pub clear_front : (es fs : List Entry) → IsClear (es ++ fs) → IsClear es
clear_front es fs clear at c =
    let within : c.place < length (keys_of es) = slice_get_within (keys_of es) c.place c.again.key c.again.there in
    let front : take c.place (keys_of (es ++ fs)) ≡ take c.place (keys_of es) = ap (take c.place) (keys_append es fs) ∙ take-append-le c.place (keys_of es) (keys_of fs) (omega (arith, within)) in
    clear at (record {
      place = c.place;
      again = record {
        key = c.again.key;
        there = subst (λ (ks : List (List ℕ)). slice_get ks c.place ≡ Some c.again.key) (sym (keys_append es fs)) (get_kept (keys_of es) (keys_of fs) c.place c.again.key c.again.there);
        again = subst (λ (ks : List (List ℕ)). list_any (bytes_eq c.again.key) ks ≡ true) (sym front) c.again.again;
      };
      there = subst (λ (ss : List Span). slice_get ss c.place ≡ Some at) (sym (spans_append es fs)) (get_kept (spans_of es) (spans_of fs) c.place at c.there);
    })

or_true : (a b : Bool) → b ≡ true → (a || b) ≡ true
or_true true b e = refl
or_true false b e = e

any_has : (q : List ℕ) (ks : List (List ℕ)) (k : List ℕ) → Has ks k → bytes_eq q k ≡ true → list_any (bytes_eq q) ks ≡ true
any_has q [] k h e = absurd h
any_has q (x ∷ ks) k (inl here) e = ap (λ (b : Bool). b || list_any (bytes_eq q) ks) (ap (bytes_eq q) (sym here) ∙ e)
any_has q (x ∷ ks) k (inr later) e = or_true (bytes_eq q x) (list_any (bytes_eq q) ks) (any_has q ks k later e)

abbrev text_of_key : WorldKey → List ℕ
text_of_key (key.Name x) = string_bytes x
text_of_key (key.Interface i) = []

plain_has : (es : List Entry) (y : String Global) (b : WorldItem) → Has es (key.Name y, b) → Has (keys_of es) (name_key (string_bytes y))
plain_has [] y b h = absurd h
plain_has ((key.Name z, c) ∷ es) y b (inl here) = inl (ap name_key (ap (λ (e : Entry). text_of_key e.0) here))
plain_has ((key.Name z, c) ∷ es) y b (inr later) = inr (plain_has es y b later)
plain_has ((key.Interface i, c) ∷ es) y b (inl here) = absurd (let e : key.Name y ≡ key.Interface i = ap (λ (z : Entry). z.0) here in cc)
plain_has ((key.Interface i, c) ∷ es) y b (inr later) = plain_has es y b later

-- what is looked up by a name stands under it
named_lookup : (x : String Global) (es : List Entry) → is_some (lookup (key_eq (key.Name x)) es) ≡ true → (y : String Global) × (b : WorldItem) × Has es (key.Name y, b) × (string_bytes x ≡ string_bytes y)
named_lookup x [] h = absurd cc
named_lookup x ((key.Interface i, c) ∷ es) h = (let r = named_lookup x es h in (r.0, r.1, inr r.2, r.3))
named_lookup x ((key.Name y, c) ∷ es) h = by (bytes_eq (string_bytes x) (string_bytes y)) refl (named_lookup x es)
  where
    by : (b : Bool) → bytes_eq (string_bytes x) (string_bytes y) ≡ b → (is_some (lookup (key_eq (key.Name x)) es) ≡ true → (z : String Global) × (d : WorldItem) × Has es (key.Name z, d) × (string_bytes x ≡ string_bytes z))
        → (z : String Global) × (d : WorldItem) × Has ((key.Name y, c) ∷ es) (key.Name z, d) × (string_bytes x ≡ string_bytes z)
    by true e later = (y, c, inl refl, (bytes_eq-Decides (string_bytes x) (string_bytes y)).0 e)
    by false e later = (let r = later (sym (ap (λ (b : Bool). is_some (if b then Some c else lookup (key_eq (key.Name x)) es)) e) ∙ h) in (r.0, r.1, inr r.2, r.3))

-- a plain name that stands there clashes with one behind
pub clash_of : (es : List Entry) (x : String Global) (a : WorldItem) (y : String Global) (b : WorldItem) → Has es (key.Name y, b) → string_bytes x ≡ string_bytes y → IsClear (es ++ (key.Name x, a) ∷ []) → ⊥
clash_of es x a y b has equal clear =
    let k : List ℕ = name_key (string_bytes x) in
    let one : keys_of (es ++ (key.Name x, a) ∷ []) ≡ keys_of es ++ k ∷ [] = keys_append es ((key.Name x, a) ∷ []) in
    let same : bytes_eq k (name_key (string_bytes y)) ≡ true = (bytes_eq-Decides k (name_key (string_bytes y))).1 (ap name_key equal) in
    let long : length (spans_of es) ≡ length (keys_of es) = length-map (plain_names es) (λ (n : Slice). n.span) ∙ sym (length-map (plain_names es) (λ (n : Slice). name_key n.text)) in
    clear (span_of a) (record {
      place = length (keys_of es);
      again = record {
        key = k;
        there = subst (λ (ks : List (List ℕ)). slice_get ks (length (keys_of es)) ≡ Some k) (sym one) (get_last (keys_of es) k);
        again = subst (λ (ks : List (List ℕ)). list_any (bytes_eq k) ks ≡ true) (sym (ap (take (length (keys_of es))) one ∙ take-append_seam (keys_of es) (k ∷ []))) (any_has k (keys_of es) (name_key (string_bytes y)) (plain_has es y b has) same);
      };
      there = subst (λ (ss : List Span). slice_get ss (length (keys_of es)) ≡ Some (span_of a)) (sym (spans_append es ((key.Name x, a) ∷ [])))
          (subst (λ (n : ℕ). slice_get (spans_of es ++ span_of a ∷ []) n ≡ Some (span_of a)) long (get_last (spans_of es) (span_of a)));
    })

clash_here : (es : List Entry) (x : String Global) (a : WorldItem) → is_some (lookup (key_eq (key.Name x)) es) ≡ true → IsClear (es ++ (key.Name x, a) ∷ []) → ⊥
clash_here es x a h clear = (let r = named_lookup x es h in clash_of es x a r.0 r.1 r.2 r.3 clear)

keys_parts : (es fs : List Entry) → AreKeysOfItems (es ++ fs) → AreKeysOfItems es × AreKeysOfItems fs
keys_parts [] fs keys = (tt, keys)
keys_parts (e ∷ es) fs keys = (let r = keys_parts es fs keys.1 in ((keys.0, r.0), r.1))

keys_both : (es fs : List Entry) → AreKeysOfItems es → AreKeysOfItems fs → AreKeysOfItems (es ++ fs)
keys_both [] fs a b = b
keys_both (e ∷ es) fs a b = (a.0, keys_both es fs a.1 b)

-- what is left out has no type
left_out : (es : List Entry) (k : WorldKey) (a : WorldItem) (i : ℕ) → is_some (lookup (key_eq k) es) ≡ true → IsKeyOfItem (k, a) → IsClear (es ++ (k, a) ∷ []) → Has (item_type a) i → ⊥
left_out es (key.Name x) a i h is clear has = clash_here es x a h clear
left_out es (key.Interface j) (item.Interface id stability span) i h is clear has = has
left_out es (key.Interface j) (item.Function f) i h is clear has = has
left_out es (key.Interface j) (item.TypeItem id span) i h is clear has = (let e : [] ≡ j ∷ [] = is in cc)

types_united : (es side : List Entry) → AreUnited key_eq es side → AreKeysOfItems es → IsClear es → (i : ℕ) → Has (type_items es) i → Has (type_items side) i
types_united _ _ no_entries keys clear i h = h
types_united _ _ (first_of_its_key es side e u new) keys clear i h = elim (of_parts item_type es (e ∷ []) i h) as (λ _. Has (type_items (side ++ e ∷ [])) i) [
  | inl was ↦ of_first item_type side (e ∷ []) i (types_united es side u (keys_parts es (e ∷ []) keys).0 (clear_front es (e ∷ []) clear) i was)
  | inr last ↦ of_second item_type side (e ∷ []) i last
]
types_united _ _ (key_again es side e u again) keys clear i h = elim (of_parts item_type es (e ∷ []) i h) as (λ _. Has (type_items side) i) [
  | inl was ↦ types_united es side u (keys_parts es (e ∷ []) keys).0 (clear_front es (e ∷ []) clear) i was
  | inr last ↦ elim (has_parts (item_type e.1) [] i last) as (λ _. Has (type_items side) i) [
    | inl here ↦ absurd (left_out es e.0 e.1 i again (keys_parts es (e ∷ []) keys).1.0 clear here)
    | inr none ↦ absurd none
  ]
]

-- ---- keys of what is brought

copied_interface : (f : ℕ → ℕ) (x y z : WorldItem) → IsSameItem x y → IsMovedItem f (λ (i : ℕ). i) y z → item_interface z ≡ item_interface x
copied_interface f _ _ _ (copy.same_interface id s t span q) (worlds.moved_interface _ _ _) = refl
copied_interface f _ _ _ (copy.same_function a b same) (worlds.moved_function _ c to) = refl
copied_interface f _ _ _ (copy.same_type id span) (worlds.moved_type _ _) = refl

renamed_interface : (names : List IncludeName) (x y : WorldItem) → IsRenamedItem names x y → item_interface y ≡ item_interface x
renamed_interface names (item.Function f) y h = ap item_interface h.1
renamed_interface names (item.Interface id stability span) y h = ap item_interface h
renamed_interface names (item.TypeItem id span) y h = ap item_interface h

copied_key : (k l : WorldKey) (i j : WorldItem) → IsSameKey k l → item_interface j ≡ item_interface i → IsKeyOfItem (k, i) → IsKeyOfItem (l, j)
copied_key _ _ i j (copy.same_name x y h) e is = tt
copied_key _ _ i j (copy.same_key_interface id) e is = e ∙ is

renamed_key : (names : List IncludeName) (k l : WorldKey) (i j : WorldItem) → IsRenamedKey names k l → item_interface j ≡ item_interface i → IsKeyOfItem (k, i) → IsKeyOfItem (l, j)
renamed_key names (key.Name x) l i j h e is = subst (λ (z : WorldKey). IsKeyOfItem (z, j)) (sym h.1) tt
renamed_key names (key.Interface n) l i j h e is = subst (λ (z : WorldKey). IsKeyOfItem (z, j)) (sym h) (e ∙ is)

copied_keys : (c : Copies) (es fs : List Entry) → AreCopiedEntries c es fs → AreKeysOfItems es → AreKeysOfItems fs
copied_keys c _ _ copies.no_entries keys = tt
copied_keys c _ _ (copies.one_entry_more k l i j es fs k_l it rest) keys = (copied_key k l i j k_l (copied_interface (goes c) i it.0 j it.1 it.2) keys.0, copied_keys c es fs rest keys.1)

renamed_keys : (names : List IncludeName) (es fs : List Entry) → AreRenamed names es fs → AreKeysOfItems es → AreKeysOfItems fs
renamed_keys names _ _ renamed.no_entries keys = tt
renamed_keys names _ _ (renamed.one_more k l i j es fs k_l it rest) keys = (renamed_key names k l i j k_l (renamed_interface names i j it) keys.0, renamed_keys names es fs rest keys.1)

-- ---- starts and lists

module _ (types : List TypeDef) (by : TypeOwner) where
  either : (listed more start later : ℕ → Type 0) → TakesByUse types by listed start → TakesByUse types by more later → TakesByUse types by (λ (i : ℕ). listed i ⊎ more i) (λ (i : ℕ). start i ⊎ later i)
  either listed more start later a b = record {
    starts = λ s d h at. elim h as (λ _. IsOwn by d.owner) [ inl x ↦ a.starts s d x at | inr y ↦ b.starts s d y at ];
    parts = λ s k i d e h reach at opened has at_e. elim h as (λ _. IsOwn by e.owner ⊎ IsUse (λ (j : ℕ). listed j ⊎ more j) k i d e) [
      | inl x ↦ elim (a.parts s k i d e x reach at opened has at_e) as (λ _. IsOwn by e.owner ⊎ IsUse (λ (j : ℕ). listed j ⊎ more j) k i d e) [
        | inl is_own ↦ inl is_own
        | inr u ↦ inr (record { is_listed = inl u.is_listed; kind_is = u.kind_is; interface = u.interface; of = u.of })
      ]
      | inr y ↦ elim (b.parts s k i d e y reach at opened has at_e) as (λ _. IsOwn by e.owner ⊎ IsUse (λ (j : ℕ). listed j ⊎ more j) k i d e) [
        | inl is_own ↦ inl is_own
        | inr u ↦ inr (record { is_listed = inr u.is_listed; kind_is = u.kind_is; interface = u.interface; of = u.of })
      ]
    ];
    lists = λ s k d h reach at its. elim h as (λ _. listed k ⊎ more k) [ inl x ↦ inl (a.lists s k d x reach at its) | inr y ↦ inr (b.lists s k d y reach at its) ];
  }

  fewer : (listed more start less : ℕ → Type 0) → ((i : ℕ) → listed i → more i) → ((i : ℕ) → less i → start i) → TakesByUse types by listed start → TakesByUse types by more less
  fewer listed more start less widens narrows a = record {
    starts = λ s d h at. a.starts s d (narrows s h) at;
    parts = λ s k i d e h reach at opened has at_e. elim (a.parts s k i d e (narrows s h) reach at opened has at_e) as (λ _. IsOwn by e.owner ⊎ IsUse more k i d e) [
      | inl is_own ↦ inl is_own
      | inr u ↦ inr (record { is_listed = widens k u.is_listed; kind_is = u.kind_is; interface = u.interface; of = u.of })
    ];
    lists = λ s k d h reach at its. widens k (a.lists s k d (narrows s h) reach at its);
  }

-- ---- worlds that are there

there_more : (types more : List TypeDef) (ids : List ℕ) → AreTypesThere types ids → AreTypesThere (types ++ more) ids
there_more types more ids there = λ i h. (let l : i < length types = there i h in let e : length (types ++ more) ≡ length types + length more = length-append types more in omega (arith, l, e))

worlds_there_more : (types more : List TypeDef) (worlds : List World) → AreWorldsThere types worlds → AreWorldsThere (types ++ more) worlds
worlds_there_more types more worlds there = λ w h. (there_more types more (side_ids w.imports.entries) (there w h).0, there_more types more (side_ids w.exports.entries) (there w h).1)

item_there : (types : List TypeDef) (w : World) → AreSidesThere types w → (s : ℕ) → IsOfItem w s → s < length types
item_there types w there s (inl h) = there.0 s h
item_there types w there s (inr h) = there.1 s h

pub worlds_still : (types more : List TypeDef) (worlds : List World) → AreTypesBackward types → AreWorldsThere types worlds → WorldsTakeByUse types worlds → WorldsTakeByUse (types ++ more) worlds
worlds_still types more worlds back there take i w at =
    takes_more types more back (belongs.World i) (Has (type_items w.imports.entries)) (IsOfItem w) (item_there types w (there w (has_get worlds i w at))) (take i w at)

-- ---- a world so far

module _ (backward : IncludedTypesAreBackward) (sides_there : IncludedSidesAreThere) (brought_takes : BroughtTakesByUse) (worlds : List World) (named : (v : World) → Has worlds v → AreKeysOfItems v.imports.entries) (id : ℕ) where
  pub record IsSoFar (t : State) : Type 0 where
    pub back : AreTypesBackward t.types
    pub imports : AreTypesThere t.types (side_ids t.imports)
    pub exports : AreTypesThere t.types (side_ids t.exports)
    pub keys : AreKeysOfItems t.imports
    pub there : AreWorldsThere t.types worlds
    pub earlier : WorldsTakeByUse t.types worlds
    pub takes : TakesByUse t.types (belongs.World id) (Has (type_items t.imports)) (Sides t.imports t.exports)

  sides_so_far : (t : State) → IsSoFar t → (s : ℕ) → Sides t.imports t.exports s → s < length t.types
  sides_so_far t far s (inl h) = far.imports s h
  sides_so_far t far s (inr h) = far.exports s h

  both_there : (types : List TypeDef) (es fs : List Entry) → AreTypesThere types (side_ids es) → AreTypesThere types (side_ids fs) → AreTypesThere types (side_ids (es ++ fs))
  both_there types es fs a b = λ i h. elim (of_parts item_ids es fs i h) as (λ _. i < length types) [ inl x ↦ a i x | inr y ↦ b i y ]

  one_more_included : (names : List IncludeName) (from : ℕ) (t : State) (w : World) (b : Included) → slice_get worlds from ≡ Some w → IsIncluded names from id t.types w b → IsSoFar t → IsSoFar (with_brought t b)
  one_more_included names from t w b at is far =
      let has : Has worlds w = has_get worlds from w at in
      let grown = backward names from id w t.types is.own b.types.items far.back is.are_own is.brings.types_are in
      let bi : AreTypesThere (t.types ++ b.types.items) (side_ids b.imports.items) = sides_there names t.types is.own b.types.items w.imports.entries b.imports.items grown.1 (far.there w has).0 is.brings.imports_are in
      let be : AreTypesThere (t.types ++ b.types.items) (side_ids b.exports.items) = sides_there names t.types is.own b.types.items w.exports.entries b.exports.items grown.1 (far.there w has).1 is.brings.exports_are in
      let first = takes_more t.types b.types.items far.back (belongs.World id) (Has (type_items t.imports)) (Sides t.imports t.exports) (sides_so_far t far) far.takes in
      let second = brought_takes names from id t.types w b far.back (far.there w has) is (far.earlier from w at) in
      let c = copies_behind t.types is.own in
      record {
        back = grown.0;
        imports = both_there (t.types ++ b.types.items) t.imports b.imports.items (there_more t.types b.types.items (side_ids t.imports) far.imports) bi;
        exports = both_there (t.types ++ b.types.items) t.exports b.exports.items (there_more t.types b.types.items (side_ids t.exports) far.exports) be;
        keys = keys_both t.imports b.imports.items far.keys (renamed_keys names is.brings.imports_are.0 b.imports.items is.brings.imports_are.2 (copied_keys c w.imports.entries is.brings.imports_are.0 is.brings.imports_are.1 (named w has)));
        there = worlds_there_more t.types b.types.items worlds far.there;
        earlier = worlds_still t.types b.types.items worlds far.back far.there far.earlier;
        takes = fewer (t.types ++ b.types.items) (belongs.World id) (λ (i : ℕ). Has (type_items t.imports) i ⊎ Has (brought_types b) i) (Has (type_items (t.imports ++ b.imports.items)))
            (λ (i : ℕ). Sides t.imports t.exports i ⊎ IsOfBrought b i) (Sides (t.imports ++ b.imports.items) (t.exports ++ b.exports.items))
            (λ i h. elim h as (λ _. Has (type_items (t.imports ++ b.imports.items)) i) [ inl x ↦ of_first item_type t.imports b.imports.items i x | inr y ↦ of_second item_type t.imports b.imports.items i y ])
            (λ i h. elim h as (λ _. Sides t.imports t.exports i ⊎ IsOfBrought b i) [
              | inl x ↦ elim (of_parts item_ids t.imports b.imports.items i x) as (λ _. Sides t.imports t.exports i ⊎ IsOfBrought b i) [ inl p ↦ inl (inl p) | inr q ↦ inr (inl q) ]
              | inr y ↦ elim (of_parts item_ids t.exports b.exports.items i y) as (λ _. Sides t.imports t.exports i ⊎ IsOfBrought b i) [ inl p ↦ inl (inr p) | inr q ↦ inr (inr q) ]
            ])
            (either (t.types ++ b.types.items) (belongs.World id) (Has (type_items t.imports)) (Has (brought_types b)) (Sides t.imports t.exports) (IsOfBrought b) first second);
      }

  pub includes_so_far : (ns : List WorldInclude) (s t : State) → Includes worlds id ns s t → IsSoFar s → IsSoFar t
  includes_so_far _ s _ (includes_none _) far = far
  includes_so_far _ s u (includes_one ns n _ t _ before (w, b, at, is, same)) far = subst IsSoFar (sym same) (one_more_included n.names.items n.id t w b at is (includes_so_far ns s t before far))

pub joined_take : IncludedTypesAreBackward → IncludedSidesAreThere → BroughtTakesByUse → JoinedWorldsTakeByUse
joined_take backward sides_there brought_takes worlds owner m old new w back there named m_there earlier takes is =
    let s = is.sides in
    let id : ℕ = length worlds in
    let begins : IsSoFar backward sides_there brought_takes worlds named (length worlds) (own_state old m) = record { back = back; imports = m_there.imports; exports = m_there.exports; keys = m_there.keys; there = there; earlier = earlier; takes = takes } in
    let far = includes_so_far backward sides_there brought_takes worlds named (length worlds) m.includes.items (own_state old m) s.joined s.includes begins in
    let done : TakesByUse s.joined.types (belongs.World (length worlds)) (Has (type_items w.imports.entries)) (IsOfItem w) =
    fewer s.joined.types (belongs.World (length worlds)) (Has (type_items s.joined.imports)) (Has (type_items w.imports.entries)) (Sides s.joined.imports s.joined.exports) (IsOfItem w)
    (types_united s.joined.imports w.imports.entries s.imports_are.entries far.keys s.imports_are.distinct)
    (λ i h. elim h as (λ _. Sides s.joined.imports s.joined.exports i) [ inl x ↦ inl (united_was item_ids s.joined.imports w.imports.entries s.imports_are.entries i x) | inr y ↦ inr (united_was item_ids s.joined.exports w.exports.entries s.exports_are.entries i y) ])
    far.takes
    in
    record {
      earlier = subst (λ (ts : List TypeDef). WorldsTakeByUse ts worlds) (sym s.types_are) far.earlier;
      last = subst (λ (ts : List TypeDef). TakesByUse ts (belongs.World (length worlds)) (Has (type_items w.imports.entries)) (IsOfItem w)) (sym s.types_are) done;
    }
