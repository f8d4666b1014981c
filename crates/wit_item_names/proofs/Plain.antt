-- Worlds that come to a graph import what has plain names.
use Rattle.std.proofs.Common.{◌≡◌, ℕ, List, [], ◌∷◌, ◌++◌, ◌⊎◌, inl, inr, String, refl, sym, subst, ap, ◌∙◌, length, map}
use Rattle.std.specs.Prelude.{string_bytes}
use Rattle.std.specs.declared.alloc.Global.{Global}
use Rattle.wit_order.specs.Order.{Has}
use Rattle.wit_order.specs.Places.{Rows}
use Rattle.wit_words.specs.declared.source_map.Span.{Span}
use Rattle.wit_types.specs.declared.function.Function.{Function}
use Rattle.wit_types.specs.declared.interface.Interface.{Interface}
use Rattle.wit_types.specs.declared.interface.TypeDef.{TypeDef}
use Rattle.wit_types.specs.declared.interface.TypeOwner.TheVariants as belongs
use Rattle.wit_types.specs.declared.world.IncludeName.{IncludeName}
use Rattle.wit_types.specs.declared.world.World.{World}
use Rattle.wit_types.specs.declared.world.WorldInclude.{WorldInclude}
use Rattle.wit_types.specs.declared.world.WorldItem.{WorldItem}
use Rattle.wit_types.specs.declared.world.WorldItem.TheVariants as item
use Rattle.wit_types.specs.declared.world_key.WorldKey.{WorldKey}
use Rattle.wit_types.specs.declared.world_key.WorldKey.TheVariants as key
use Rattle.wit_types.specs.WorldKey.{key_eq}
use Rattle.wit_labels.specs.Passed.wit_plans-declared-moves-MovedWorld.{MovedWorld}
use Rattle.wit_labels.specs.Passed.wit_copies-Copies.{Copies, goes}
use Rattle.wit_labels.specs.Passed.wit_copies-Same as copy
use Rattle.wit_labels.specs.Passed.wit_copies-Same.{IsSameItem}
use Rattle.wit_labels.specs.Passed.wit_sides-Renames.{IsRenamed}
use Rattle.wit_labels.specs.Passed.wit_sides-Sides.{AreUnited, no_entries, first_of_its_key, key_again}
use Rattle.wit_labels.specs.Passed.wit_includes-Included.{copies_behind, IsIncluded}
use Rattle.wit_labels.specs.Passed.wit_includes-declared-worlds-Included.{Included}
use Rattle.wit_reach.specs.Holding.{AreNamedOwned}
use Rattle.wit_reach.specs.Lists.{item_type, type_items}
use Rattle.wit_reach.specs.Types.{AreTypesBackward, AreSidesThere, IsOfItem}
use Rattle.wit_reach.proofs.Holding.{mapped_has, flat_has}
use Rattle.wit_elaborated.specs.Worlds.{AreKeysOfItems}
use Rattle.wit_labels.specs.Passed.wit_copied_trees-There.{IncludedTypesAreBackward, IncludedSidesAreThere}
use Rattle.wit_core_names.specs.Texts.{IsNameOf}
use Rattle.wit_labels.proofs.Passed.wit_arena-Lists.{get_kept, get_last}
use Rattle.wit_labels.specs.Passed.wit_joined-Joined as joined
use Rattle.wit_labels.specs.Passed.wit_joined-Joined.{Includes, includes_none, includes_one, own_state}
use Rattle.wit_labels.specs.Passed.wit_placed-There.{IsOwnThere}
use Rattle.wit_labels.proofs.Passed.wit_placed-Members.{has_at, has_get}
use Rattle.wit_graph_worlds.specs.Passed.wit_uses-Included.{BroughtTakesByUse}
use Rattle.wit_graph_worlds.specs.Passed.wit_uses-Moved.{moved_types, IsOfMoved}
use Rattle.wit_graph_worlds.specs.Passed.wit_uses-Uses.{TakesByUse, WorldsTakeByUse}
use Rattle.wit_graph_worlds.proofs.Passed.wit_uses-Brought.{is_copied, own_local}
use Rattle.wit_graph_worlds.proofs.Passed.wit_uses-Joining.{IsClear, clear_front, clash_of, IsSoFar, includes_so_far}
use Rattle.wit_graph_worlds.specs.Added.{IsAdded}
use Rattle.wit_graph_worlds.specs.Copies.{AreSameEntries}
use Rattle.wit_graph_worlds.specs.Sound.{AreSound}
use Rattle.wit_graph_worlds.specs.Worlds.{State}
use Rattle.wit_graph_worlds.proofs.Adding.{each_of}
use Rattle.wit_graph_worlds.proofs.Belonging.{includes_named}
use Rattle.wit_graph_worlds.proofs.Taking.{begins, all_keep}
use Rattle.wit_item_names.specs.Added.{ArePlainWorlds, IsPlainWorld, AddedWorldsArePlain}
use Rattle.wit_labels.specs.Passed.wit_plain_texts-Plain.{IsPlain}
use Rattle.wit_labels.specs.Plain.{ArePlainApart}
use Rattle.wit_item_names.specs.Plain.{ArePlainlyNamed, AreUnderPlainNames, ArePlainRenames, ArePlainIncludes}
use Rattle.wit_item_names.proofs.Entries.{text_of_item, same_name, named_from, function_from, renamed_function, type_from, renamed_type}
use Rattle.wit_item_names.proofs.Included.{type_ids}
use Rattle.wit_item_names.proofs.Renaming.{renamed_same, renamed_plain}
use Rattle.wit_item_names.proofs.Sides.{Entry}

-- ---- lists

has_either : (xs ys : List Entry) (e : Entry) → Has (xs ++ ys) e → Has xs e ⊎ Has ys e
has_either [] ys e h = inr h
has_either (x ∷ xs) ys e (inl here) = inl (inl here)
has_either (x ∷ xs) ys e (inr later) = elim (has_either xs ys e later) as (λ _. Has (x ∷ xs) e ⊎ Has ys e) [ inl a ↦ inl (inr a) | inr b ↦ inr b ]

has_first : (xs ys : List Entry) (e : Entry) → Has xs e → Has (xs ++ ys) e
has_first [] ys e h = absurd h
has_first (x ∷ xs) ys e (inl here) = inl here
has_first (x ∷ xs) ys e (inr later) = inr (has_first xs ys e later)

has_second : (xs ys : List Entry) (e : Entry) → Has ys e → Has (xs ++ ys) e
has_second [] ys e h = h
has_second (x ∷ xs) ys e h = inr (has_second xs ys e h)

united_entry : (es side : List Entry) → AreUnited key_eq es side → (e : Entry) → Has side e → Has es e
united_entry _ _ no_entries e h = h
united_entry _ _ (first_of_its_key es side x u new) e h = elim (has_either side (x ∷ []) e h) as (λ _. Has (es ++ x ∷ []) e) [
  | inl was ↦ has_first es (x ∷ []) e (united_entry es side u e was)
  | inr last ↦ has_second es (x ∷ []) e last
]
united_entry _ _ (key_again es side x u again) e h = has_first es (x ∷ []) e (united_entry es side u e h)

-- ---- names that are apart

apart_last : (side : List Entry) (k : WorldKey) (a : WorldItem) → ArePlainApart side → ((x y : String Global) (b : WorldItem) → k ≡ key.Name x → Has side (key.Name y, b) → string_bytes x ≡ string_bytes y → ⊥) → ArePlainApart (side ++ (k, a) ∷ [])
apart_last [] (key.Name x) a h isnt = ((λ y b none same. none), tt)
apart_last [] (key.Interface i) a h isnt = tt
apart_last ((key.Name z, c) ∷ side) k a h isnt = (
  (λ y b has same. elim (has_either side ((k, a) ∷ []) (key.Name y, b) has) as (λ _. ⊥) [
    | inl was ↦ h.0 y b was same
    | inr last ↦ elim last as (λ _. ⊥) [ inl here ↦ isnt y z c (sym (ap (λ (e : Entry). e.0) here)) (inl refl) (sym same) | inr none ↦ none ]
  ]),
  apart_last side k a h.1 (λ x y b e has same. isnt x y b e (inr has) same),
)
apart_last ((key.Interface i, c) ∷ side) k a h isnt = apart_last side k a h (λ x y b e has same. isnt x y b e (inr has) same)

united_apart : (es side : List Entry) → AreUnited key_eq es side → IsClear es → ArePlainApart side
united_apart _ _ no_entries clear = tt
united_apart _ _ (first_of_its_key es side (k, a) u new) clear =
    apart_last side k a (united_apart es side u (clear_front es ((k, a) ∷ []) clear)) (λ x y b e has same. clash_of es x a y b (united_entry es side u (key.Name y, b) has) same (subst (λ (z : WorldKey). IsClear (es ++ (z, a) ∷ [])) e clear))
united_apart _ _ (key_again es side e u again) clear = united_apart es side u (clear_front es (e ∷ []) clear)

-- ---- what says the same

record SameFrom (es : List Entry) (e : Entry) : Type 0 where
  was : Entry
  has : Has es was
  keys : copy.IsSameKey was.0 e.0
  items : IsSameItem was.1 e.1

same_from : (es fs : List Entry) → AreSameEntries es fs → (e : Entry) → Has fs e → SameFrom es e
same_from [] [] same e h = absurd h
same_from [] (y ∷ fs) same e h = absurd same
same_from (x ∷ es) [] same e h = absurd same
same_from (x ∷ es) (y ∷ fs) same e (inl here) = record { was = x; has = inl refl; keys = subst (λ (z : Entry). copy.IsSameKey x.0 z.0) (sym here) same.0.0; items = subst (λ (z : Entry). IsSameItem x.1 z.1) (sym here) same.0.1 }
same_from (x ∷ es) (y ∷ fs) same e (inr later) = (let r = same_from es fs same.1 e later in record { was = r.was; has = inr r.has; keys = r.keys; items = r.items })

same_function_item : (x y : WorldItem) → IsSameItem x y → (g : Function) → y ≡ item.Function g → (h : Function) × (x ≡ item.Function h) × (string_bytes g.name ≡ string_bytes h.name)
same_function_item _ _ (copy.same_interface id s t span same) g e = absurd cc
same_function_item _ _ (copy.same_function a b same) g e = (a, refl, sym (ap text_of_item e) ∙ same.name)
same_function_item _ _ (copy.same_type id span) g e = absurd cc

same_type_item : (x y : WorldItem) → IsSameItem x y → (id : ℕ) (span : Span) → y ≡ item.TypeItem id span → x ≡ item.TypeItem id span
same_type_item _ _ (copy.same_interface i s t at same) id span e = absurd cc
same_type_item _ _ (copy.same_function a b same) id span e = absurd cc
same_type_item _ _ (copy.same_type i at) id span e = e

first_same : (es fs : List Entry) → AreSameEntries es fs → (k l : WorldKey) (a b : WorldItem) → copy.IsSameKey k l → ArePlainApart ((k, a) ∷ es) → (ArePlainApart es → ArePlainApart fs) → ArePlainApart ((l, b) ∷ fs)
first_same es fs same _ _ a b (copy.same_name x y e) p later = (
  (λ z c has equal.
      (let r = same_from es fs same (key.Name z, c) has in
      let n = same_name r.was.0 (key.Name z) r.keys z refl in
      p.0 n.0 r.was.1 (subst (λ (q : WorldKey). Has es (q, r.was.1)) n.1 r.has) (sym e ∙ equal ∙ n.2))),
  later p.1,
)
first_same es fs same _ _ a b (copy.same_key_interface id) p later = later p

same_apart : (es fs : List Entry) → AreSameEntries es fs → ArePlainApart es → ArePlainApart fs
same_apart [] [] same h = tt
same_apart [] (y ∷ fs) same h = absurd same
same_apart (x ∷ es) [] same h = absurd same
same_apart ((k, a) ∷ es) ((l, b) ∷ fs) same h = first_same es fs same.1 k l a b same.0.0 h (same_apart es fs same.1)

record WasNamed (es : List Entry) (x : String Global) (a : WorldItem) : Type 0 where
  name : String Global
  item_was : WorldItem
  has : Has es (key.Name name, item_was)
  equal : string_bytes x ≡ string_bytes name
  items : IsSameItem item_was a

was_named : (es fs : List Entry) → AreSameEntries es fs → (x : String Global) (a : WorldItem) → Has fs (key.Name x, a) → WasNamed es x a
was_named es fs same x a has =
    let r = same_from es fs same (key.Name x, a) has in
    let n = same_name r.was.0 (key.Name x) r.keys x refl in
    record { name = n.0; item_was = r.was.1; has = subst (λ (q : WorldKey). Has es (q, r.was.1)) n.1 r.has; equal = n.2; items = r.items }

same_plain : (types : List TypeDef) (es fs : List Entry) → AreSameEntries es fs → AreUnderPlainNames types es → AreUnderPlainNames types fs
same_plain types es fs same was = record {
  plain = λ x a has. (let r = was_named es fs same x a has in subst IsPlain (sym r.equal) (was.plain r.name r.item_was r.has));
  functions = λ x f has.
      (let r = was_named es fs same x (item.Function f) has in
      let g = same_function_item r.item_was (item.Function f) r.items f refl in
      g.2 ∙ was.functions r.name g.0 (subst (λ (q : WorldItem). Has es (key.Name r.name, q)) g.1 r.has) ∙ sym r.equal);
  types_are = λ x id span has.
      (let r = was_named es fs same x (item.TypeItem id span) has in
      let g = same_type_item r.item_was (item.TypeItem id span) r.items id span refl in
      subst (IsNameOf types id) (sym r.equal) (was.types_are r.name id span (subst (λ (q : WorldItem). Has es (key.Name r.name, q)) g r.has)));
}

-- ---- with more types, and of several sides

name_more : (types more : List TypeDef) (id : ℕ) (t : List ℕ) → IsNameOf types id t → IsNameOf (types ++ more) id t
name_more types more id t (d, n, at, named, is) = (d, n, get_kept types more id d at, named, is)

plain_more : (types more : List TypeDef) (es : List Entry) → AreUnderPlainNames types es → AreUnderPlainNames (types ++ more) es
plain_more types more es was = record { plain = was.plain; functions = was.functions; types_are = λ x id span has. name_more types more id (string_bytes x) (was.types_are x id span has) }

pub plainly_more : (types more : List TypeDef) (es : List Entry) → ArePlainlyNamed types es → ArePlainlyNamed (types ++ more) es
plainly_more types more es was = record { apart = was.apart; plain = was.plain; functions = was.functions; types_are = λ x id span has. name_more types more id (string_bytes x) (was.types_are x id span has) }

plain_both : (types : List TypeDef) (es fs : List Entry) → AreUnderPlainNames types es → AreUnderPlainNames types fs → AreUnderPlainNames types (es ++ fs)
plain_both types es fs a b = record {
  plain = λ x i has. elim (has_either es fs (key.Name x, i) has) as (λ _. IsPlain (string_bytes x)) [ inl p ↦ a.plain x i p | inr q ↦ b.plain x i q ];
  functions = λ x f has. elim (has_either es fs (key.Name x, item.Function f) has) as (λ _. string_bytes f.name ≡ string_bytes x) [ inl p ↦ a.functions x f p | inr q ↦ b.functions x f q ];
  types_are = λ x id span has. elim (has_either es fs (key.Name x, item.TypeItem id span) has) as (λ _. IsNameOf types id (string_bytes x)) [ inl p ↦ a.types_are x id span p | inr q ↦ b.types_are x id span q ];
}

plain_fewer : (types : List TypeDef) (es fs : List Entry) → ((e : Entry) → Has fs e → Has es e) → AreUnderPlainNames types es → AreUnderPlainNames types fs
plain_fewer types es fs within was = record {
  plain = λ x a has. was.plain x a (within (key.Name x, a) has);
  functions = λ x f has. was.functions x f (within (key.Name x, item.Function f) has);
  types_are = λ x id span has. was.types_are x id span (within (key.Name x, item.TypeItem id span) has);
}

-- ---- what is brought

module _ (names : List IncludeName) (from into : ℕ) (types : List TypeDef) (world : World) (b : Included) (backward : AreTypesBackward types) (there : AreSidesThere types world) (is : IsIncluded names from into types world b)
    (takes : TakesByUse types (belongs.World from) (Has (type_items world.imports.entries)) (IsOfItem world)) (owned : AreNamedOwned types) (renames : ArePlainRenames names) (was : AreUnderPlainNames types world.imports.entries)
  where
    abbrev c : Copies
    c = copies_behind types is.own

    abbrev all : List TypeDef
    all = types ++ b.types.items

    type_of_world : (x : String Global) (id : ℕ) (span : Span) → Has world.imports.entries (key.Name x, item.TypeItem id span) → IsOfItem world id
    type_of_world x id span has = inl (type_ids world.imports.entries id (flat_has item_type (map (λ (e : Entry). e.1) world.imports.entries) (item.TypeItem id span) id (mapped_has (λ (e : Entry). e.1) world.imports.entries (key.Name x, item.TypeItem id span) has) (inl refl)))

    -- a copy has the changed name
    copy_named : (x y : String Global) (id : ℕ) (span : Span) → Has world.imports.entries (key.Name x, item.TypeItem id span) → IsRenamed names (string_bytes x) (string_bytes y) → IsNameOf all (goes c id) (string_bytes y)
    copy_named x y id span has renamed =
        let t = was.types_are x id span has in
        let starts = type_of_world x id span has in
        let its : t.0.owner ≡ belongs.World from = elim (takes.starts id t.0 starts t.2) as (λ _. t.0.owner ≡ belongs.World from) [ inl none ↦ absurd (owned id t.0 t.1 t.2 t.3 none) | inr same ↦ same ] in
        let own_is : Has is.own id = is.are_own.all id id (starts, (t.0, t.2, own_local from t.0.owner (inr its))) ([], refl) in
        let copied = is_copied names from into types world b backward there is id t.0 own_is t.2 in
        let n = copied.name_was t.1 t.3 its in
        (copied.copy_of, n.0, copied.at, n.2, renamed_same names (string_bytes x) (string_bytes t.1) (string_bytes y) (string_bytes n.0) t.4 renamed n.1)

    brought_plain : AreUnderPlainNames all b.imports.items
    brought_plain = record {
      plain = λ x a has. (let r = named_from names c world.imports.entries b.imports.items is.brings.imports_are x a has in renamed_plain names renames (string_bytes r.name) (string_bytes x) r.becomes (was.plain r.name r.was r.has));
      functions = λ x f has.
          (let r = named_from names c world.imports.entries b.imports.items is.brings.imports_are x (item.Function f) has in
          let g = renamed_function names r.clone f r.renamed in
          let h = function_from (goes c) r.was r.copied.0 r.clone r.copied.1 r.copied.2 g.0 g.1 in
          let same : string_bytes h.0.name ≡ string_bytes r.name = was.functions r.name h.0 (subst (λ (q : WorldItem). Has world.imports.entries (key.Name r.name, q)) h.1 r.has) in
          renamed_same names (string_bytes g.0.name) (string_bytes r.name) (string_bytes f.name) (string_bytes x) (h.2 ∙ same) g.2 r.becomes);
      types_are = λ x id span has.
          (let r = named_from names c world.imports.entries b.imports.items is.brings.imports_are x (item.TypeItem id span) has in
          let g = renamed_type names r.clone id span r.renamed in
          let h = type_from (goes c) r.was r.copied.0 r.clone r.copied.1 r.copied.2 id span g in
          subst (λ (n : ℕ). IsNameOf all n (string_bytes x)) h.3 (copy_named r.name x h.0 h.1 (subst (λ (q : WorldItem). Has world.imports.entries (key.Name r.name, q)) h.2 r.has) r.becomes));
    }

-- ---- worlds

module _ (backward : IncludedTypesAreBackward) (sides_there : IncludedSidesAreThere) (brought_takes : BroughtTakesByUse) where
  module _ (worlds : List World) (keys : (v : World) → Has worlds v → AreKeysOfItems v.imports.entries) (id : ℕ) where
    record IsOk (t : joined.State) : Type 0 where
      own : AreUnderPlainNames t.types t.imports
      earlier : (w : World) → Has worlds w → AreUnderPlainNames t.types w.imports.entries

    includes_ok : (ns : List WorldInclude) (s t : joined.State) → Includes worlds id ns s t → IsSoFar backward sides_there brought_takes worlds keys id s → AreNamedOwned s.types → ArePlainIncludes ns → IsOk s → IsOk t
    includes_ok _ s _ (includes_none _) far owned renames ok = ok
    includes_ok _ s u (includes_one ns n _ t _ before (w, b, at, is, same)) far owned renames ok =
        let so = includes_so_far backward sides_there brought_takes worlds keys id ns s t before far in
        let fewer : ArePlainIncludes ns = λ m h. (let p = has_at ns m h in renames m (has_get (ns ++ n ∷ []) p.0 m (get_kept ns (n ∷ []) p.0 m p.1))) in
        let last : ArePlainRenames n.names.items = renames n (has_get (ns ++ n ∷ []) (length ns) n (get_last ns n)) in
        let r = includes_ok ns s t before far owned fewer ok in
        let has = has_get worlds n.id w at in
        let brought = brought_plain n.names.items n.id id t.types w b so.back (so.there w has) is (so.earlier n.id w at) (includes_named worlds id ns s t before owned) last (r.earlier w has) in
        subst IsOk (sym same) (record {
          own = plain_both (t.types ++ b.types.items) t.imports b.imports.items (plain_more t.types b.types.items t.imports r.own) brought;
          earlier = λ v h. plain_more t.types b.types.items v.imports.entries (r.earlier v h);
        })

  under : (types : List TypeDef) (es : List Entry) → ArePlainlyNamed types es → AreUnderPlainNames types es
  under types es p = record { plain = p.plain; functions = p.functions; types_are = p.types_are }

  plainly : (types : List TypeDef) (es : List Entry) → ArePlainApart es → AreUnderPlainNames types es → ArePlainlyNamed types es
  plainly types es a p = record { apart = a; plain = p.plain; functions = p.functions; types_are = p.types_are }

  module _ (n : ℕ) (interfaces : List Interface) (uses : Rows) (owner : ℕ) where
    abbrev AllOk : State → Type 0
    AllOk s = AreNamedOwned s.types × ArePlainWorlds s.types s.worlds.listed

    step : (m : MovedWorld) (s t : State) → IsAdded interfaces uses owner m s t → AreSound n s.types s.worlds → IsOwnThere s.types n m → WorldsTakeByUse s.types s.worlds.listed
        → TakesByUse s.types (belongs.World (length s.worlds.listed)) (Has (moved_types m)) (IsOfMoved m) → AllOk s → IsPlainWorld s.types m → AllOk t
    step m s t a sound own take m_takes (owned, ok) m_ok =
        let worlds = s.worlds.listed in
        let sides = a.is_joined.sides in
        let w = a.joined in
        let far = begins backward sides_there brought_takes n interfaces uses owner m s sound own take m_takes in
        let r = includes_ok worlds sound.keys (length worlds) m.includes.items (own_state s.types m) sides.joined sides.includes far owned m_ok.renames (record { own = m_ok.imports; earlier = λ v h. under s.types v.imports.entries (ok v h) }) in
        let done : ArePlainlyNamed sides.joined.types w.imports.entries =
        plainly sides.joined.types w.imports.entries (united_apart sides.joined.imports w.imports.entries sides.imports_are.entries sides.imports_are.distinct)
        (plain_fewer sides.joined.types sides.joined.imports w.imports.entries (united_entry sides.joined.imports w.imports.entries sides.imports_are.entries) r.own)
        in
        let here : ArePlainlyNamed sides.joined.types a.listed.imports.entries =
        plainly sides.joined.types a.listed.imports.entries (same_apart w.imports.entries a.listed.imports.entries a.is_listed.imports done.apart)
        (same_plain sides.joined.types w.imports.entries a.listed.imports.entries a.is_listed.imports (under sides.joined.types w.imports.entries done))
        in
        let all : ArePlainWorlds sides.joined.types (worlds ++ a.listed ∷ []) =
        each_of (λ (v : World). ArePlainlyNamed sides.joined.types v.imports.entries) worlds a.listed (λ v h. plainly sides.joined.types v.imports.entries (ok v h).apart (r.earlier v h)) here
        in (
          subst AreNamedOwned (sym sides.types_are) (includes_named worlds (length worlds) m.includes.items (own_state s.types m) sides.joined sides.includes owned),
          subst (λ (ts : List TypeDef). ArePlainWorlds ts t.worlds.listed) (sym sides.types_are) (subst (ArePlainWorlds sides.joined.types) (sym a.listed_are) all),
        )

pub added_plain : IncludedTypesAreBackward → IncludedSidesAreThere → BroughtTakesByUse → AddedWorldsArePlain
added_plain backward sides_there brought_takes n interfaces uses owner ms s t c owned ok own_ok =
    (all_keep backward sides_there brought_takes n interfaces uses owner (λ (x : State). AreNamedOwned x.types × ArePlainWorlds x.types x.worlds.listed) IsPlainWorld (step backward sides_there brought_takes n interfaces uses owner)
    (λ types more m back own m_ok. record { imports = plain_more types more m.imports.items m_ok.imports; renames = m_ok.renames }) ms s t c.added c.sound c.own c.take c.own_take (owned, ok) own_ok).1
