-- Worlds that come to a graph use and import interfaces that have names.
use Rattle.std.proofs.Common.{◌≡◌, ℕ, List, [], ◌∷◌, ◌++◌, ◌⊎◌, inl, inr, refl, sym, subst, ap, ◌∙◌, length}
use Rattle.std.proofs.lemmas.Grind.{flat_map-append}
use Rattle.wit_order.specs.Order.{Has}
use Rattle.wit_order.specs.Places.{Rows}
use Rattle.wit_order.proofs.Lists.{has_was}
use Rattle.wit_types.specs.declared.interface.Interface.{Interface}
use Rattle.wit_types.specs.declared.interface.TypeDef.{TypeDef}
use Rattle.wit_types.specs.declared.interface.TypeOwner.TheVariants as belongs
use Rattle.wit_types.specs.declared.world.World.{World}
use Rattle.wit_types.specs.declared.world.WorldInclude.{WorldInclude}
use Rattle.wit_types.specs.declared.«package».Package.{Package}
use Rattle.wit_types.specs.WorldKey.{key_eq}
use Rattle.wit_labels.specs.Passed.wit_plans-declared-moves-MovedWorld.{MovedWorld}
use Rattle.wit_labels.specs.Passed.wit_sides-Sides.{AreUnited, no_entries, first_of_its_key, key_again}
use Rattle.wit_labels.specs.Passed.wit_includes-Included.{copies_behind}
use Rattle.wit_reach.specs.Deps.{AreUsed}
use Rattle.wit_reach.specs.Ids.{side_ids}
use Rattle.wit_reach.specs.Lists.{item_type, type_items, listed, listed_in}
use Rattle.wit_reach.specs.Types.{AreTypesBackward, AreTypesThere}
use Rattle.wit_reach.proofs.Growing.{used_was}
use Rattle.wit_reach.proofs.Lists.{has_append, has_parts}
use Rattle.wit_elaborated.specs.Worlds.{AreKeysOfItems}
use Rattle.wit_labels.specs.Passed.wit_copied_trees-There.{IncludedTypesAreBackward, IncludedSidesAreThere}
use Rattle.wit_labels.specs.Passed.wit_joined-Joined as joined
use Rattle.wit_labels.specs.Passed.wit_joined-Joined.{Includes, includes_none, includes_one, own_state}
use Rattle.wit_labels.specs.Passed.wit_placed-There.{IsOwnThere}
use Rattle.wit_labels.proofs.Passed.wit_placed-Members.{has_get}
use Rattle.wit_graph_worlds.specs.Passed.wit_uses-Included.{BroughtTakesByUse}
use Rattle.wit_graph_worlds.specs.Passed.wit_uses-Moved.{moved_types, IsOfMoved}
use Rattle.wit_graph_worlds.specs.Passed.wit_uses-Uses.{TakesByUse, WorldsTakeByUse}
use Rattle.wit_graph_worlds.proofs.Passed.wit_uses-Joining.{IsSoFar, includes_so_far, of_parts, united_was}
use Rattle.wit_graph_worlds.specs.Added.{IsAdded}
use Rattle.wit_graph_worlds.specs.Copies.{AreSameEntries, IsSameWorld}
use Rattle.wit_graph_worlds.specs.Sound.{AreSound}
use Rattle.wit_graph_worlds.specs.Worlds.{State}
use Rattle.wit_graph_worlds.proofs.Adding.{each_of}
use Rattle.wit_graph_worlds.proofs.Alike.{interface_alike, items_alike, type_alike}
use Rattle.wit_graph_worlds.proofs.Taking.{begins, all_keep}
use Rattle.wit_item_names.specs.Used.{IsNamed, SidesUseNamed}
use Rattle.wit_item_names.specs.Added.{AddedWorldsUseNamed, WorldsUseNamed}
use Rattle.wit_item_names.proofs.Included.{types_there, included_listed, included_used, listed_alike}
use Rattle.wit_item_names.proofs.Sides.{Entry}

-- ---- sides

listed_parts : (es fs : List Entry) (i : ℕ) → Has (listed_in (es ++ fs)) i → Has (listed_in es) i ⊎ Has (listed_in fs) i
listed_parts es fs i h = has_parts (listed_in es) (listed_in fs) i (subst (λ (l : List ℕ). Has l i) (flat_map-append listed es fs) h)

listed_first : (es fs : List Entry) (i : ℕ) → Has (listed_in es) i → Has (listed_in (es ++ fs)) i
listed_first es fs i h = subst (λ (l : List ℕ). Has l i) (sym (flat_map-append listed es fs)) (has_was (listed_in es) (listed_in fs) i h)

listed_second : (es fs : List Entry) (i : ℕ) → Has (listed_in fs) i → Has (listed_in (es ++ fs)) i
listed_second es fs i h = subst (λ (l : List ℕ). Has l i) (sym (flat_map-append listed es fs)) (has_append (listed_in es) (listed_in fs) i h)

listed_united : (es side : List Entry) → AreUnited key_eq es side → (i : ℕ) → Has (listed_in side) i → Has (listed_in es) i
listed_united _ _ no_entries i h = h
listed_united _ _ (first_of_its_key es side e u new) i h = elim (listed_parts side (e ∷ []) i h) as (λ _. Has (listed_in (es ++ e ∷ [])) i) [
  | inl was ↦ listed_first es (e ∷ []) i (listed_united es side u i was)
  | inr last ↦ listed_second es (e ∷ []) i last
]
listed_united _ _ (key_again es side e u again) i h = listed_first es (e ∷ []) i (listed_united es side u i h)

listed_same : (es fs : List Entry) → AreSameEntries es fs → listed_in fs ≡ listed_in es
listed_same [] [] h = refl
listed_same [] (x ∷ fs) h = absurd h
listed_same (e ∷ es) [] h = absurd h
listed_same (e ∷ es) (x ∷ fs) h =
    ap (λ (l : List ℕ). l ++ listed_in fs) (listed_alike e.0 x.0 e.1 x.1 h.0.0 (interface_alike e.1 x.1 h.0.1)) ∙ ap (λ (l : List ℕ). listed e ++ l) (listed_same es fs h.1)

-- types of two sides
module _ (ds : List TypeDef) (es fs gs hs : List Entry) (first : (i : ℕ) → Has (type_items es) i → Has (type_items gs) i) (second : (i : ℕ) → Has (type_items fs) i → Has (type_items hs) i) where
  both_used : (j : ℕ) → AreUsed ds (type_items es ++ type_items fs) j → AreUsed ds (type_items gs ++ type_items hs) j
  both_used j (i, has, dep) = elim (has_parts (type_items es) (type_items fs) i has) as (λ _. AreUsed ds (type_items gs ++ type_items hs) j) [
    | inl a ↦ (i, has_was (type_items gs) (type_items hs) i (first i a), dep)
    | inr b ↦ (i, has_append (type_items gs) (type_items hs) i (second i b), dep)
  ]

-- ---- worlds

module _ (backward : IncludedTypesAreBackward) (sides_there : IncludedSidesAreThere) (brought_takes : BroughtTakesByUse) (packages : List Package) (interfaces : List Interface) where
  abbrev Named : ℕ → Type 0
  Named j = IsNamed packages interfaces j

  abbrev AreOk : List TypeDef → List Entry → List Entry → Type 0
  AreOk types es fs = SidesUseNamed packages types interfaces es fs

  ok_more : (types more : List TypeDef) → AreTypesBackward types → (es fs : List Entry) → AreTypesThere types (side_ids es) → AreTypesThere types (side_ids fs) → AreOk types es fs → AreOk (types ++ more) es fs
  ok_more types more back es fs a b ok = record { used = λ j u. ok.used j (used_was types more back (type_items es ++ type_items fs) j (types_there types es fs a b) u); imported = ok.imported }

  module _ (worlds : List World) (keys : (v : World) → Has worlds v → AreKeysOfItems v.imports.entries) (id : ℕ) where
    record IsOk (t : joined.State) : Type 0 where
      own : AreOk t.types t.imports t.exports
      earlier : (w : World) → Has worlds w → AreOk t.types w.imports.entries w.exports.entries

    includes_ok : (ns : List WorldInclude) (s t : joined.State) → Includes worlds id ns s t → IsSoFar backward sides_there brought_takes worlds keys id s → IsOk s → IsOk t
    includes_ok _ s _ (includes_none _) far ok = ok
    includes_ok _ s u (includes_one ns n _ t _ before (w, b, at, is, same)) far ok =
        let so = includes_so_far backward sides_there brought_takes worlds keys id ns s t before far in
        let r = includes_ok ns s t before far ok in
        let has = has_get worlds n.id w at in
        let all : List TypeDef = t.types ++ b.types.items in
        let was = ok_more t.types b.types.items so.back t.imports t.exports so.imports so.exports r.own in
        let theirs = r.earlier w has in
        subst IsOk (sym same) (record {
          own = record {
            used = λ j (i, i_has, dep). elim (has_parts (type_items (t.imports ++ b.imports.items)) (type_items (t.exports ++ b.exports.items)) i i_has) as (λ _. Named j) [
              | inl x ↦ elim (of_parts item_type t.imports b.imports.items i x) as (λ _. Named j) [
                | inl first ↦ was.used j (i, has_was (type_items t.imports) (type_items t.exports) i first, dep)
                | inr later ↦ theirs.used j (included_used n.names.items n.id id t.types w b so.back (so.there w has) is j (i, has_was (type_items b.imports.items) (type_items b.exports.items) i later, dep))
              ]
              | inr y ↦ elim (of_parts item_type t.exports b.exports.items i y) as (λ _. Named j) [
                | inl first ↦ was.used j (i, has_append (type_items t.imports) (type_items t.exports) i first, dep)
                | inr later ↦ theirs.used j (included_used n.names.items n.id id t.types w b so.back (so.there w has) is j (i, has_append (type_items b.imports.items) (type_items b.exports.items) i later, dep))
              ]
            ];
            imported = λ j h. elim (listed_parts t.imports b.imports.items j h) as (λ _. Named j) [
              | inl first ↦ r.own.imported j first
              | inr later ↦ theirs.imported j (subst (λ (l : List ℕ). Has l j) (included_listed n.names.items (copies_behind t.types is.own) w.imports.entries b.imports.items is.brings.imports_are) later)
            ];
          };
          earlier = λ v h. ok_more t.types b.types.items so.back v.imports.entries v.exports.entries (so.there v h).0 (so.there v h).1 (r.earlier v h);
        })

  -- what says the same
  ok_same : (types : List TypeDef) (w v : World) → IsSameWorld w v → AreOk types w.imports.entries w.exports.entries → AreOk types v.imports.entries v.exports.entries
  ok_same types w v is ok = record {
    used = λ j u. ok.used j (both_used types v.imports.entries v.exports.entries w.imports.entries w.exports.entries
        (λ i h. subst (λ (l : List ℕ). Has l i) (items_alike item_type type_alike w.imports.entries v.imports.entries is.imports) h)
        (λ i h. subst (λ (l : List ℕ). Has l i) (items_alike item_type type_alike w.exports.entries v.exports.entries is.exports) h) j u);
    imported = λ j h. ok.imported j (subst (λ (l : List ℕ). Has l j) (listed_same w.imports.entries v.imports.entries is.imports) h);
  }

  module _ (n : ℕ) (uses : Rows) (owner : ℕ) where
    abbrev AllOk : State → Type 0
    AllOk s = WorldsUseNamed packages s.types interfaces s.worlds.listed

    step : (m : MovedWorld) (s t : State) → IsAdded interfaces uses owner m s t → AreSound n s.types s.worlds → IsOwnThere s.types n m → WorldsTakeByUse s.types s.worlds.listed
        → TakesByUse s.types (belongs.World (length s.worlds.listed)) (Has (moved_types m)) (IsOfMoved m) → AllOk s → AreOk s.types m.imports.items m.exports.items → AllOk t
    step m s t a sound own take m_takes ok m_ok =
        let worlds = s.worlds.listed in
        let sides = a.is_joined.sides in
        let w = a.joined in
        let so_far = begins backward sides_there brought_takes n interfaces uses owner m s sound own take m_takes in
        let r = includes_ok worlds sound.keys (length worlds) m.includes.items (own_state s.types m) sides.joined sides.includes so_far (record { own = m_ok; earlier = ok }) in
        let done : AreOk sides.joined.types w.imports.entries w.exports.entries =
        record {
          used = λ j u. r.own.used j (both_used sides.joined.types w.imports.entries w.exports.entries sides.joined.imports sides.joined.exports (united_was item_type sides.joined.imports w.imports.entries sides.imports_are.entries)
              (united_was item_type sides.joined.exports w.exports.entries sides.exports_are.entries) j u);
          imported = λ j h. r.own.imported j (listed_united sides.joined.imports w.imports.entries sides.imports_are.entries j h);
        }
        in
        let all : WorldsUseNamed packages sides.joined.types interfaces (worlds ++ a.listed ∷ []) =
        each_of (λ (v : World). AreOk sides.joined.types v.imports.entries v.exports.entries) worlds a.listed r.earlier (ok_same sides.joined.types w a.listed a.is_listed done)
        in
        subst (λ (ts : List TypeDef). WorldsUseNamed packages ts interfaces t.worlds.listed) (sym sides.types_are) (subst (WorldsUseNamed packages sides.joined.types interfaces) (sym a.listed_are) all)

pub added_use_named : IncludedTypesAreBackward → IncludedSidesAreThere → BroughtTakesByUse → AddedWorldsUseNamed
added_use_named backward sides_there brought_takes n packages interfaces uses owner ms s t c ok own_ok =
    all_keep backward sides_there brought_takes n interfaces uses owner (λ (x : State). WorldsUseNamed packages x.types interfaces x.worlds.listed)
    (λ (types : List TypeDef) (m : MovedWorld). SidesUseNamed packages types interfaces m.imports.items m.exports.items) (step backward sides_there brought_takes packages interfaces n uses owner)
    (λ types more m back own m_ok. ok_more backward sides_there brought_takes packages interfaces types more back m.imports.items m.exports.items own.imports.types_are own.exports.types_are m_ok)
    ms s t c.added c.sound c.own c.take c.own_take ok own_ok
