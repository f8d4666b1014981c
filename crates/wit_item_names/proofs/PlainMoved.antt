-- What stays of a package's worlds imports what has plain names.
use Rattle.std.proofs.Common.{◌≡◌, ℕ, ◌+◌, true, false, Bool, List, [], ◌∷◌, ◌++◌, inl, inr, Some, String, refl, sym, subst, ap, ◌∙◌, length, map}
use Rattle.std.proofs.lemmas.Option.{same_Some}
use Rattle.std.specs.Prelude.{flat_map, string_bytes, if◌then◌else◌}
use Rattle.std.specs.declared.alloc.Global.{Global}
use Rattle.wit_order.specs.Order.{Has}
use Rattle.wit_words.specs.declared.source_map.Span.{Span}
use Rattle.wit_types.specs.declared.function.Function.{Function}
use Rattle.wit_types.specs.declared.interface.Interface.{Interface}
use Rattle.wit_types.specs.declared.interface.TypeDef.{TypeDef}
use Rattle.wit_types.specs.declared.interface.TypeOwner.{TypeOwner}
use Rattle.wit_types.specs.declared.interface.TypeOwner.TheVariants as belongs
use Rattle.wit_types.specs.declared.world.IncludeName.{IncludeName}
use Rattle.wit_types.specs.declared.world.World.{World}
use Rattle.wit_types.specs.declared.world.WorldInclude.{WorldInclude}
use Rattle.wit_types.specs.declared.world.WorldItem.{WorldItem}
use Rattle.wit_types.specs.declared.world.WorldItem.TheVariants as item
use Rattle.wit_types.specs.declared.world_key.WorldKey.{WorldKey}
use Rattle.wit_types.specs.declared.world_key.WorldKey.TheVariants as key
use Rattle.wit_features.specs.Features.{FeatureSet, stays as gate_stays}
use Rattle.wit_moves.specs.Moved.{Places, place_of, is_placed, to}
use Rattle.wit_moves.specs.Interfaces.{no_entries, one_goes, one_stays}
use Rattle.wit_moves.specs.Plan.{OwnerPlaces}
use Rattle.wit_moves.specs.Worlds.{item_stays, IsMovedItem, moved_interface, moved_function, moved_type, moved_key, moved_entry, AreMovedItems, IsMovedSide}
use Rattle.wit_labels.specs.Passed.wit_finding-Types.{type_found}
use Rattle.wit_labels.specs.Passed.wit_plans-Checks.{Standing}
use Rattle.wit_labels.specs.Passed.wit_plans-Moves.{moved_include, IsMovedWorld}
use Rattle.wit_labels.specs.Passed.wit_plans-declared-moves-MovedWorld.{MovedWorld}
use Rattle.wit_reach.specs.Holding.{HoldTheirTypes}
use Rattle.wit_reach.specs.Lists.{item_type, type_items}
use Rattle.wit_reach.specs.Types.{IsOfItem}
use Rattle.wit_reach.proofs.Holding.{has_mapped, mapped_has, flat_has}
use Rattle.wit_labels.proofs.Passed.wit_arena-Lists.{get_kept}
use Rattle.wit_core_names.specs.Texts.{IsNameOf}
use Rattle.wit_labels.specs.Passed.wit_placed-Order.{AreBehind}
use Rattle.wit_labels.proofs.Passed.wit_placed-Finding as finding
use Rattle.wit_labels.proofs.Passed.wit_placed-Holding.{goes_to}
use Rattle.wit_labels.proofs.Passed.wit_placed-Members.{has_at, has_get}
use Rattle.wit_labels.proofs.Passed.wit_placed-Own.{worlds_take_places_alone}
use Rattle.wit_graph_worlds.specs.Passed.wit_uses-Uses.{IsOwn, TakesByUse}
use Rattle.wit_graph_worlds.proofs.Passed.wit_uses-Behind.{sources, other_found, was_at}
use Rattle.wit_item_names.specs.Plain.{AreUnderPlainNames, ArePlainIncludes}
use Rattle.wit_item_names.specs.Placed.{PlacedWorldsArePlain}
use Rattle.wit_item_names.proofs.Entries.{text_of_item}
use Rattle.wit_item_names.proofs.Included.{type_ids}
use Rattle.wit_item_names.proofs.Sides.{Entry}

-- ---- entries

key_was : (f : ℕ → ℕ) (k : WorldKey) (x : String Global) → moved_key f k ≡ key.Name x → k ≡ key.Name x
key_was f (key.Name y) x e = e
key_was f (key.Interface i) x e = absurd cc

module _ (features : FeatureSet) (places interfaces : Places) where
  -- what stands under a name stood there
  record WasUnder (old : List Entry) (k : WorldKey) (w : WorldItem) : Type 0 where
    was : WorldItem
    has : Has old (k, was)
    stays : item_stays features places was ≡ true
    moved : IsMovedItem (to places) (to interfaces) was w

  kept_was : (old kept : List Entry) → AreMovedItems features places interfaces old kept → (e : Entry) → Has kept e → WasUnder old e.0 e.1
  kept_was _ _ no_entries e h = absurd h
  kept_was _ _ (one_goes k v es fs st rest) e h = (let r = kept_was es fs rest e h in record { was = r.was; has = inr r.has; stays = r.stays; moved = r.moved })
  kept_was _ _ (one_stays k v w es fs st m rest) e (inl here) = record { was = v; has = inl (ap (λ (x : Entry). (x.0, v)) here); stays = st; moved = subst (λ (x : Entry). IsMovedItem (to places) (to interfaces) v x.1) (sym here) m }
  kept_was _ _ (one_stays k v w es fs st m rest) e (inr later) = (let r = kept_was es fs rest e later in record { was = r.was; has = inr r.has; stays = r.stays; moved = r.moved })

  side_was : (old new : List Entry) → IsMovedSide features places interfaces old new → (x : String Global) (w : WorldItem) → Has new (key.Name x, w) → WasUnder old (key.Name x) w
  side_was old new moved x w h =
      let e = has_mapped (moved_entry (to interfaces)) moved.0 (key.Name x, w) (subst (λ (es : List Entry). Has es (key.Name x, w)) moved.2 h) in
      let r = kept_was old moved.0 moved.1 e.0 e.1 in
      let k : e.0.0 ≡ key.Name x = key_was (to interfaces) e.0.0 x (ap (λ (y : Entry). y.0) e.2) in
      subst (λ (l : WorldKey). WasUnder old l w) k (subst (WasUnder old e.0.0) (ap (λ (y : Entry). y.1) e.2) r)

function_was : (f g : ℕ → ℕ) (v w : WorldItem) → IsMovedItem f g v w → (h : Function) → w ≡ item.Function h → (k : Function) × (v ≡ item.Function k) × (string_bytes h.name ≡ string_bytes k.name)
function_was f g _ _ (moved_interface id stability span) h e = absurd cc
function_was f g _ _ (moved_function k l m) h e = (k, refl, sym (ap text_of_item e) ∙ ap string_bytes m.name)
function_was f g _ _ (moved_type id span) h e = absurd cc

abbrev id_or : ℕ → WorldItem → ℕ
id_or d (item.TypeItem id span) = id
id_or d (item.Interface id stability span) = d
id_or d (item.Function f) = d

type_was : (f g : ℕ → ℕ) (v w : WorldItem) → IsMovedItem f g v w → (id : ℕ) (span : Span) → w ≡ item.TypeItem id span → (i : ℕ) × (at : Span) × (v ≡ item.TypeItem i at) × (f i ≡ id)
type_was f g _ _ (moved_interface i stability at) id span e = absurd cc
type_was f g _ _ (moved_function k l m) id span e = absurd cc
type_was f g _ _ (moved_type i at) id span e = (i, at, refl, ap (id_or id) e)

-- ---- includes

include_was : (features : FeatureSet) (worlds : Places) (n m : WorldInclude) → Has (moved_include features worlds n) m → m.names ≡ n.names
include_was features worlds n m h = by (gate_stays features n.stability) h
  where
    by : (b : Bool) → Has (if b then record n { id = to worlds n.id } ∷ [] else []) m → m.names ≡ n.names
    by true (inl here) = ap (λ (x : WorldInclude). x.names) here
    by true (inr none) = absurd none
    by false none = absurd none

includes_plain : (features : FeatureSet) (worlds : Places) (old new : List WorldInclude) → new ≡ flat_map (moved_include features worlds) old → ArePlainIncludes old → ArePlainIncludes new
includes_plain features worlds old new same plain m h =
    let r = finding.flat_has (moved_include features worlds) old m (subst (λ (ns : List WorldInclude). Has ns m) same h) in
    let names = include_was features worlds r.0 m r.2 in
    λ n has. plain r.0 r.1 n (subst (λ (x : List IncludeName). Has x n) (ap (λ x. x.items) names) has)

-- ---- worlds

module _ (features : FeatureSet) (owners : OwnerPlaces) (s : Standing) (owner : ℕ) (foreign own graph fs : List TypeDef) (others : Places) (own_interfaces new_interfaces interfaces : List Interface) (others_interfaces : Places)
    (b : AreBehind features owners s owner foreign own graph fs others own_interfaces new_interfaces others_interfaces (length interfaces)) (others_are : others ≡ map (type_found interfaces others_interfaces) foreign) (hold : HoldTheirTypes 0 graph interfaces)
    (v : ℕ) (world : World) (m : MovedWorld) (moved : IsMovedWorld features s world m) (takes : TakesByUse (foreign ++ own) (belongs.World v) (Has (type_items world.imports.entries)) (IsOfItem world))
    (was : AreUnderPlainNames (foreign ++ own) world.imports.entries)
  where
    not_other : (o : TypeOwner) (i : ℕ) → o ≡ belongs.Interface i → IsOwn (belongs.World v) o → ⊥
    not_other o i of (inl none) = (let e : belongs.Interface i ≡ belongs.None = sym of ∙ none in absurd cc)
    not_other o i of (inr same) = (let e : belongs.Interface i ≡ belongs.World v = sym of ∙ same in absurd cc)

    type_named : (x : String Global) (id : ℕ) (at : Span) (j : ℕ) → Has world.imports.entries (key.Name x, item.TypeItem id at) → place_of s.types id ≡ Some j → IsNameOf (graph ++ fs) j (string_bytes x)
    type_named x id at j has goes =
        let t = was.types_are x id at has in
        let starts : IsOfItem world id = inl (type_ids world.imports.entries id (flat_has item_type (map (λ (e : Entry). e.1) world.imports.entries) (item.TypeItem id at) id (mapped_has (λ (e : Entry). e.1) world.imports.entries (key.Name x, item.TypeItem id at) has) (inl refl))) in
        elim ((sources features owners s owner foreign own graph fs others own_interfaces new_interfaces interfaces others_interfaces b others_are hold).sources id j goes) as (λ _. IsNameOf (graph ++ fs) j (string_bytes x)) [
          | inl o ↦
              let f = other_found features owners s owner foreign own graph fs others own_interfaces new_interfaces interfaces others_interfaces b others_are hold id j o in
              absurd (not_other f.0.owner f.2.interface f.2.owner_is (takes.starts id f.0 starts (get_kept foreign own id f.0 f.1)))
          | inr f ↦
              let same : f.old ≡ t.0 = same_Some f.old t.0 (sym (was_at features owners s owner foreign own graph fs others own_interfaces new_interfaces interfaces others_interfaces b others_are hold id j f) ∙ t.2) in
              (f.new, t.1, f.is, f.moved.name ∙ ap (λ (d : TypeDef). d.name) same ∙ t.3, t.4)
        ]

    pub world_plain : AreUnderPlainNames (graph ++ fs) m.imports.items
    world_plain = record {
      plain = λ x a has. (let r = side_was features s.types s.interfaces world.imports.entries m.imports.items moved.imports x a has in was.plain x r.was r.has);
      functions = λ x f has.
          (let r = side_was features s.types s.interfaces world.imports.entries m.imports.items moved.imports x (item.Function f) has in
          let g = function_was (to s.types) (to s.interfaces) r.was (item.Function f) r.moved f refl in
          g.2 ∙ was.functions x g.0 (subst (λ (i : WorldItem). Has world.imports.entries (key.Name x, i)) g.1 r.has));
      types_are = λ x id span has.
          (let r = side_was features s.types s.interfaces world.imports.entries m.imports.items moved.imports x (item.TypeItem id span) has in
          let g = type_was (to s.types) (to s.interfaces) r.was (item.TypeItem id span) r.moved id span refl in
          let placed : is_placed s.types g.0 ≡ true = sym (ap (item_stays features s.types) g.2) ∙ r.stays in
          type_named x g.0 g.1 id (subst (λ (i : WorldItem). Has world.imports.entries (key.Name x, i)) g.2 r.has) (goes_to s.types g.0 id placed g.3));
    }

pub placed_plain : PlacedWorldsArePlain
placed_plain features owners s owner foreign own graph fs others own_interfaces new_interfaces interfaces others_interfaces b others_are hold others_worlds own_worlds ms moved takes plain renames m h =
    let at = has_at ms m h in
    let a = worlds_take_places_alone features s [] 0 own_worlds ms (λ i j x. absurd cc) moved at.0 m at.1 in
    let has = has_get own_worlds a.place a.old a.was in
    record {
      imports = world_plain features owners s owner foreign own graph fs others own_interfaces new_interfaces interfaces others_interfaces b others_are hold (others_worlds + a.place) a.old m a.moved (takes a.place a.old a.was) (plain a.old has);
      renames = includes_plain features s.worlds a.old.includes.items m.includes.items a.moved.includes (renames a.old has);
    }
