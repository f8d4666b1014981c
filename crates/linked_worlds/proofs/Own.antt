-- Types of a world that its functions are made of are listed by it.
use Rattle.std.proofs.Common.{◌≡◌, ℕ, List, ◌++◌, ◌⊎◌, inl, inr, Some, String, refl, sym, subst, ap, ◌∙◌}
use Rattle.std.proofs.lemmas.Option.{same_Some}
use Rattle.std.specs.Prelude.{slice_get, string_bytes}
use Rattle.std.specs.declared.alloc.Global.{Global}
use Rattle.wasm_types.specs.Entries.{ImportValue}
use Rattle.wit_order.specs.Order.{Has}
use Rattle.wit_words.specs.declared.source_map.Span.{Span}
use Rattle.wit_types.specs.declared.function.Function.{Function}
use Rattle.wit_types.specs.declared.interface.TypeDef.{TypeDef}
use Rattle.wit_types.specs.declared.interface.TypeOwner.{TypeOwner}
use Rattle.wit_types.specs.declared.interface.TypeOwner.TheVariants as belongs
use Rattle.wit_types.specs.declared.world.WorldItem.{WorldItem}
use Rattle.wit_types.specs.declared.world.WorldItem.TheVariants as item
use Rattle.wit_types.specs.declared.world_key.WorldKey.{WorldKey}
use Rattle.wit_types.specs.declared.world_key.WorldKey.TheVariants as key
use Rattle.wit_reach.specs.Deps.{AreUsed}
use Rattle.wit_reach.specs.Ids.{function_ids}
use Rattle.wit_reach.specs.Lists.{type_items}
use Rattle.wit_reach.specs.Made.{IsMadeOfWithin}
use Rattle.wit_reach.specs.Paths.{AreEnds}
use Rattle.wit_reach.specs.Types.{IsOfItem}
use Rattle.wit_reach.proofs.Holding.{has_flat, flat_has}
use Rattle.wit_reach.proofs.Lists.{has_parts}
use Rattle.wit_core_names.specs.Texts.{IsNameOf}
use Rattle.right_components.specs.Passed.core_links-Names.{Names}
use Rattle.right_components.specs.Passed.core_links-Needed.{AreOwnNeeded}
use Rattle.right_components.specs.Passed.link_table-Linking.{exported_functions}
use Rattle.linked_types.specs.Reached.{ids_of}
use Rattle.linked_interfaces.proofs.Writable.{among_first, among_second}
use Rattle.wit_item_names.specs.Passed.wit_uses-Uses.{IsTaken}
use Rattle.wit_graph.specs.Graph.{AreWhole}
use Rattle.wit_graph.specs.declared.tables.Tables.{Tables}
use Rattle.linked_worlds.specs.Importable.{own_and_exported}
use Rattle.linked_worlds.specs.Linked.{AreNamesOf}
use Rattle.linked_worlds.specs.Named.{AreItemsNamed}
use Rattle.linked_worlds.specs.Ready.{IsImportedType, OwnTypesAreListed}
use Rattle.linked_worlds.proofs.Asked as from
use Rattle.linked_worlds.proofs.Naming.{plainly_named}

-- the world imports the type under that name
pub record IsEntry (es : List (WorldKey × WorldItem)) (k : ℕ) (x : List ℕ) : Type 0 where
  pub name : String Global
  pub span : Span
  pub has : Has es (key.Name name, item.TypeItem k span)
  pub is : string_bytes name ≡ x

module _ (t : Tables) (i : ℕ) (n : Names) (imports : List ImportValue) (own : List Function) (whole : AreWhole t) (named : AreItemsNamed t) (are : AreNamesOf t i n) (own_are : AreOwnNeeded n imports own) where
  abbrev starts : List ℕ
  starts = ids_of (exported_functions n.world) ++ ids_of own

  -- what it starts with is of these functions
  pub start_asked : (s : ℕ) → Has starts s → Has (ids_of (own_and_exported n own)) s
  start_asked s h = elim (has_parts (ids_of (exported_functions n.world)) (ids_of own) s h) as (λ _. Has (ids_of (own_and_exported n own)) s) [
    | inl a ↦ (let f = has_flat function_ids (exported_functions n.world) s a in flat_has function_ids (own_and_exported n own) f.0 s (among_second own (exported_functions n.world) f.0 f.1) f.2)
    | inr b ↦ (let f = has_flat function_ids own s b in flat_has function_ids (own_and_exported n own) f.0 s (among_first own (exported_functions n.world) f.0 f.1) f.2)
  ]

  start_listed : (s : ℕ) → Has starts s → IsOfItem (from.listed t i n whole are) s
  start_listed s h = from.item_listed t i n whole are s (from.other_of_item t i n whole are imports own own_are s (start_asked s h))

  module _ (ids : List ℕ) (ends : AreEnds (IsMadeOfWithin (belongs.World i) t.types) (Has starts) ids) where
    -- they are the world's, belong nowhere, or are of interfaces of which it uses types
    pub taken_by : (k : ℕ) (d : TypeDef) → Has ids k → slice_get t.types k ≡ Some d → IsTaken (belongs.World i) (AreUsed t.types (type_items (from.listed t i n whole are).imports.entries)) d.owner
    taken_by k d h at = (let s = ends.only k h in from.world_sees t i n whole are named.taken s.0 k d (start_listed s.0 s.1) s.2 at)

    -- one with a name that isn't an interface's is the world's
    pub world_owner : (k : ℕ) (d : TypeDef) (x : String Global) → Has ids k → slice_get t.types k ≡ Some d → d.name ≡ Some x → ((j : ℕ) × (d.owner ≡ belongs.Interface j)) ⊎ (d.owner ≡ belongs.World i)
    world_owner k d x h at called = of_owner d.owner refl (taken_by k d h at)
      where
        of_owner : (o : TypeOwner) → d.owner ≡ o → IsTaken (belongs.World i) (AreUsed t.types (type_items (from.listed t i n whole are).imports.entries)) o → ((j : ℕ) × (d.owner ≡ belongs.Interface j)) ⊎ (d.owner ≡ belongs.World i)
        of_owner belongs.None its u = absurd (whole.whole.holds.named k d x at called its)
        of_owner (belongs.Interface j) its u = inl (j, its)
        of_owner (belongs.World v) its u = inr (its ∙ u)

    -- which imports it under its name
    pub type_entry : (k : ℕ) (d : TypeDef) (x : String Global) → Has ids k → slice_get t.types k ≡ Some d → d.name ≡ Some x → d.owner ≡ belongs.World i → IsEntry n.world.imports.entries k (string_bytes x)
    type_entry k d x h at called its =
        let s = ends.only k h in
        let lists = from.listed t i n whole are in
        let has : Has (type_items lists.imports.entries) k = (named.taken.worlds_take i lists (from.listed_at t i n whole are)).lists s.0 k d (start_listed s.0 s.1) s.2 at its in
        let e = from.type_imported t i n whole are k has in
        let is : IsNameOf t.types k (string_bytes e.0) = (plainly_named t i n whole are named).types_are e.0 k e.1 e.2 in
        let same : is.0 ≡ d = same_Some is.0 d (sym is.2 ∙ at) in
        let one : is.1 ≡ x = same_Some is.1 x (sym is.3 ∙ ap (λ (z : TypeDef). z.name) same ∙ called) in
        record { name = e.0; span = e.1; has = e.2; is = is.4 ∙ ap (λ (z : String Global). string_bytes z) one }

pub own_listed : OwnTypesAreListed
own_listed t i n imports own ids whole named are own_are seen id d x has at called =
    let ends : AreEnds (IsMadeOfWithin (belongs.World i) t.types) (Has (ids_of (exported_functions n.world) ++ ids_of own)) ids =
    subst (λ (ds : List TypeDef). AreEnds (IsMadeOfWithin (belongs.World i) ds) (Has (ids_of (exported_functions n.world) ++ ids_of own)) ids) are.types_are seen in
    let there : slice_get t.types id ≡ Some d = subst (λ (ds : List TypeDef). slice_get ds id ≡ Some d) are.types_are at in
    elim (world_owner t i n imports own whole named are own_are ids ends id d x has there called) as (λ _. ((j : ℕ) × (d.owner ≡ belongs.Interface j)) ⊎ IsImportedType i n id (string_bytes x)) [
      | inl of ↦ inl of
      | inr its ↦
          let e = type_entry t i n imports own whole named are own_are ids ends id d x has there called its in
          inr (record { type_def = d; there = at; its = its; key = key.Name e.name; span = e.span; has = e.has; is = (d, x, at, called, refl) })
    ]
