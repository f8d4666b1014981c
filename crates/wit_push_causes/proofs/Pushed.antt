-- A package that a graph takes has no cause to be refused by a graph that says the same, and both say the same with it.
use Rattle.std.proofs.Common.{◌≡◌, ℕ, Bool, true, false, List, [], ◌∷◌, String, refl, sym, ap, ap₂, subst, ◌∙◌, map, length}
use Rattle.std.specs.Map.{lookup}
use Rattle.std.specs.Prelude.{is_some}
use Rattle.std.specs.declared.alloc.Global.{Global}
use Rattle.indexmap.specs.IndexMap.{insert_entry}
use Rattle.wit_words.specs.declared.source_map.Span.{Span}
use Rattle.wit_types.specs.declared.«package».PackageName.{PackageName}
use Rattle.wit_types.specs.declared.«package».UnresolvedPackage.{UnresolvedPackage}
use Rattle.wit_types.specs.declared.interface.TypeDef.{TypeDef}
use Rattle.wit_features.specs.Features.{FeatureSet, breaks_gate}
use Rattle.wit_moves.specs.Moved.{Places}
use Rattle.wit_moves.specs.Plan.{OwnerPlaces}
use Rattle.wit_finding.specs.Foreign.{AreForeignPlaces, ItemsBreak}
use Rattle.wit_finding.specs.Packages.{PackagesBreak}
use Rattle.wit_plans.specs.Plans.{Parts, standing, IsPlanned, PlanBreaks}
use Rattle.wit_plans.specs.declared.plans.Sizes.{Sizes}
use Rattle.wit_groups.specs.Passed.wit_graph_worlds-declared-worlds-WorldFault.{WorldFault}
use Rattle.wit_groups.specs.Passed.wit_graph_worlds-declared-worlds-WorldFault-TheVariants as world
use Rattle.wit_groups.specs.Passed.wit_graph_parts-Own.{own_parts}
use Rattle.wit_groups.specs.Passed.wit_graph_parts-Parts.{AreTypesAdded}
use Rattle.wit_groups.specs.Passed.wit_graph_parts-declared-fault-PushFault.{PushFault}
use Rattle.wit_groups.specs.Passed.wit_graph_parts-declared-fault-PushFault-TheVariants.{GateVersion, DuplicatePackage, PackageNotFound, ItemNotFound, IncludeClash, ExportConflict, ForeignShape, OutOfMemory}
use Rattle.wit_groups.specs.Passed.wit_graph-Graph.{Graph, Items, items_of, sizes}
use Rattle.wit_groups.specs.Passed.wit_graph-Push.{ArePartsAdded, ShapesBreak, of_types, of_interfaces, of_worlds, WorldsRefuse, ArePlaces, IsPushed, ItemsMissing, not_found, left_out, not_included, IsPushCause}
use Rattle.wit_push_causes.specs.Asked.{AsksForOne}
use Rattle.wit_push_causes.specs.Graphs.{IsSameGraph}
use Rattle.wit_push_causes.specs.Said.{SaidPackage, names_said, package_said, type_said, interface_said, world_said}
use Rattle.wit_push_causes.proofs.Lists.{same_size, same_append}
use Rattle.wit_push_causes.proofs.Names.{no_package_breaks}
use Rattle.wit_push_causes.proofs.Places.{foreign_one, no_items_break}
use Rattle.wit_push_causes.proofs.Plan.{plan_one, no_plan_breaks}
use Rattle.wit_push_causes.proofs.Others.{foreign_other, items_break_other, planned_other, plan_breaks_other}
use Rattle.wit_push_causes.proofs.Rows.{own_rows}
use Rattle.wit_push_causes.proofs.Shapes.{natures_same}
use Rattle.wit_push_causes.proofs.Parts as parts
use Rattle.wit_push_causes.proofs.Parts.{types_same, no_types_break, interfaces_alike, no_interfaces_break, worlds_alike, no_worlds_break, no_worlds_refused}

-- ---- what it holds

record AreAlike (t u : Items) : Type 0 where
  types : map type_said t.types ≡ map type_said u.types
  interfaces : parts.AreAlike t.interfaces u.interfaces
  listed : map world_said t.worlds.listed ≡ map world_said u.worlds.listed
  elaborated : map world_said t.worlds.elaborated ≡ map world_said u.worlds.elaborated

module _ (features : FeatureSet) (owner : ℕ) (owners : OwnerPlaces) (places : Places) (p : Parts) (old other : Items) (alike : AreAlike old other) (new : Items) (names more : List (String Global × ℕ)) (a : ArePartsAdded features owner owners places p old new names more) where
  same_types : (types : List TypeDef) → AreTypesAdded owners places (length p.unknown) p.types other.types types → map type_said a.types ≡ map type_said types
  same_types types b = types_same owners places (length p.unknown) p.types old.types other.types alike.types a.types types a.own_types b

  no_shapes_break : (at : Span) → ShapesBreak features owner owners places p other at → ⊥
  no_shapes_break at (of_types b) = no_types_break owners places (length p.unknown) p.types old.types other.types alike.types a.types at a.own_types b
  no_shapes_break at (of_interfaces types added b) =
      no_interfaces_break features (standing owners places) owner a.types types (same_types types added) p.interfaces old.interfaces new.interfaces names at a.own_interfaces b
  no_shapes_break at (of_worlds types added b) =
      no_worlds_break features (standing owners places) owner new.interfaces new.interfaces (record { all = refl; uses = own_rows new.interfaces.uses }) p.worlds a.types types (same_types types added) old.worlds other.worlds alike.listed alike.elaborated
      new.types new.worlds more a.own_worlds at b

  none_refuses : (fault : WorldFault) → WorldsRefuse features owner owners places p other fault → fault ≡ world.OutOfMemory
  none_refuses fault b =
      let types = same_types b.types b.own_types in
      let interfaces = (interfaces_alike features (standing owners places) owner a.types b.types types p.interfaces old.interfaces other.interfaces new.interfaces b.interfaces names b.names alike.interfaces a.own_interfaces b.own_interfaces).0 in
      no_worlds_refused features (standing owners places) owner new.interfaces b.interfaces interfaces p.worlds a.types b.types types old.worlds other.worlds alike.listed alike.elaborated new.types new.worlds more a.own_worlds fault b.refused

  -- and both hold the same with it
  record HoldTheSame (also : Items) (names2 more2 : List (String Global × ℕ)) : Type 0 where
    items : AreAlike new also
    interface_names : names_said names ≡ names_said names2
    world_names : names_said more ≡ names_said more2

  held_same : (also : Items) (names2 more2 : List (String Global × ℕ)) → ArePartsAdded features owner owners places p other also names2 more2 → HoldTheSame also names2 more2
  held_same also names2 more2 b =
      let types = same_types b.types b.own_types in
      let interfaces = interfaces_alike features (standing owners places) owner a.types b.types types p.interfaces old.interfaces other.interfaces new.interfaces also.interfaces names names2 alike.interfaces a.own_interfaces b.own_interfaces in
      let worlds = worlds_alike features (standing owners places) owner new.interfaces also.interfaces interfaces.0 p.worlds a.types b.types types old.worlds other.worlds alike.listed alike.elaborated new.types also.types new.worlds also.worlds more more2 a.own_worlds b.own_worlds in
      record {
        items = record { types = worlds.0.types; interfaces = interfaces.0; listed = worlds.0.listed; elaborated = worlds.0.elaborated };
        interface_names = interfaces.1;
        world_names = worlds.1;
      }

-- ---- graphs

module _ (eq : PackageName → PackageName → Bool) (features : FeatureSet) (old other : Graph) (same : IsSameGraph old other) (p : UnresolvedPackage) (one : AsksForOne p) where
  items_alike : AreAlike (items_of old.tables) (items_of other.tables)
  items_alike = record { types = same.types; interfaces = record { all = same.interfaces; uses = same.uses }; listed = same.listed; elaborated = same.elaborated }

  sizes_same : sizes (items_of other.tables) ≡ sizes (items_of old.tables)
  sizes_same =
      rw (same_size type_said old.tables.types other.tables.types same.types, same_size interface_said old.tables.interfaces.all other.tables.interfaces.all same.interfaces, same_size world_said old.tables.worlds.listed other.tables.worlds.listed same.listed)
      refl

  so_many : length other.tables.packages ≡ length old.tables.packages
  so_many = sym (same_size package_said old.tables.packages other.tables.packages same.packages)

  found_here : (foreign : OwnerPlaces) → AreForeignPlaces eq features other.names other.tables.packages p foreign.interfaces foreign.worlds → AreForeignPlaces eq features old.names old.tables.packages p foreign.interfaces foreign.worlds
  found_here foreign b =
      foreign_other eq features old.names p other.tables.packages old.tables.packages (sym same.packages) foreign.interfaces foreign.worlds
      (subst (λ (ns : List (PackageName × ℕ)). AreForeignPlaces eq features ns other.tables.packages p foreign.interfaces foreign.worlds) same.names b)

  planned_here : (foreign owners : OwnerPlaces) (places : Places) → IsPlanned features other.tables.interfaces.all (sizes (items_of other.tables)) foreign (own_parts p) owners places
      → IsPlanned features old.tables.interfaces.all (sizes (items_of old.tables)) foreign (own_parts p) owners places
  planned_here foreign owners places b =
      planned_other other.tables.interfaces.all old.tables.interfaces.all (sym same.interfaces) features (sizes (items_of old.tables)) foreign (own_parts p) owners places
      (subst (λ (s : Sizes). IsPlanned features other.tables.interfaces.all s foreign (own_parts p) owners places) sizes_same b)

  module _ (foreign owners : OwnerPlaces) (places : Places) (a : ArePlaces eq features old p foreign owners places) where
    foreign_same : (elsewhere : OwnerPlaces) → AreForeignPlaces eq features other.names other.tables.packages p elsewhere.interfaces elsewhere.worlds → foreign ≡ elsewhere
    foreign_same elsewhere b =
        let e = foreign_one eq features old.names old.tables.packages p one foreign.interfaces foreign.worlds elsewhere.interfaces elsewhere.worlds a.found (found_here elsewhere b) in
        ap₂ (λ (x y : Places). record { interfaces = x; worlds = y }) e.0 e.1

    places_same : (elsewhere owners2 : OwnerPlaces) (places2 : Places) → ArePlaces eq features other p elsewhere owners2 places2 → (owners ≡ owners2) × (places ≡ places2)
    places_same elsewhere owners2 places2 b =
        plan_one features old.tables.interfaces.all (sizes (items_of old.tables)) foreign (own_parts p) owners owners2 places places2 a.planned
        (subst (λ (f : OwnerPlaces). IsPlanned features old.tables.interfaces.all (sizes (items_of old.tables)) f (own_parts p) owners2 places2) (sym (foreign_same elsewhere b.found)) (planned_here elsewhere owners2 places2 b.planned))

    none_left_out : (elsewhere : OwnerPlaces) (at : Span) → AreForeignPlaces eq features other.names other.tables.packages p elsewhere.interfaces elsewhere.worlds
        → PlanBreaks features other.tables.interfaces.all (sizes (items_of other.tables)) elsewhere (own_parts p) at → ⊥
    none_left_out elsewhere at found b =
        no_plan_breaks features old.tables.interfaces.all (sizes (items_of old.tables)) foreign (own_parts p) owners places at a.planned
        (plan_breaks_other other.tables.interfaces.all old.tables.interfaces.all (sym same.interfaces) features (sizes (items_of old.tables)) foreign (own_parts p) at
        (subst (λ (f : OwnerPlaces). PlanBreaks features other.tables.interfaces.all (sizes (items_of old.tables)) f (own_parts p) at) (sym (foreign_same elsewhere found))
        (subst (λ (s : Sizes). PlanBreaks features other.tables.interfaces.all s elsewhere (own_parts p) at) sizes_same b)))

  -- ---- refused

  module _ (new : Graph) (id : ℕ) (h : IsPushed eq features old p new id) where
    refuse_here : (elsewhere owners2 : OwnerPlaces) (places2 : Places) (fault : WorldFault) → ArePlaces eq features other p elsewhere owners2 places2
        → WorldsRefuse features (length other.tables.packages) owners2 places2 (own_parts p) (items_of other.tables) fault → fault ≡ world.OutOfMemory
    refuse_here elsewhere owners2 places2 fault are b =
        let e = places_same h.foreign h.owners h.places h.are_places elsewhere owners2 places2 are in
        let added = h.put.added in
        none_refuses features (length old.tables.packages) h.owners h.places (own_parts p) (items_of old.tables) (items_of other.tables) items_alike (items_of new.tables) added.interface_names added.world_names added.parts fault
        (subst (λ (n : ℕ). WorldsRefuse features n h.owners h.places (own_parts p) (items_of other.tables) fault) so_many
        (subst (λ (o : OwnerPlaces). WorldsRefuse features (length other.tables.packages) o h.places (own_parts p) (items_of other.tables) fault) (sym e.0)
        (subst (λ (l : Places). WorldsRefuse features (length other.tables.packages) owners2 l (own_parts p) (items_of other.tables) fault) (sym e.1) b)))

    break_here : (elsewhere owners2 : OwnerPlaces) (places2 : Places) (at : Span) → ArePlaces eq features other p elsewhere owners2 places2
        → ShapesBreak features (length other.tables.packages) owners2 places2 (own_parts p) (items_of other.tables) at → ⊥
    break_here elsewhere owners2 places2 at are b =
        let e = places_same h.foreign h.owners h.places h.are_places elsewhere owners2 places2 are in
        let added = h.put.added in
        no_shapes_break features (length old.tables.packages) h.owners h.places (own_parts p) (items_of old.tables) (items_of other.tables) items_alike (items_of new.tables) added.interface_names added.world_names added.parts at
        (subst (λ (n : ℕ). ShapesBreak features n h.owners h.places (own_parts p) (items_of other.tables) at) so_many
        (subst (λ (o : OwnerPlaces). ShapesBreak features (length other.tables.packages) o h.places (own_parts p) (items_of other.tables) at) (sym e.0)
        (subst (λ (l : Places). ShapesBreak features (length other.tables.packages) owners2 l (own_parts p) (items_of other.tables) at) (sym e.1) b)))

    late : (at : Span) → IsPushCause eq features other p (GateVersion at) → ⊥
    late at (s, gate, above) = let on_time : breaks_gate p.name.version s ≡ false = h.on_time s at gate in absurd cc

    there_already : (at : Span) → IsPushCause eq features other p (DuplicatePackage at) → ⊥
    there_already at (there, stands) =
        let fresh : is_some (lookup (eq p.name) old.names) ≡ false = h.fresh in
        let here : is_some (lookup (eq p.name) old.names) ≡ true = subst (λ (ns : List (PackageName × ℕ)). is_some (lookup (eq p.name) ns) ≡ true) same.names there in
        absurd cc

    unknown : (at : Span) → IsPushCause eq features other p (PackageNotFound at) → ⊥
    unknown at b =
        let found = h.are_places.found in
        no_package_breaks eq old.names p.foreign_deps.entries found.ids p.foreign_dep_spans.items at found.named
        (subst (λ (ns : List (PackageName × ℕ)). PackagesBreak eq ns p.foreign_deps.entries p.foreign_dep_spans.items at) same.names b)

    missing : (at : Span) → ItemsMissing eq features other p at → ⊥
    missing at (not_found b) =
        no_items_break eq features old.names old.tables.packages p h.foreign.interfaces h.foreign.worlds at h.are_places.found
        (items_break_other eq features old.names p other.tables.packages old.tables.packages (sym same.packages) at (subst (λ (ns : List (PackageName × ℕ)). ItemsBreak eq features ns other.tables.packages p at) same.names b))
    missing at (left_out elsewhere found b) = none_left_out h.foreign h.owners h.places h.are_places elsewhere at found b
    missing at (not_included elsewhere owners2 places2 are b) = let e : world.ItemNotFound at ≡ world.OutOfMemory = refuse_here elsewhere owners2 places2 (world.ItemNotFound at) are b in absurd cc

    pub no_cause : (fault : PushFault) → IsPushCause eq features other p fault → fault ≡ OutOfMemory
    no_cause (GateVersion at) b = absurd (late at b)
    no_cause (DuplicatePackage at) b = absurd (there_already at b)
    no_cause (PackageNotFound at) b = absurd (unknown at b)
    no_cause (ItemNotFound at) b = absurd (missing at b)
    no_cause (IncludeClash at) b = let e : world.IncludeClash at ≡ world.OutOfMemory = refuse_here b.foreign b.owners b.places (world.IncludeClash at) b.are_places b.refused in absurd cc
    no_cause (ExportConflict i at) b = let e : world.ExportConflict i at ≡ world.OutOfMemory = refuse_here b.foreign b.owners b.places (world.ExportConflict i at) b.are_places b.refused in absurd cc
    no_cause (ForeignShape at) b = absurd (break_here b.foreign b.owners b.places at b.are_places b.breaks)
    no_cause OutOfMemory b = refl

    -- ---- and both say the same

    module _ (also : Graph) (at : ℕ) (k : IsPushed eq features other p also at) where
      pub ids_same : at ≡ id
      ids_same = k.put.id_is ∙ so_many ∙ sym h.put.id_is

      names_same : also.names ≡ new.names
      names_same = k.put.names_are ∙ ap₂ (λ (ns : List (PackageName × ℕ)) (i : ℕ). insert_entry eq ns p.name i) same.names ids_same ∙ sym h.put.names_are

      added_here : HoldTheSame features (length old.tables.packages) h.owners h.places (own_parts p) (items_of old.tables) (items_of other.tables) items_alike (items_of new.tables) h.put.added.interface_names h.put.added.world_names h.put.added.parts (items_of also.tables) k.put.added.interface_names k.put.added.world_names
      added_here =
          let e = places_same h.foreign h.owners h.places h.are_places k.foreign k.owners k.places k.are_places in
          let b = k.put.added in
          held_same features (length old.tables.packages) h.owners h.places (own_parts p) (items_of old.tables) (items_of other.tables) items_alike (items_of new.tables) h.put.added.interface_names h.put.added.world_names h.put.added.parts
          (items_of also.tables) b.interface_names b.world_names
          (subst (λ (n : ℕ). ArePartsAdded features n h.owners h.places (own_parts p) (items_of other.tables) (items_of also.tables) b.interface_names b.world_names) so_many
          (subst (λ (o : OwnerPlaces). ArePartsAdded features (length other.tables.packages) o h.places (own_parts p) (items_of other.tables) (items_of also.tables) b.interface_names b.world_names) (sym e.0)
          (subst (λ (l : Places). ArePartsAdded features (length other.tables.packages) k.owners l (own_parts p) (items_of other.tables) (items_of also.tables) b.interface_names b.world_names) (sym e.1) b.parts)))

      package_same : package_said h.put.added.q ≡ package_said k.put.added.q
      package_same =
          let x = h.put.added.is_package in
          let y = k.put.added.is_package in
          let interfaces : names_said h.put.added.q.interfaces.entries ≡ names_said k.put.added.q.interfaces.entries = ap names_said x.interfaces_are ∙ added_here.interface_names ∙ sym (ap names_said y.interfaces_are) in
          let worlds : names_said h.put.added.q.worlds.entries ≡ names_said k.put.added.q.worlds.entries = ap names_said x.worlds_are ∙ added_here.world_names ∙ sym (ap names_said y.worlds_are) in
          let m = h.put.is_same in
          let n = k.put.is_same in
          rw (x.name_is, y.name_is, m.namespace_is, m.name_is, m.version_is, n.namespace_is, n.name_is, n.version_is, x.docs_are, y.docs_are, interfaces, worlds) refl

      pub graphs_same : IsSameGraph new also
      graphs_same =
          let items = added_here.items in
          record {
            names = names_same;
            packages = ap (map package_said) h.put.added.packages_are
                ∙ same_append package_said old.tables.packages (h.put.added.q ∷ []) other.tables.packages (k.put.added.q ∷ []) same.packages (ap (λ (s : SaidPackage). s ∷ []) package_same)
                ∙ sym (ap (map package_said) k.put.added.packages_are);
            types = items.types;
            natures = k.put.added.parts.natures_are ∙ natures_same also.tables.types new.tables.types (sym items.types) ∙ sym h.put.added.parts.natures_are;
            interfaces = items.interfaces.all;
            uses = items.interfaces.uses;
            listed = items.listed;
            elaborated = items.elaborated;
          }
