-- Labels of types and names of parameters differ in what is linked of a world.
use Rattle.std.proofs.Common.{◌≡◌, ℕ, ◌<◌, List, [], ◌∷◌, length, refl, sym, subst, ap, ◌∙◌, arith}
use Rattle.std.proofs.lemmas.Option.{slice_get_within}
use Rattle.std.specs.List.{AllByRecursion as Each}
use Rattle.distinct_names.specs.Names.{all_new}
use Rattle.wit_types.specs.declared.function.Function.{Function}
use Rattle.wit_types.specs.declared.interface.Interface.{Interface}
use Rattle.wit_types.specs.declared.interface.TypeDef.{TypeDef}
use Rattle.wit_types.specs.declared.kind.TypeDefKind.{TypeDefKind}
use Rattle.wit_types.specs.declared.kind.TypeDefKind.TheVariants as kind
use Rattle.wit_types.specs.declared.world.WorldItem.{WorldItem}
use Rattle.wit_types.specs.declared.world.WorldItem.TheVariants as item
use Rattle.wit_types.specs.declared.world_key.WorldKey.{WorldKey}
use Rattle.wit_reach.proofs.Holding.{got}
use Rattle.wit_labelled_graphs.specs.Passed.wit_labels-Labels as labels
use Rattle.wit_labelled_graphs.specs.Passed.wit_labels-Labels.{IsSideApart, IsInterfaceApart, IsWorldApart}
use Rattle.wit_labelled_graphs.proofs.Passed.wit_labels-Every.{each_at, each_of}
use Rattle.linked_worlds.specs.Passed.wit_graph-declared-tables-Tables.{Tables}
use Rattle.wit_labelled_graphs.specs.Labelled.{IsLabelled}
use Rattle.type_writing.specs.Placing as writing
use Rattle.linked_imports.specs.Passed.component_imports-Functions.{HaveParametersApart}
use Rattle.core_links.specs.Needed.{IsPartOf, empty, with_it, without, own_functions, functions_of}
use Rattle.linked_imports.specs.Passed.link_table-Linking.{Linking, functions_at}
use Rattle.linked_imports.specs.Imports.{AreNeeded, ArePartsApart}
use Rattle.linked_worlds.specs.Linked.{AreNamesOf}
use Rattle.labelled_worlds.specs.Apart.{WorldsHavePartsApart}

-- ---- types

same_labels : (k : TypeDefKind) → writing.labels_of k ≡ labels.labels_of k
same_labels (kind.Record r) = refl
same_labels kind.Resource = refl
same_labels (kind.Handle h) = refl
same_labels (kind.Flags x) = refl
same_labels (kind.Tuple t) = refl
same_labels (kind.Variant v) = refl
same_labels (kind.Enum e) = refl
same_labels (kind.Option r) = refl
same_labels (kind.Result r) = refl
same_labels (kind.List r) = refl
same_labels (kind.FixedLengthList r n) = refl
same_labels (kind.Future p) = refl
same_labels (kind.Stream p) = refl
same_labels (kind.Alias r) = refl
same_labels kind.Unknown = refl

types_apart : (types : List TypeDef) → labels.AreLabelsApart types → writing.AreLabelsApart types
types_apart [] h = tt
types_apart (d ∷ types) h = (ap (all_new []) (same_labels d.kind) ∙ h.0, types_apart types h.1)

-- ---- functions

part_each : (P : Function → Type 0) (xs ys : List Function) → IsPartOf xs ys → Each P ys → Each P xs
part_each P _ _ empty h = tt
part_each P _ _ (with_it x xs ys p) h = (h.0, part_each P xs ys p h.1)
part_each P _ _ (without y xs ys p) h = part_each P xs ys p h.1

own_apart : (es : List (WorldKey × WorldItem)) → IsSideApart es → HaveParametersApart (own_functions es)
own_apart [] h = tt
own_apart ((k, item.Interface id stability span) ∷ es) h = own_apart es h.1
own_apart ((k, item.Function f) ∷ es) h = (h.0, own_apart es h.1)
own_apart ((k, item.TypeItem id span) ∷ es) h = own_apart es h.1

exported_apart : (es : List (WorldKey × WorldItem)) → IsSideApart es → HaveParametersApart (functions_at es)
exported_apart [] h = tt
exported_apart ((k, item.Interface id stability span) ∷ es) h = exported_apart es h.1
exported_apart ((k, item.Function f) ∷ es) h = (h.0, exported_apart es h.1)
exported_apart ((k, item.TypeItem id span) ∷ es) h = exported_apart es h.1

module _ (t : Tables) (i : ℕ) (l : Linking) (is : IsLabelled t) (names : AreNamesOf t i l.names) where
  world : IsWorldApart l.names.world
  world = each_at IsWorldApart t.worlds.elaborated is.elaborated.worlds_apart i l.names.world names.world_is

  interfaces : Each IsInterfaceApart l.names.known.interfaces
  interfaces = subst (λ (ds : List Interface). Each IsInterfaceApart ds) (sym names.interfaces_are) is.elaborated.interfaces_apart

  linked_apart : (linked : List (List Function)) (own : List Function) → AreNeeded l own linked → Each HaveParametersApart linked
  linked_apart linked own needed =
      each_of HaveParametersApart linked
      (λ j fs at.
      (let less : j < length linked = slice_get_within linked j fs at in
      let so_many = needed.linked_are.so_many in
      let d = got l.names.known.interfaces j (omega (arith, less, so_many)) in
      part_each (λ (f : Function). labels.HasParametersApart f) fs (functions_of d.0) (needed.linked_are.part j d.0 fs d.1 at) (each_at IsInterfaceApart l.names.known.interfaces interfaces j d.0 d.1)))

  parts_apart : ArePartsApart l
  parts_apart = record {
    types = subst writing.AreLabelsApart (sym names.types_are) (types_apart t.types is.elaborated.labels);
    needed = λ own linked needed. (
      part_each (λ (f : Function). labels.HasParametersApart f) own (own_functions l.names.world.imports.entries) needed.own_are.part (own_apart l.names.world.imports.entries world.imports),
      linked_apart linked own needed,
    );
    exported = exported_apart l.names.world.exports.entries world.exports;
  }

pub worlds_parts_apart : WorldsHavePartsApart
worlds_parts_apart t i l is names = parts_apart t i l is names
