-- Worlds of a graph are encodable.
use Rattle.std.proofs.Common.{◌≡◌, ℕ, List, [], ◌++◌, length, Some, sym, ap, subst, ◌∙◌, inl, inr}
use Rattle.std.specs.Prelude.{slice_get}
use Rattle.std.proofs.lemmas.List.Concat.{flat_map-append}
use Rattle.wit_order.specs.Order.{Has}
use Rattle.wit_order.proofs.Lists.{has_was}
use Rattle.wit_types.specs.declared.function.Function.{Function}
use Rattle.wit_types.specs.declared.interface.Interface.{Interface}
use Rattle.wit_types.specs.declared.interface.TypeDef.{TypeDef}
use Rattle.wit_types.specs.declared.world.WorldItem.TheVariants as item
use Rattle.wit_reach.specs.Ids.{function_ids}
use Rattle.wit_reach.specs.Lists.{AreOwnersThere}
use Rattle.wit_reach.specs.Paths.{AreEnds}
use Rattle.wit_reach.proofs.Lists.{has_append, has_parts}
use Rattle.component_imports.specs.Passed.type_sinks-Root.{InterfaceNames}
use Rattle.component_imports.specs.Passed.type_sinks-Views.{root_names, interface_names}
use Rattle.component_imports.specs.Passed.type_sinks-declared-root-Root.{Root}
use Rattle.component_imports.specs.Interfaces.{ids_of, AreNeededImported}
use Rattle.component_imports.specs.Order.{EarlierTypesAreApart}
use Rattle.component_imports.specs.Ready.{IsInterfaceAsked, AreWritable}
use Rattle.component_encoding.specs.Passed.link_table-Linking.{Linking, types_of, exported_functions}
use Rattle.component_encoding.specs.Passed.link_table-Table.{Table, IsTable}
use Rattle.linked_worlds.specs.Passed.right_components-Outside.{AreKeyTexts}
use Rattle.component_encoding.specs.Passed.linked_imports-Imports.{AreNeeded, own_types, AreListed, AreNamed, IsImportable}
use Rattle.wit_reach.specs.Holding.{AreTheirs, AreListed as AreTypesOfInterfacesListed, TypesUseEarlier}
use Rattle.linked_worlds.specs.Passed.wit_graph-Graph.{items_of, AreWhole, TypesOfItemsUseEarlier}
use Rattle.linked_worlds.specs.Passed.wit_graph-declared-tables-Tables.{Tables}
use Rattle.linked_worlds.specs.Asked.{AskedAreImported}
use Rattle.linked_worlds.specs.Importable.{IsEmptyRoot, own_and_exported, WorldsAreWritable}
use Rattle.linked_worlds.specs.Linked.{AreNamesOf, FunctionsAreThere}
use Rattle.linked_worlds.specs.Named.{AreItemsNamed, WorldsHaveTextsApart}
use Rattle.linked_worlds.specs.Ready.{OwnTypesAreListed, OwnAreImported, RememberedMayBeTaken}
use Rattle.encodable_worlds.specs.Encodable.{IsEncodable}
use Rattle.component_encoding.proofs.Lists.{get_has}
use Rattle.encodable_worlds.proofs.Linked.{needed_may_be_linked}

-- ---- ends of paths from the same starts

same_ends : (uses : ℕ → ℕ → Type 0) (xs ys ids : List ℕ) → AreEnds uses (Has (xs ++ ys)) ids → AreEnds uses (Has (ys ++ xs)) ids
same_ends uses xs ys ids h = record {
  all = λ i s start reaches. h.all i s (other_way ys xs s start) reaches;
  only = λ i has. (let of = h.only i has in (of.0, other_way xs ys of.0 of.1, of.2));
  rising = h.rising;
}
  where
    other_way : (front back : List ℕ) (s : ℕ) → Has (front ++ back) s → Has (back ++ front) s
    other_way front back s has = elim (has_parts front back s has) [
      | inl a ↦ has_append back front s a
      | inr b ↦ has_was back front s b
    ]

-- ---- all of it

module _ (t : Tables) (world : ℕ) (l : Linking) (names : InterfaceNames) (whole : AreWhole t) (named : AreItemsNamed t) (of : AreNamesOf t world l.names) (called : AreKeyTexts l.names names) (so_many : length names ≡ length l.names.known.interfaces) where
  -- in either order
  own_ids : (own : List Function) → ids_of (own_and_exported l.names own) ≡ own_types l own
  own_ids own = flat_map-append function_ids own (exported_functions l.names.world)

  owners : AreOwnersThere (length l.names.known.interfaces) (types_of l)
  owners =
      subst (λ (is : List Interface). AreOwnersThere (length is) (types_of l)) (sym of.interfaces_are)
      (subst (AreOwnersThere (length t.interfaces.all)) (sym of.types_are) whole.whole.sound.owners)

  empty : (r : Root) → interface_names r ≡ names → root_names r ≡ [] → IsEmptyRoot l.names r
  empty r same none = record { named = subst (AreKeyTexts l.names) (sym same) called; so_many = ap length same ∙ so_many; empty = none }

  items_named : WorldsHaveTextsApart → AreNamed l.names
  items_named texts = record {
    keys = λ key id is. (texts t world l.names whole named of).0 key (item.Interface id is.0 is.1) is.2;
    types = subst (AreTheirs 0 (types_of l)) (sym of.interfaces_are) (subst (λ types. AreTheirs 0 types t.interfaces.all) (sym of.types_are) whole.whole.holds.theirs);
    all_types = subst (AreTypesOfInterfacesListed 0 (types_of l)) (sym of.interfaces_are) (subst (λ types. AreTypesOfInterfacesListed 0 types t.interfaces.all) (sym of.types_are) whole.whole.listed);
    functions = λ j d e at has. sym ((whole.whole.names d (get_has t.interfaces.all j d (ap (λ is. slice_get is j) (sym of.interfaces_are) ∙ at))).named e has);
  }

  needed_listed : AskedAreImported → OwnTypesAreListed → (own : List Function) (linked : List (List Function)) → AreNeeded l own linked → AreListed l world own linked
  needed_listed asked own_listed own linked needed = record {
    interfaces = λ j is. asked t world l.names l.main.imports own linked whole named.taken of needed.own_are needed.linked_are j (subst (λ ids. IsInterfaceAsked (types_of l) ids linked j) (sym (own_ids own)) is);
    types = λ ids id d name ends has at is outside. (
        let seen = same_ends _ (ids_of own) (ids_of (exported_functions l.names.world)) ids ends in
        let both : Some is.0 ≡ Some d = sym is.2 ∙ at in
        let same : is.0 ≡ d = cc in
        elim (own_listed t world l.names l.main.imports own ids whole named of needed.own_are seen id is.0 is.1 has is.2 is.3) [
          | inl elsewhere ↦ absurd (outside elsewhere.0 (ap (λ (y : TypeDef). y.owner) (sym same) ∙ elsewhere.1))
          | inr here ↦ (here.key, here.span, here.has)
        ]
        );
  }

  needed_importable : WorldsAreWritable → OwnAreImported → RememberedMayBeTaken → (tb : Table) → IsTable l tb → IsImportable l world names
  needed_importable writable own_imported remembered tb table = record {
    interfaces = λ own linked r needed same none. subst (λ ids. AreWritable r (types_of l) ids linked) (own_ids own)
        (writable t world l.names r l.main.imports own linked whole named of (empty r same none) needed.own_are needed.linked_are (needed_may_be_linked l tb table own linked needed));
    functions = λ own linked r s instances needed same none imported unready. (
        let are = subst (λ ids. AreNeededImported r s (types_of l) instances ids linked) (sym (own_ids own)) imported in
        own_imported t world l.names r s l.main.imports own linked whole named of (empty r same none) needed.own_are needed.linked_are (needed_may_be_linked l tb table own linked needed)
        (record {
          instances = instances;
          imported = are;
          taken = remembered s (types_of l) (ids_of (own_and_exported l.names own)) linked are.needed (subst (λ n. AreOwnersThere n (types_of l)) (sym needed.linked_are.so_many) owners) are.are
              (λ j ids fs id d x a b has at called. are.imported.homes j ids fs id d x a b has at called);
        })
        unready
        );
  }

  pub encodable : EarlierTypesAreApart → TypesOfItemsUseEarlier → FunctionsAreThere → WorldsHaveTextsApart → AskedAreImported → OwnTypesAreListed → WorldsAreWritable → OwnAreImported → RememberedMayBeTaken → IsEncodable l world names
  encodable earlier upward functions texts asked own_listed writable own_imported remembered =
      let ready = functions t world l.names whole of in
      record {
        backward = ready.backward;
        there = ready.there;
        owners = owners;
        apart = earlier (types_of l) (subst TypesUseEarlier (sym of.types_are) (upward (items_of t) whole.whole));
        listed = record { named = items_named texts; listed = needed_listed asked own_listed };
        importable = needed_importable writable own_imported remembered;
      }
