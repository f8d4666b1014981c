-- A package that is built of its files is what they are resolved to.
use Rattle.std.proofs.Common.{◌≡◌, ℕ, ◌+◌, List, [], ◌++◌, length, Some, map, sym, subst, ap, ◌∙◌}
use Rattle.std.proofs.lemmas.Option.{slice_get-map}
use Rattle.std.specs.Prelude.{slice_get, option_map}
use Rattle.wit_words.specs.declared.source_map.Span.{Span}
use Rattle.wit_types.specs.declared.interface.Interface.{Interface}
use Rattle.wit_types.specs.declared.interface.TypeDef.{TypeDef}
use Rattle.wit_types.specs.declared.world.World.{World}
use Rattle.wit_types.specs.declared.«package».UnresolvedPackage.{UnresolvedPackage}
use Rattle.wit_syntax.specs.Ast.{PackageNameTree, FileTree}
use Rattle.wit_scopes.specs.Scopes.{WorldScope, ItemScope, package_scopes, package_docs}
use Rattle.wit_rules.specs.Facts.{IsDeclared}
use Rattle.name_places.specs.FirstPlaces.{place_of}
use Rattle.wit_arena.specs.Tree.{Name, in_world, Owner, Tree}
use Rattle.wit_arena.specs.Meaning.{package_text}
use Rattle.wit_arena.specs.Unfold.{IsWhole}
use Rattle.wit_placeholders.specs.Passed.wit_package_types-Known.{KnownTypes, FindsOwn}
use Rattle.wit_placeholders.specs.Passed.wit_package_types-Standing.{AreKnownStanding}
use Rattle.wit_placeholders.proofs.Passed.wit_package_types-Functional.{are_functional}
use Rattle.wit_built_worlds.specs.Passed.wit_resources-declared-natures-Nature.{Nature}
use Rattle.wit_placeholders.specs.Passed.wit_foreign-Items.{Items, AreItemsOf}
use Rattle.wit_placeholders.specs.Passed.wit_foreign-Unknown.{AreUnknown, LeadToOwners}
use Rattle.wit_placeholders.proofs.Passed.wit_foreign-Standing.{unknown_types_stand}
use Rattle.wit_package.specs.TopUses.{files_need}
use Rattle.wit_built_worlds.specs.Passed.wit_resolved_scopes-InArena.{own_owner, IsBuilt, IsIdOf}
use Rattle.wit_built_worlds.specs.Passed.wit_resolved_scopes-Texts.{InterfaceText, AreItemsSorted, interfaces_of, worlds_of, interface_texts}
use Rattle.wit_built_worlds.specs.Passed.wit_interfaces-Interfaces.{AreInterfacesIn}
use Rattle.wit_built_worlds.specs.Passed.wit_interfaces-Listed.{NewTypesAreListed}
use Rattle.wit_built_worlds.proofs.Passed.wit_interfaces-Behind.{get_right}
use Rattle.wit_built_worlds.proofs.Passed.wit_resolved_scopes-Listing.{extends_for}
use Rattle.wit_built_worlds.specs.Worlds.{AreWorldsIn}
use Rattle.wit_built_worlds.proofs.Passed.wit_readiness-Parts.{declared_kept}
use Rattle.wit_package.specs.Start.{IsStart}
use Rattle.wit_package.specs.Built.{MayBuild, Builds}
use Rattle.wit_package.specs.Resolved.{foreign_owners, owner_in, owners_of, context_of, own_texts, IsMade, IsResolved}
use Rattle.wit_package.proofs.Owning.{interface_owners_length, world_owners_length, interface_owned, world_owned}
use Rattle.wit_package.proofs.Scoping.{interface_there, world_there}

module _ (files : List FileTree) (me : PackageNameTree) (declared : IsDeclared files me (package_scopes me files)) (sorted : List ItemScope) (are_sorted : AreItemsSorted (package_scopes me files) sorted) (items : Items) (are : AreItemsOf (files_need me files) items)
    (k : KnownTypes) (a : List TypeDef) (ns : List Nature) (interfaces : List Interface) (names : List Name) (worlds : List World) (spans : List Span) (start : IsStart (files_need me files) items k a ns interfaces names worlds spans)
  where
    abbrev own_interfaces : List Owner
    own_interfaces = map (λ (t : InterfaceText). owner_in (package_text me) t.place) (interface_texts sorted)

    abbrev own_worlds : List Owner
    own_worlds = map (λ (w : WorldScope). owner_in (package_text me) (in_world w.name.text)) (worlds_of sorted)

    leads : LeadToOwners (owners_of (package_text me) items sorted) items
    leads w j has = interface_owned (files_need me files) items are own_interfaces w j has

    no_own : (i y : Name) (j : ℕ) → FindsOwn k i y j → ⊥
    no_own i y j f = let e : place_of i [] ≡ Some f.place = ap (place_of i) (sym start.no_interface) ∙ f.first in cc

    start_known : (given : Owner → Name → Tree) → AreKnownStanding (package_text me) (package_scopes me files) given (owners_of (package_text me) items sorted) k a
    start_known given = record {
      own = λ i y j f. absurd (no_own i y j f);
      foreign = (unknown_types_stand given (owners_of (package_text me) items sorted) items (files_need me files) a k.foreign spans leads start.unknown).1;
    }

    start_built : IsBuilt (context_of me files items sorted) k a
    start_built = record {
      functional = are_functional (package_scopes me files) (declared_kept files me (package_scopes me files) declared);
      even = ap length start.no_interface ∙ sym (ap length start.no_table);
      whole = λ given. (unknown_types_stand given (owners_of (package_text me) items sorted) items (files_need me files) a k.foreign spans leads start.unknown).0;
      known = start_known;
    }

    interface_owner : (n : ℕ) (t : InterfaceText) → slice_get (interface_texts sorted) n ≡ Some t → IsIdOf (context_of me files items sorted) t (length interfaces + n)
    interface_owner n t at =
        let foreign = (foreign_owners items).interfaces in
        let size : length interfaces ≡ length foreign = start.placeholders.so_many_interfaces ∙ sym (interface_owners_length items) in
        let owner : slice_get own_interfaces n ≡ Some (owner_in (package_text me) t.place) =
        slice_get-map (λ (u : InterfaceText). owner_in (package_text me) u.place) (interface_texts sorted) n ∙ ap (option_map (λ (u : InterfaceText). owner_in (package_text me) u.place)) at in
        ap (λ (m : ℕ). slice_get (foreign ++ own_interfaces) (m + n)) size ∙ get_right foreign own_interfaces n (owner_in (package_text me) t.place) owner

    world_owner : (n : ℕ) (w : WorldScope) → slice_get (worlds_of sorted) n ≡ Some w → slice_get (owners_of (package_text me) items sorted).worlds (length worlds + n) ≡ Some (own_owner (context_of me files items sorted) (in_world w.name.text))
    world_owner n w at =
        let foreign = (foreign_owners items).worlds in
        let size : length worlds ≡ length foreign = start.placeholders.so_many_worlds ∙ sym (world_owners_length items) in
        let owner : slice_get own_worlds n ≡ Some (owner_in (package_text me) (in_world w.name.text)) =
        slice_get-map (λ (v : WorldScope). owner_in (package_text me) (in_world v.name.text)) (worlds_of sorted) n ∙ ap (option_map (λ (v : WorldScope). owner_in (package_text me) (in_world v.name.text))) at in
        ap (λ (m : ℕ). slice_get (foreign ++ own_worlds) (m + n)) size ∙ get_right foreign own_worlds n (owner_in (package_text me) (in_world w.name.text)) owner

    pub may_build : MayBuild (context_of me files items sorted) k a interfaces items worlds (interfaces_of sorted) (worlds_of sorted)
    may_build = record {
      built = start_built;
      interfaces_there = interface_there (package_scopes me files) sorted are_sorted;
      worlds_there = world_there (package_scopes me files) sorted are_sorted;
      interface_owners = interface_owner;
      world_owners = world_owner;
      foreign_interfaces = leads;
      foreign_worlds = world_owned (files_need me files) items are own_worlds;
    }

    pub is_resolved : (b : List TypeDef) (interfaces2 : List Interface) (worlds2 : List World) → Builds (context_of me files items sorted) a interfaces worlds (interfaces_of sorted) (worlds_of sorted) b interfaces2 worlds2
        → (p : UnresolvedPackage) → IsMade me (package_docs files) items (files_need me files) b interfaces2 worlds2 spans p → IsResolved files p
    is_resolved b interfaces2 worlds2 builds p made =
        let more = extends_for (context_of me files items sorted) a b builds.grows in
        let AreListed : List Interface → List World → List TypeDef → Type 0 =
        λ js vs ds. NewTypesAreListed (context_of me files items sorted) (own_texts sorted) js vs a ds in
        record {
          me = me;
          named = declared.named;
          sorted = sorted;
          are_sorted = are_sorted;
          items = items;
          items_are = are;
          name = made.name;
          name_stands = made.name_stands;
          docs = made.docs;
          whole = λ given. subst (IsWhole (owners_of (package_text me) items sorted) given) (sym made.types) (builds.grows given).whole;
          unique = made.unique;
          unknown = a;
          others = more.0;
          types_are = made.types ∙ more.1;
          names = k.foreign;
          unknown_are = subst (λ (ss : List Span). AreUnknown items (files_need me files) a k.foreign ss) (sym made.spans_are) start.unknown;
          foreign_interfaces = interfaces;
          own_interfaces = builds.more;
          interfaces_are = made.interfaces_are ∙ builds.behind;
          own_interfaces_are = subst (λ (ds : List TypeDef). AreInterfacesIn (context_of me files items sorted) ds (length interfaces) (interface_texts sorted) builds.more) (sym made.types) builds.are_in;
          foreign_worlds = worlds;
          own_worlds = builds.more_worlds;
          worlds_are = made.worlds_are ∙ builds.worlds_behind;
          own_worlds_are = subst (λ (ds : List TypeDef). AreWorldsIn (context_of me files items sorted) ds (length worlds) (worlds_of sorted) builds.more_worlds) (sym made.types) builds.worlds_are_in;
          listed =
              subst (λ (ds : List TypeDef). AreListed p.interfaces p.worlds ds) (sym made.types)
              (subst (λ (vs : List World). AreListed p.interfaces vs b) (sym made.worlds_are) (subst (λ (js : List Interface). AreListed js worlds2 b) (sym made.interfaces_are) builds.listed));
          foreign_are = start.placeholders;
          deps_are = made.deps_are;
        }
