-- A graph to which a package was pushed is named.
use Rattle.std.proofs.Common.{ℕ, Bool, List, [], ◌∷◌, ◌++◌, length, String, refl, sym, subst}
use Rattle.std.proofs.lemmas.List.{take-append-drop}
use Rattle.std.specs.declared.alloc.Global.{Global}
use Rattle.wit_types.specs.declared.interface.TypeDef.{TypeDef}
use Rattle.wit_types.specs.declared.«package».Package.{Package}
use Rattle.wit_types.specs.declared.«package».PackageName.{PackageName}
use Rattle.wit_types.specs.declared.«package».UnresolvedPackage.{UnresolvedPackage}
use Rattle.wit_features.specs.Features.{FeatureSet}
use Rattle.wit_placed.specs.Found.{FoundAreThere}
use Rattle.wit_plans.specs.Plans.{standing}
use Rattle.wit_item_names.specs.Passed.wit_graph_worlds-Names.{AreNames, interface_names}
use Rattle.wit_item_names.specs.Items as items
use Rattle.wit_item_names.specs.Placed.{IsNewName}
use Rattle.wit_item_names.specs.Tables.{TablesNameNamed, FoundAreNamed, PlacedTablesNameNamed}
use Rattle.wit_graph.specs.Passed.wit_graph_parts-Own.{asked, own_parts, IsWellFormed}
use Rattle.wit_graph.specs.Graph.{Graph, AreWhole}
use Rattle.wit_graph.specs.Push.{IsPushed}
use Rattle.wit_graph.proofs.Finishing.{ready}
use Rattle.wit_named_graphs.specs.Added.{IsOwnNamed, AddedItemsAreNamed}
use Rattle.wit_named_graphs.specs.Pushed.{IsNamedGraph, IsNamedPackage}

module _ (eq : PackageName → PackageName → Bool) (features : FeatureSet) (old : Graph) (p : UnresolvedPackage) (new : Graph) (id : ℕ) (whole : AreWhole old.tables) (well : IsWellFormed p) (h : IsPushed eq features old p new id) where
  own_named : IsNamedPackage p → IsOwnNamed h.foreign (own_parts p)
  own_named named =
      let found = h.are_places.found in
      subst (λ (n : ℕ). items.AreOwnItemsNamed n (length h.foreign.worlds) ((own_parts p).unknown ++ (own_parts p).types) (own_parts p).interfaces (own_parts p).worlds) (sym found.interfaces_are.all)
      (subst (λ (n : ℕ). items.AreOwnItemsNamed (asked p).interfaces n ((own_parts p).unknown ++ (own_parts p).types) (own_parts p).interfaces (own_parts p).worlds) (sym found.worlds_are.all)
      (subst (λ (ds : List TypeDef). items.AreOwnItemsNamed (asked p).interfaces (asked p).worlds ds (own_parts p).interfaces (own_parts p).worlds) (sym (take-append-drop (length p.unknown_type_spans.items) p.types)) named))

  tables_named : PlacedTablesNameNamed → TablesNameNamed old.tables.packages old.tables.interfaces.all → TablesNameNamed new.tables.packages new.tables.interfaces.all
  tables_named placed named =
      let a = h.put.added in
      let is = a.parts.own_interfaces in
      subst (λ (ps : List Package). TablesNameNamed ps new.tables.interfaces.all) (sym a.packages_are)
      (subst (TablesNameNamed (old.tables.packages ++ a.q ∷ [])) (sym is.added.all_are)
      (placed features (standing h.owners h.places) old.tables.packages a.q old.tables.interfaces.all (own_parts p).interfaces is.moved is.are_moved
      (subst (λ (es : List (String Global × ℕ)). AreNames (interface_names (length old.tables.interfaces.all) is.moved) es) (sym a.is_package.interfaces_are) is.named) named))

  pub pushed_named : AddedItemsAreNamed → FoundAreThere → FoundAreNamed → PlacedTablesNameNamed → IsNewName old.tables.packages h.put.added.q → IsNamedGraph old.tables → IsNamedPackage p → IsNamedGraph new.tables
  pushed_named added there found_named placed is_new named own =
      let found = h.are_places.found in
      record {
        items = added features h.put.same p.docs h.foreign h.owners h.places (own_parts p) old.tables new.tables whole (ready eq features old p well whole h.foreign found there (own_parts p) h.owners h.places refl h.are_places.planned) h.put.added
            (found_named eq features old.names old.tables.packages old.tables.interfaces.all p h.foreign.interfaces h.foreign.worlds named.tables found) is_new named.items (own_named own);
        tables = tables_named placed named.tables;
      }
