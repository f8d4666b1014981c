-- Graphs that come of texts are named.
use Rattle.std.proofs.Common.{Bool, []}
use Rattle.wit_types.specs.declared.«package».PackageName.{PackageName}
use Rattle.wit_types.specs.declared.«package».UnresolvedPackage.{UnresolvedPackage}
use Rattle.wit_resolution.specs.Passed.wit_labels-Labels.{AreNamesWithinApart}
use Rattle.wit_resolution.specs.Passed.wit_graph_parts-Own.{IsWellFormed}
use Rattle.wit_pushed_trees.specs.Passed.wit_graph-Graph as graph
use Rattle.wit_pushed_trees.specs.Passed.wit_graph-Graph.{Graph, IsGraph}
use Rattle.wit_named_packages.specs.Pushed.{IsNamedGraph, IsNamedPackage, PushedGraphsAreNamed}
use Rattle.wit_named_packages.specs.Named.{ParsedPackagesAreNamed, MovedPackagesAreNamed}
use Rattle.wit_labelled_packages.specs.Passed.wit_new_names-Names.{IsReadName, SeesSameNames}
use Rattle.wit_labelled_packages.specs.Passed.wit_new_names-Graphs.{IsKnownGraph, EmptyGraphsAreKnown, PushedGraphsAreKnown}
use Rattle.wit_labelled_packages.specs.Names.{ParsedNamesReadBack, MovedNamesReadBack}
use Rattle.wit_labelled_packages.specs.Labelled.{IsLabelled, EmptyGraphsAreLabelled, PushedGraphsAreLabelled}
use Rattle.wit_labelled_packages.specs.Named.{AreWorldsNamed, HasNamedWorlds, EmptyGraphsHaveNamedWorlds, PushedGraphsHaveNamedWorlds}
use Rattle.wit_labelled_packages.specs.Texts.{ParsedPackagesHaveNamesApart, ParsedPackagesHaveNamedWorlds, MovedPackagesHaveNamedWorlds}
use Rattle.wit_named_packages.specs.Law.{ParsedPackagesAreWellFormed, MovedPackagesAreWellFormed}
use Rattle.wit_named_packages.specs.Within.{MovedPackagesHaveNamesApart}
use Rattle.text_graphs.specs.Graphs.{TextGraphsAreNamed}
use Rattle.text_graphs.proofs.Induction.{OfTexts, Moved, IsKept, of_texts_all}

-- what is so of each package of texts
record IsTextPackage (p : UnresolvedPackage) : Type 0 where
  pub well : IsWellFormed p
  pub named : IsNamedPackage p
  pub read : IsReadName p.name
  pub apart : AreNamesWithinApart p.types p.interfaces p.worlds
  pub worlds : HasNamedWorlds p

-- and of a graph with each of them
record IsNamed (g : Graph) : Type 0 where
  pub named : IsNamedGraph g.tables
  pub known : IsKnownGraph g
  pub labelled : IsLabelled g.tables
  pub worlds : AreWorldsNamed g.tables

pub record Laws : Type 0 where
  pub parsed_well : ParsedPackagesAreWellFormed
  pub moved_well : MovedPackagesAreWellFormed
  pub parsed_named : ParsedPackagesAreNamed
  pub moved_named : MovedPackagesAreNamed
  pub pushed_named : PushedGraphsAreNamed
  pub empty_known : EmptyGraphsAreKnown
  pub parsed_read : ParsedNamesReadBack
  pub moved_read : MovedNamesReadBack
  pub pushed_known : PushedGraphsAreKnown
  pub empty_labelled : EmptyGraphsAreLabelled
  pub parsed_apart : ParsedPackagesHaveNamesApart
  pub moved_apart : MovedPackagesHaveNamesApart
  pub pushed_labelled : PushedGraphsAreLabelled
  pub empty_worlds : EmptyGraphsHaveNamedWorlds
  pub parsed_worlds : ParsedPackagesHaveNamedWorlds
  pub moved_worlds : MovedPackagesHaveNamedWorlds
  pub pushed_worlds : PushedGraphsHaveNamedWorlds

empty_named : IsNamedGraph graph.nothing
empty_named = record {
  items = record {
    taken = record { interfaces_take = λ k d at. absurd cc; worlds_take = λ i w at. absurd cc };
    apart = record {
      packages_apart = λ p q a b at to same. absurd cc;
      interfaces_apart = λ i j p d e x y at to of into named called same. absurd cc;
      namespaces = λ p a at. absurd cc;
      names = λ p a at. absurd cc;
      interface_names = λ i d x at named. absurd cc;
    };
    used = record { in_interfaces = λ k j d at dep. absurd cc; in_worlds = λ i j w at used. absurd cc; imported = λ i j w at has. absurd cc };
    plain = λ i w at. absurd cc;
  };
  tables = λ p has e of. absurd has;
}

module _ (laws : Laws) where
  of_texts : OfTexts (λ set source. IsTextPackage)
  of_texts set files main nested parsed p has = record {
    well = laws.parsed_well files main nested parsed p has;
    named = laws.parsed_named files main nested parsed p has;
    read = laws.parsed_read files main nested parsed p has;
    apart = laws.parsed_apart files main nested parsed p has;
    worlds = laws.parsed_worlds files main nested parsed p has;
  }

  moved : Moved (λ set source. IsTextPackage)
  moved set source p n own = record {
    well = laws.moved_well p n own.well;
    named = laws.moved_named p n own.named;
    read = laws.moved_read p n own.read;
    apart = laws.moved_apart p n own.apart;
    worlds = laws.moved_worlds p n own.worlds;
  }

  kept : (eq : PackageName → PackageName → Bool) → SeesSameNames eq → IsKept eq (λ pushes. IsNamed) (λ set source. IsTextPackage)
  kept eq sees pushes set old p new id whole new_whole among is so =
      let own = among.2 in
      let known = laws.pushed_known eq set old p new id sees so.known own.read is in
      record {
        named = laws.pushed_named eq set old p new id whole.whole own.well is known.0 so.named own.named;
        known = known.1;
        labelled = laws.pushed_labelled eq set old p new id own.apart is so.labelled;
        worlds = laws.pushed_worlds eq set old p new id own.worlds is so.worlds;
      }

  pub text_graphs_named : TextGraphsAreNamed
  text_graphs_named eq r sees come =
      let first : IsNamed (record { tables = graph.nothing; names = [] }) = record { named = empty_named; known = laws.empty_known; labelled = laws.empty_labelled; worlds = laws.empty_worlds } in
      let all = of_texts_all eq (λ pushes. IsNamed) (λ set source. IsTextPackage) of_texts moved (kept eq sees) (λ pushes more g so. so) first r come in
      record { whole = all.0; named = all.1.named; known = all.1.known; labelled = all.1.labelled; worlds = all.1.worlds }
