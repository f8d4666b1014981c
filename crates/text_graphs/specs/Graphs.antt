-- Graphs of packages that come of texts (WIT, Packages).
use Rattle.std.specs.Prelude.{◌≡◌, ℕ, Bool, List, Some}
use Rattle.wit_types.specs.Package.{interface_text}
use Rattle.wit_types.specs.declared.«package».PackageName.{PackageName}
use Rattle.wit_pushed_trees.specs.Passed.wit_graph-Graph.{Graph, IsGraph}
use Rattle.wit_names.specs.Names.{IsTextOf}
use Rattle.wit_named_packages.specs.Pushed.{IsNamedGraph}
use Rattle.wit_labelled_packages.specs.Passed.wit_new_names-Names.{SeesSameNames}
use Rattle.wit_labelled_packages.specs.Passed.wit_new_names-Graphs.{IsKnownGraph}
use Rattle.wit_labelled_packages.specs.Labelled.{IsLabelled}
use Rattle.wit_labelled_packages.specs.Named.{AreWorldsNamed}
use Rattle.wit_resolution.specs.Pushes.{Resolved}
use Rattle.text_graphs.specs.Coming.{ComeOfTexts}

-- what holds of such a graph: all that it names is there; interfaces and worlds take types of others by use alone, and names that have to tell
-- things apart do; packages stand under their names; labels and parameters differ; functions of worlds stand under their names
pub record IsTextGraph (g : Graph) : Type 0 where
  pub whole : IsGraph g
  pub named : IsNamedGraph g.tables
  pub known : IsKnownGraph g
  pub labelled : IsLabelled g.tables
  pub worlds : AreWorldsNamed g.tables

-- where names of the same texts and versions are equal
abbrev pub TextGraphsAreNamed : Type 0
TextGraphsAreNamed = (eq : PackageName → PackageName → Bool) (r : Resolved) → SeesSameNames eq → ComeOfTexts eq r → IsTextGraph r.graph

-- there the text of an interface, which `id_of` answers, tells it from any other
abbrev pub NamesTellInterfacesApart : Type 0
NamesTellInterfacesApart = (eq : PackageName → PackageName → Bool) (r : Resolved) (i j : ℕ) (text : List ℕ) → SeesSameNames eq → ComeOfTexts eq r
    → IsTextOf interface_text r.graph.tables.packages r.graph.tables.interfaces.all i (Some text) → IsTextOf interface_text r.graph.tables.packages r.graph.tables.interfaces.all j (Some text) → i ≡ j
