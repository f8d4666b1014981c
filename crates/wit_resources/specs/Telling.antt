-- What is known of the types of an arena tells what their names and types mean.
use Rattle.std.specs.Prelude.{◌≡◌, ℕ, List, Some}
use Rattle.wit_words.specs.declared.source_map.Span.{Span}
use Rattle.wit_words.specs.Slice.{Slice}
use Rattle.wit_types.specs.declared.kind.«Type».{«Type» as Ref}
use Rattle.wit_types.specs.declared.interface.TypeDef.{TypeDef}
use Rattle.wit_rules.specs.Passed.wit_productions-TypeTree.{TypeTree}
use Rattle.wit_rules.specs.Passed.wit_scopes-Scopes.{ItemScope}
use Rattle.wit_rules.specs.declared.fault.PackageRule.{PackageRule}
use Rattle.wit_rules.specs.Breaks.{IsKept}
use Rattle.wit_arena.specs.Tree.{PackageText, Place, Tree, resource_leaf}
use Rattle.wit_arena.specs.Table.{Entries}
use Rattle.wit_arena.specs.Meaning.{Has, Means}
use Rattle.wit_arena.specs.Unfold.{Owners, value_tree, trees}
use Rattle.wit_arena.specs.Standing.{AreStanding, AreFunctional}
use Rattle.wit_resources.specs.Natures.{natures}
use Rattle.wit_resources.specs.Failing.{HandleFails, ResultFails}
use Rattle.wit_resources.specs.Rules.{type_span, HandleBreaks, ResultBreaks}

-- of a scope at a place, with the table of its types, where the names of each scope differ
pub record NaturesTell (me : PackageText) (scopes : List ItemScope) (owners : Owners) (o : Place) (table : Entries) (a : List TypeDef) : Type 0 where
  -- a handle fails where its name means no resource, and there alone
  pub handle_breaks : (x : Slice) (rule : PackageRule) (at : Span) → AreStanding me scopes resource_leaf owners o table a → HandleFails (natures a) table x rule at → HandleBreaks me scopes o x rule at
  pub handle_kept : (x : Slice) (i : ℕ) → AreFunctional scopes → AreStanding me scopes resource_leaf owners o table a → Has table (x.text, i) → IsKept (HandleFails (natures a) table x) → IsKept (HandleBreaks me scopes o x)
  -- a result fails where a `borrow` stands in what it means, and there alone
  pub result_breaks : (e : TypeTree) (r : Ref) (t : Tree) (rule : PackageRule) (at : Span) → value_tree (trees owners resource_leaf a) r ≡ Some t → Means me scopes resource_leaf o e t
      → ResultFails (natures a) (Some r) (type_span e) rule at → ResultBreaks me scopes o e rule at
  pub result_kept : (e : TypeTree) (r : Ref) (t : Tree) → AreFunctional scopes → value_tree (trees owners resource_leaf a) r ≡ Some t → Means me scopes resource_leaf o e t
      → IsKept (ResultFails (natures a) (Some r) (type_span e)) → IsKept (ResultBreaks me scopes o e)

abbrev pub NaturesTellWhatTypesMean : Type 0
NaturesTellWhatTypesMean = (me : PackageText) (scopes : List ItemScope) (owners : Owners) (o : Place) (table : Entries) (a : List TypeDef) → NaturesTell me scopes owners o table a
