-- Functions one behind the other.
use Rattle.std.proofs.Common.{List}
use Rattle.wit_types.specs.declared.function.Function.{Function}
use Rattle.wit_types.specs.declared.interface.TypeDef.{TypeDef}
use Rattle.wit_lookups.specs.Passed.wit_scopes-Members.{MemberTree}
use Rattle.wit_lookups.specs.Passed.wit_scopes-Scopes.{ItemScope}
use Rattle.wit_resources.specs.Passed.wit_arena-Tree.{PackageText, Place}
use Rattle.wit_resources.specs.Passed.wit_arena-Table.{Entries}
use Rattle.wit_resources.specs.Passed.wit_arena-Unfold.{Owners}
use Rattle.wit_resources.proofs.Passed.wit_arena-Extending.{Extends, extends_self, extends_through}
use Rattle.wit_resolved_scopes.specs.Scope.{AddsFunction, adds_function, passes_type, LowersFunctions, no_members, one_more}
use Rattle.wit_resolved_scopes.specs.Faults.{StandsSoFar}
use Rattle.wit_resolved_scopes.proofs.Results.{function_extends, stands_after}

module _ (table : Entries) where
  added_extends : (a b : List TypeDef) (fs gs : List Function) (m : MemberTree) → AddsFunction table a fs m b gs → Extends a b
  added_extends a b fs gs m (adds_function b2 f of l) = function_extends table a b2 m f l
  added_extends a b fs gs m (passes_type of) = extends_self a

  pub functions_extend : (a b : List TypeDef) (ms : List MemberTree) (fs : List Function) → LowersFunctions table a ms b fs → Extends a b
  functions_extend a b ms fs no_members = extends_self a
  functions_extend a b ms fs (one_more ms2 m b2 c fs2 gs l adds) = extends_through a b2 c (functions_extend a b2 ms2 fs2 l) (added_extends b2 c fs2 gs m adds)

module _ (me : PackageText) (scopes : List ItemScope) (owners : Owners) (o : Place) (table : Entries) where
  stands_added : (a b : List TypeDef) (fs gs : List Function) (m : MemberTree) → StandsSoFar me scopes owners o table a → AddsFunction table a fs m b gs → StandsSoFar me scopes owners o table b
  stands_added a b fs gs m stands (adds_function b2 f of l) = stands_after me scopes owners o table a b2 m f stands l
  stands_added a b fs gs m stands (passes_type of) = stands

  -- what stood before them stands behind them
  pub functions_stand : (a b : List TypeDef) (ms : List MemberTree) (fs : List Function) → StandsSoFar me scopes owners o table a → LowersFunctions table a ms b fs → StandsSoFar me scopes owners o table b
  functions_stand a b ms fs stands no_members = stands
  functions_stand a b ms fs stands (one_more ms2 m b2 c fs2 gs l adds) = stands_added b2 c fs2 gs m (functions_stand a b2 ms2 fs2 stands l) adds
