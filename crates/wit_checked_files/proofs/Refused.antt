-- A refusal for a part is one for the whole.
use Rattle.std.proofs.Common.{◌≡◌, ℕ, List, Some, map}
use Rattle.std.specs.Prelude.{slice_get}
use Rattle.wit_syntax.specs.declared.ast.File.{File}
use Rattle.wit_syntax.specs.Ast.{PackageNameTree}
use Rattle.wit_syntax.specs.AstView as view
use Rattle.wit_scopes.specs.declared.scopes.ItemScope.{ItemScope as Item}
use Rattle.wit_scopes.specs.View.{item_scope}
use Rattle.wit_rules.specs.declared.fault.PackageFault.{PackageFault}
use Rattle.wit_rules.specs.Breaks.{IsFaultOf, AnyBreaks}
use Rattle.wit_rules.specs.Facts.{ScopeBreaks, ScopesBreak, by_scope, FileBreaks, PackageBreaks, by_file}
use Rattle.wit_rules.proofs.Breaking.{widened, one_breaks, viewed_breaks}

pub scope_refused : (scopes : List Item) (i : ℕ) (s : Item) → slice_get scopes i ≡ Some s → (fault : PackageFault) → IsFaultOf (ScopeBreaks (item_scope s)) fault → IsFaultOf (ScopesBreak (map item_scope scopes)) fault
scope_refused scopes i s there fault h =
    widened (AnyBreaks ScopeBreaks (map item_scope scopes)) (ScopesBreak (map item_scope scopes)) (λ rule at b. by_scope b) fault
    (viewed_breaks ScopeBreaks item_scope scopes fault (one_breaks (λ x. ScopeBreaks (item_scope x)) scopes i s there fault h))

pub file_refused : (me : PackageNameTree) (files : List File) (fault : PackageFault) → IsFaultOf (AnyBreaks (λ f. FileBreaks (view.file f)) files) fault → IsFaultOf (PackageBreaks me (map view.file files)) fault
file_refused me files fault h =
    widened (AnyBreaks FileBreaks (map view.file files)) (PackageBreaks me (map view.file files)) (λ rule at b. by_file b) fault (viewed_breaks FileBreaks view.file files fault h)
