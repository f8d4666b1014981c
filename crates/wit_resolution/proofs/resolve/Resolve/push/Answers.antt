use Rattle.std.proofs.Common.{refl, subst}
use Rattle.std.proofs.lemmas.Result.{err_from_is_err_and}
use Rattle.wit_types.specs.declared.«package».UnresolvedPackage.{UnresolvedPackage}
use Rattle.wit_types.specs.contracts.«package».PackageNamePartialEq.TheImpl.{eq-value as package_eq}
use Rattle.wit_resolve_errors.specs.Passed.wit_graph-Push.{IsPushCause}
use Rattle.wit_resolution.specs.Pushes.{IsPackageError}
use Rattle.wit_resolution.proofs.resolve.Resolve.push.Goals as goal

pub returns-in_err-push-clause-cause : goal.returns-in_err-push-clause-cause
returns-in_err-push-clause-cause c =
    let p = err_from_is_err_and c.from_residual-in_err-push.result c.from_residual-in_err-push.ensures.1 in
    let fault = c.in_err-push.field-0.0 in
    let cause = subst (λ (q : UnresolvedPackage). IsPushCause package_eq.it c.self.inside.features c.self.inside.graph q fault) c.in_ok-moved.ensures.ok c.in_err-push.ensures.cause in
    rw (p.1, p.2, ← c.self.view_is) (IsPackageError.refused fault cause refl)
