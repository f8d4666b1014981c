use Rattle.std.proofs.Common.{◌≡◌, ◌∷◌, ◌++◌, [], inr, refl, ap, ◌∙◌, List}
use Rattle.std.proofs.lemmas.Result.{err_from_is_err_and}
use Rattle.wit_types.specs.declared.«package».UnresolvedPackage.{UnresolvedPackage}
use Rattle.wit_offsets.specs.Offsets.{package_at}
use Rattle.wit_resolution.proofs.Taking.{none_added, one_added, first_passes}
use Rattle.wit_resolution.proofs.groups.add_packages.Goals as goal

pub loop-package-init : goal.loop-package-init
loop-package-init c = none_added c.args.offset c.args.packages.now.items c.args.own.items c.into_iter-package-iterator.result.rest.items c.into_iter-package-iterator.ensures.into_iter_gives.0

pub returns-in_err-with_offset-clause-cause : goal.returns-in_err-with_offset-clause-cause
returns-in_err-with_offset-clause-cause c =
    let p = err_from_is_err_and c.from_residual.result c.from_residual.ensures.1 in
    let passes = first_passes c.args.offset c.loop-package.package-iterator.rest.items c.next.new.self.rest.items c.in-Some.package c.in-Some.ensures.steps.0 c.in_err-with_offset.ensures.cause in
    rw (p.1, p.2) (inr (c.loop-package.invariant.pass passes, refl))

pub loop-package-preserved : goal.loop-package-preserved
loop-package-preserved c =
    let now : List UnresolvedPackage = c.loop-package.packages.items in
    let more : c.push.new.self.items ≡ now ++ package_at c.args.offset c.in-Some.package ∷ [] = ◌∙◌ {A = List UnresolvedPackage} c.in_ok-push.ensures.items (ap (λ (q : UnresolvedPackage). now ++ q ∷ []) c.in_ok-with_offset.ensures.ok) in
    one_added c.args.offset c.args.packages.now.items c.args.own.items now c.push.new.self.items c.loop-package.package-iterator.rest.items c.next.new.self.rest.items c.in-Some.package c.loop-package.invariant
    c.in-Some.ensures.steps.0 more c.in_ok-with_offset.ensures.small
