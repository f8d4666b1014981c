use Rattle.std.proofs.Common.{◌≡◌, List, [], inl, inr, refl, sym, subst, ◌∙◌}
use Rattle.std.proofs.lemmas.List.{nil_from_length}
use Rattle.std.proofs.lemmas.Result.{err_from_is_err_and}
use Rattle.wit_types.specs.declared.«package».UnresolvedPackage.{UnresolvedPackage}
use Rattle.wit_types.specs.contracts.«package».PackageNamePartialEq.TheImpl.{eq-value as package_eq}
use Rattle.wit_order.specs.Order.{Has}
use Rattle.wit_graph.specs.Push.{HasMorePackages}
use Rattle.wit_groups.specs.Pushed.{ArePushed, OneIsRefused}
use Rattle.wit_groups.proofs.Pushing.{more_twice, no_more, one_more, later_refused, first_refused}
use Rattle.wit_groups.proofs.push.push_each.Goals as goal

pub loop-package-init : goal.loop-package-init
loop-package-init c =
    let same : c.into_iter-package-iterator.result.rest.items ≡ c.args.packages.items = c.into_iter-package-iterator.ensures.into_iter_gives.0 in
    record {
      whole = λ p h. c.requires p (subst (λ (ps : List UnresolvedPackage). Has ps p) same h);
      pushed = λ last h. subst (λ (ps : List UnresolvedPackage). ArePushed package_eq.it c.args.features.now c.args.graph.now ps last) same h;
      refused = λ fault h. subst (λ (ps : List UnresolvedPackage). OneIsRefused package_eq.it c.args.features.now c.args.graph.now ps fault) same h;
      more = no_more c.args.graph.now;
    }

pub push-requires : goal.push-requires
push-requires c = c.loop-package.invariant.whole c.in-Some.package (subst (λ (ps : List UnresolvedPackage). Has ps c.in-Some.package) (sym c.in-Some.ensures.steps.0) (inl refl))

pub loop-package-preserved : goal.loop-package-preserved
loop-package-preserved c =
    let inv = c.loop-package.invariant in
    let p : UnresolvedPackage = c.in-Some.package in
    let rest = c.next.new.self.rest.items in
    let step = c.in-Some.ensures.steps.0 in
    let pushed = c.in_ok-push.ensures.ok in
    record {
      whole = λ q h. inv.whole q (subst (λ (ps : List UnresolvedPackage). Has ps q) (sym step) (inr h));
      pushed = λ last h. inv.pushed last (one_more package_eq.it c.args.features.now c.loop-package.graph c.push.new.self last p c.loop-package.package-iterator.rest.items rest c.in_ok-push.field-0 step c.law_is_graph.ensures pushed h);
      refused = λ fault h. inv.refused fault (later_refused package_eq.it c.args.features.now c.loop-package.graph c.push.new.self p c.loop-package.package-iterator.rest.items rest c.in_ok-push.field-0 fault step pushed h);
      more = more_twice c.args.graph.now c.loop-package.graph c.push.new.self inv.more c.in_ok-push.ensures.more;
    }

pub returns-in_err-push-clause-cause : goal.returns-in_err-push-clause-cause
returns-in_err-push-clause-cause c =
    let p = err_from_is_err_and c.from_residual.result c.from_residual.ensures.1 in
    rw (p.1, p.2)
    (c.loop-package.invariant.refused c.in_err-push.field-0.0 (first_refused package_eq.it c.args.features.now c.loop-package.graph c.in-Some.package c.loop-package.package-iterator.rest.items c.next.new.self.rest.items c.in_err-push.field-0.0 c.in-Some.ensures.steps.0 c.in_err-push.ensures.cause))

pub returns-in_err-push-clause-more : goal.returns-in_err-push-clause-more
returns-in_err-push-clause-more c = subst (HasMorePackages c.args.graph.now) (sym c.in_err-push.ensures.err) c.loop-package.invariant.more

pub returns-clause-ok : goal.returns-clause-ok
returns-clause-ok c =
    let left = c.loop-package.package-iterator.rest in
    let none : left.items ≡ [] = nil_from_length left.items (sym left.ok.0 ∙ c.in-None.ensures.steps.0) in
    c.loop-package.invariant.pushed c.loop-package.graph (subst (λ (ps : List UnresolvedPackage). ArePushed package_eq.it c.args.features.now c.loop-package.graph ps c.loop-package.graph) (sym none) refl)

pub returns-clause-more : goal.returns-clause-more
returns-clause-more c = c.loop-package.invariant.more
