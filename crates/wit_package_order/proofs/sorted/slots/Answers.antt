use Rattle.std.proofs.Common.{◌≡◌, List, [], ◌∷◌, ◌++◌, Option, Some, map, sym, ap, ◌∙◌, append_assoc}
use Rattle.std.proofs.lemmas.List.{append-nil, nil_from_length}
use Rattle.wit_types.specs.declared.«package».UnresolvedPackage.{UnresolvedPackage}
use Rattle.wit_package_order.proofs.sorted.slots.Goals as goal

pub loop-package-init : goal.loop-package-init
loop-package-init c =
    rw (c.new-slots.ensures.items) (ap (λ (xs : List UnresolvedPackage). map (λ (p : UnresolvedPackage). Some p) xs) c.into_iter-package-iterator.ensures.into_iter_gives.0)

pub loop-package-preserved : goal.loop-package-preserved
loop-package-preserved c =
    ap (λ (xs : List (Option UnresolvedPackage)). xs ++ map (λ (p : UnresolvedPackage). Some p) c.next.new.self.rest.items) c.in_ok-push.ensures.items
    ∙ append_assoc c.loop-package.slots.items (Some c.in-Some.package ∷ []) (map (λ (p : UnresolvedPackage). Some p) c.next.new.self.rest.items)
    ∙ ap (λ (xs : List UnresolvedPackage). c.loop-package.slots.items ++ map (λ (p : UnresolvedPackage). Some p) xs) (sym c.in-Some.ensures.steps.0) ∙ c.loop-package.invariant

pub returns : goal.returns
returns c =
    let none : c.loop-package.package-iterator.rest.items ≡ [] = nil_from_length c.loop-package.package-iterator.rest.items (sym c.loop-package.package-iterator.rest.ok.0 ∙ c.in-None.ensures.steps.0) in
    sym (append-nil c.loop-package.slots.items) ∙ ap (λ (xs : List UnresolvedPackage). c.loop-package.slots.items ++ map (λ (p : UnresolvedPackage). Some p) xs) (sym none) ∙ c.loop-package.invariant
