use Rattle.std.proofs.Common.{◌≡◌, ◌∷◌, ◌++◌, [], List, inl, inr, subst, ap, ◌∙◌}
use Rattle.wit_order.specs.Order.{Has}
use Rattle.wit_well_formed.specs.Passed.wit_graph_parts-Own.{IsWellFormed}
use Rattle.wit_well_formed.specs.Passed.wit_package-declared-group-UnresolvedPackageGroup.{UnresolvedPackageGroup}
use Rattle.wit_resolution.specs.Groups.{packages_of}
use Rattle.wit_resolution.proofs.resolve.Resolve.push_groups.Goals as goal

pub push_all-requires-clause-whole : goal.push_all-requires-clause-whole
push_all-requires-clause-whole c g has p own =
    let groups : c.append.new.self.items ≡ c.args.main ∷ c.args.deps.items =
    c.in_ok-append.ensures.items ∙ ap (λ (gs : List UnresolvedPackageGroup). gs ++ c.args.deps.items) (c.in_ok-push.ensures.items ∙ ap (λ (gs : List UnresolvedPackageGroup). gs ++ c.args.main ∷ []) c.new-groups.ensures.items) in
    elim (subst (λ (gs : List UnresolvedPackageGroup). Has gs g) groups has) as (λ _. IsWellFormed p) [
      | inl here ↦ c.requires.main p (subst (λ (x : UnresolvedPackageGroup). Has (packages_of x) p) here own)
      | inr later ↦ c.requires.deps g later p own
    ]
