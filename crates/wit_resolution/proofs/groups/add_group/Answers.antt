use Rattle.std.proofs.Common.{◌≡◌, ◌∷◌, ◌++◌, [], List, ℕ, inr, subst, ap, ◌∙◌}
use Rattle.wit_words.specs.Sources.{total}
use Rattle.wit_scopes.proofs.Outcomes.{if_err}
use Rattle.wit_types.specs.declared.«package».UnresolvedPackage.{UnresolvedPackage}
use Rattle.wit_resolve_errors.specs.Errors.{IsSizeError}
use Rattle.wit_resolution.specs.Groups.{packages_of, Pass}
use Rattle.wit_resolution.proofs.Taking.{OnePassesAt, size_weaker}
use Rattle.wit_resolution.proofs.groups.add_group.Goals as goal

pub returns-clause-cause : goal.returns-clause-cause
returns-clause-cause c =
    let own : c.append.new.self.items ≡ packages_of c.args.group =
    c.in_ok-append.ensures.items ∙ ap (λ (ps : List UnresolvedPackage). ps ++ c.args.group.nested.items) (c.in_ok-push.ensures.items ∙ ap (λ (ps : List UnresolvedPackage). ps ++ c.args.group.main ∷ []) c.new-own.ensures.items) in
    let here : OnePassesAt c.in_ok-offset.offset c.append.new.self.items → OnePassesAt (total c.args.source_map.now) (packages_of c.args.group) =
    λ h. subst (λ (n : ℕ). OnePassesAt n (packages_of c.args.group)) c.in_ok-offset.ensures.offset (subst (λ (ps : List UnresolvedPackage). OnePassesAt c.in_ok-offset.offset ps) own h) in
    if_err c.add_packages.result (IsSizeError (OnePassesAt c.in_ok-offset.offset c.append.new.self.items)) (IsSizeError (Pass c.args.source_map.now c.args.group))
    (λ kind h. size_weaker (OnePassesAt c.in_ok-offset.offset c.append.new.self.items) (Pass c.args.source_map.now c.args.group) (λ passes. inr (here passes)) kind h) c.add_packages.ensures.cause
