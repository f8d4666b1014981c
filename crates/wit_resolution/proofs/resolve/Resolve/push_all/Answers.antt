use Rattle.std.proofs.Common.{◌≡◌, List, subst}
use Rattle.wit_order.specs.Order.{Has}
use Rattle.wit_types.specs.declared.«package».UnresolvedPackage.{UnresolvedPackage}
use Rattle.wit_types.specs.contracts.«package».PackageNamePartialEq.TheImpl.{eq-value as package_eq}
use Rattle.wit_scopes.proofs.Outcomes.{if_err}
use Rattle.wit_resolve_errors.specs.Passed.wit_groups-Pushed.{IsTogetherCause}
use Rattle.wit_resolve_errors.specs.Passed.wit_groups-declared-fault-GroupFault.{GroupFault}
use Rattle.wit_resolve_errors.specs.Errors.{of_group}
use Rattle.wit_resolution.specs.Pushes.{Resolved, IsGroupsError, AreGroupTextsKept}
use Rattle.wit_resolve_errors.specs.declared.error.ResolveErrorKind.{ResolveErrorKind}
use Rattle.wit_resolution.proofs.Moved.{behind_well_formed, some_behind}
use Rattle.wit_resolution.proofs.Refusing.{together_error, groups_kept}
use Rattle.wit_resolution.proofs.resolve.Resolve.push_all.Goals as goal

pub push_packages-requires-clause-some : goal.push_packages-requires-clause-some
push_packages-requires-clause-some c = rw c.in_ok-packages.ensures.ok (some_behind c.self.inside.source_map c.args.groups.items c.requires.some)

pub push_packages-requires-clause-whole : goal.push_packages-requires-clause-whole
push_packages-requires-clause-whole c p has =
    behind_well_formed c.law_moved_packages_are_well_formed.ensures c.self.inside.source_map c.args.groups.items c.requires.whole p (subst (λ (ps : List UnresolvedPackage). Has ps p) c.in_ok-packages.ensures.ok has)

pub returns-clause-cause : goal.returns-clause-cause
returns-clause-cause c =
    let old : Resolved = record { features = c.self.inside.features; texts = c.self.inside.source_map; graph = c.self.inside.graph } in
    let packages = c.in_ok-packages.packages.items in
    rw (← c.self.view_is)
    (if_err c.push_packages.result (λ (kind : ResolveErrorKind). (fault : GroupFault) × IsTogetherCause package_eq.it old.features old.graph packages fault × (kind ≡ of_group fault))
    (IsGroupsError package_eq.it old c.args.groups.items) (λ kind h. together_error package_eq.it old c.args.groups.items packages kind c.in_ok-packages.ensures.ok h) c.push_packages.ensures.cause)

pub returns-clause-texts : goal.returns-clause-texts
returns-clause-texts c =
    let old : Resolved = record { features = c.self.inside.features; texts = c.self.inside.source_map; graph = c.self.inside.graph } in
    let packages = c.in_ok-packages.packages.items in
    rw (← c.self.view_is)
    (if_err c.push_packages.result (λ (kind : ResolveErrorKind). (fault : GroupFault) × IsTogetherCause package_eq.it old.features old.graph packages fault × (kind ≡ of_group fault))
    (λ (kind : ResolveErrorKind). AreGroupTextsKept old c.args.groups.items kind _) (λ kind h. groups_kept package_eq.it old c.args.groups.items packages kind _ c.in_ok-packages.ensures.texts h) c.push_packages.ensures.cause)
