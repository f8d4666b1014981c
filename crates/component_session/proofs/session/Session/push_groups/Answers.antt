use Rattle.std.proofs.Common.{◌∷◌, inl, inr, refl}
use Rattle.wit_types.specs.contracts.«package».PackageNamePartialEq.TheImpl.{eq-value as package_eq}
use Rattle.component_session.specs.Coming.{files_of_groups}
use Rattle.component_session.proofs.Grouped.{each_read, each_well_formed, pushed, cause, refused, texts_kept}
use Rattle.component_session.proofs.Keeping.{kept_after}
use Rattle.component_session.proofs.session.Session.push_groups.Goals as goal

pub push_groups-requires-clause-main : goal.push_groups-requires-clause-main
push_groups-requires-clause-main c = λ p own.
    let gs = c.args.main ∷ c.args.deps.items in
    each_well_formed c.law_parsed_packages_are_well_formed.ensures gs (each_read c.args.main c.args.deps.items c.requires.main c.requires.deps) c.args.main (inl refl) p own

pub push_groups-requires-clause-deps : goal.push_groups-requires-clause-deps
push_groups-requires-clause-deps c = λ g has p own.
    let gs = c.args.main ∷ c.args.deps.items in
    each_well_formed c.law_parsed_packages_are_well_formed.ensures gs (each_read c.args.main c.args.deps.items c.requires.main c.requires.deps) g (inr has) p own

pub invariant_of-self : goal.invariant_of-self
invariant_of-self c =
    let gs = c.args.main ∷ c.args.deps.items in
    let all = each_read c.args.main c.args.deps.items c.requires.main c.requires.deps in
    let r = c.push_groups.result in
    kept_after package_eq.it _ _ _ _ (files_of_groups gs) c.self.invariant r (pushed package_eq.it _ _ gs all r c.push_groups.ensures.ok) c.push_groups.ensures.more (refused package_eq.it _ _ gs all r c.push_groups.ensures.err)

pub returns-clause-ok : goal.returns-clause-ok
returns-clause-ok c =
    rw (← c.self.view_is)
    (pushed package_eq.it _ _ (c.args.main ∷ c.args.deps.items) (each_read c.args.main c.args.deps.items c.requires.main c.requires.deps) c.push_groups.result c.push_groups.ensures.ok)

pub returns-clause-cause : goal.returns-clause-cause
returns-clause-cause c =
    rw (← c.self.view_is)
    (cause package_eq.it c.self.inside.resolve c.self.inside.resolve (c.args.main ∷ c.args.deps.items) (each_read c.args.main c.args.deps.items c.requires.main c.requires.deps) c.push_groups.result c.push_groups.ensures.cause)

pub returns-clause-err : goal.returns-clause-err
returns-clause-err c =
    rw (← c.self.view_is)
    (refused package_eq.it _ _ (c.args.main ∷ c.args.deps.items) (each_read c.args.main c.args.deps.items c.requires.main c.requires.deps) c.push_groups.result c.push_groups.ensures.err)

pub returns-clause-texts : goal.returns-clause-texts
returns-clause-texts c = rw (← c.self.view_is) (texts_kept _ _ (c.args.main ∷ c.args.deps.items) c.push_groups.result c.push_groups.ensures.texts)
