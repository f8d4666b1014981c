use Rattle.std.proofs.Common.{◌≡◌, None, Some, sym, ap, ◌∙◌}
use Rattle.std.proofs.lemmas.Bool.{eqb-true, eqb-false}
use Rattle.std.proofs.lemmas.Option.{same_Some}
use Rattle.wit_types.specs.contracts.«package».PackageNamePartialEq.TheImpl.{eq-value as package_eq}
use Rattle.wit_package_order.proofs.Naming.{lookup_names}
use Rattle.wit_package_order.proofs.order.is_at.Goals as goal

pub returns-in-Some-clause-found : goal.returns-in-Some-clause-found
returns-in-Some-clause-found c e = lookup_names (package_eq.it c.args.name.now) c.args.places.now.entries ∙ sym c.in-Some.ensures.value ∙ ap Some (eqb-true c.in-Some.found.now c.args.place e)

pub returns-in-Some-clause-other : goal.returns-in-Some-clause-other
returns-in-Some-clause-other c e is =
    let same : Some c.in-Some.found.now ≡ Some c.args.place = c.in-Some.ensures.value ∙ sym (lookup_names (package_eq.it c.args.name.now) c.args.places.now.entries) ∙ is in
    eqb-false c.in-Some.found.now c.args.place e (same_Some c.in-Some.found.now c.args.place same)

pub returns-in-None-clause-other : goal.returns-in-None-clause-other
returns-in-None-clause-other c e is =
    let none : None ≡ Some c.args.place = c.in-None.ensures.value ∙ sym (lookup_names (package_eq.it c.args.name.now) c.args.places.now.entries) ∙ is in
    absurd cc
