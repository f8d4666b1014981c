use Rattle.std.proofs.Common.{List, ◌++◌, refl, sym, ap, ◌∙◌}
use Rattle.std.proofs.lemmas.List.{append-nil}
use Rattle.wit_types.specs.declared.«package».PackageName.{PackageName}
use Rattle.wit_types.specs.contracts.«package».PackageNamePartialEq.TheImpl.{eq-value as package_eq}
use Rattle.wit_package_order.specs.Names.{names}
use Rattle.wit_package_order.specs.Rows.{places_in}
use Rattle.wit_package_order.proofs.Naming.{lookup_names}
use Rattle.wit_package_order.proofs.Rows.{one_found, none_found}
use Rattle.wit_package_order.proofs.order.row_of.Goals as goal

pub loop-name-init : goal.loop-name-init
loop-name-init c = rw (c.into_iter-name-iterator.ensures.into_iter_gives, c.keys-name-items.ensures.rest, c.new-row.ensures.items) refl

pub loop-name-preserved-in-Continue-1 : goal.loop-name-preserved-in-Continue-1
loop-name-preserved-in-Continue-1 c =
    one_found package_eq.it (names c.args.places.now.entries) c.loop-name.name-iterator c.next.new.self c.in-Some.name.now c.loop-name.row.items c.push.new.self.items c.in-Some-get.place.now
    c.in-Some.ensures.steps (c.in-Some-get.ensures.value ∙ sym (lookup_names (package_eq.it c.in-Some.name.now) c.args.places.now.entries)) c.in_ok-push.ensures.items
    ∙ c.loop-name.invariant

pub loop-name-preserved : goal.loop-name-preserved
loop-name-preserved c =
    none_found package_eq.it (names c.args.places.now.entries) c.loop-name.name-iterator c.next.new.self c.in-Some.name.now c.loop-name.row.items
    c.in-Some.ensures.steps (c.in_default.ensures.value ∙ sym (lookup_names (package_eq.it c.in-Some.name.now) c.args.places.now.entries))
    ∙ c.loop-name.invariant

pub returns : goal.returns
returns c =
    sym (append-nil c.loop-name.row.items) ∙ ap (λ (ns : List PackageName). c.loop-name.row.items ++ places_in package_eq.it (names c.args.places.now.entries) ns) (sym c.in-None.ensures.steps.0)
    ∙ c.loop-name.invariant
