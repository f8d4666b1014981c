use Rattle.std.proofs.Common.{arith, is_some, sym, ap, ◌∙◌, refl, Some}
use Rattle.std.proofs.lemmas.Option.{slice_get-get_or}
use Rattle.std.specs.Map.{lookup}
use Rattle.wit_types.specs.contracts.«package».PackageNamePartialEq.TheImpl.{eq-value as package_eq}
use Rattle.wit_package_order.proofs.Naming.{lookup_names, next_named, next_new}
use Rattle.wit_package_order.proofs.names.places.Goals as goal

pub loop-place-init : goal.loop-place-init
loop-place-init c = record { are = rw c.new-found.ensures.empty refl; new = λ k p less there. absurd (omega (arith, less)) }

pub loop-place-preserved : goal.loop-place-preserved
loop-place-preserved c =
    let fresh = sym c.contains_key.ensures ∙ c.if-contains_key.false in
    record {
      are = next_named package_eq.it c.loop-place.found.entries c.insert.new.self.entries _ c.args.packages.now c.loop-place.place c.index-packages-place.result c.loop-place-test.true c.index-packages-place.is refl fresh c.in_ok-insert.ensures.entries c.loop-place.invariant.are;
      new =
          next_new package_eq.it c.args.packages.now c.loop-place.place c.index-packages-place.result c.loop-place-test.true c.index-packages-place.is
          (ap is_some (ap (lookup (package_eq.it c.index-packages-place.result.name)) (sym c.loop-place.invariant.are) ∙ lookup_names (package_eq.it c.index-packages-place.result.name) c.loop-place.found.entries) ∙ fresh)
          c.loop-place.invariant.new;
    }

pub returns-then-contains_key-clause-cause : goal.returns-then-contains_key-clause-cause
returns-then-contains_key-clause-cause c = record {
  place = c.loop-place.place;
  again = c.index-packages-place.result;
  there = slice_get-get_or c.args.packages.now c.loop-place.place c.index-packages-place.result c.loop-place-test.true ∙ ap Some (sym c.index-packages-place.is);
  before = ap is_some (ap (lookup (package_eq.it c.index-packages-place.result.name)) (sym c.loop-place.invariant.are) ∙ lookup_names (package_eq.it c.index-packages-place.result.name) c.loop-place.found.entries) ∙ sym c.contains_key.ensures ∙ c.if-contains_key.true;
  stands = refl;
}
