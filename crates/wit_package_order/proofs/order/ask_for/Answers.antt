use Rattle.std.proofs.Common.{refl, sym, ap, ◌∙◌}
use Rattle.std.specs.Prelude.{slice_get}
use Rattle.wit_types.specs.contracts.«package».PackageNamePartialEq.TheImpl.{eq-value as package_eq}
use Rattle.wit_package_order.specs.Packages.{asked}
use Rattle.wit_package_order.specs.Names.{names}
use Rattle.wit_package_order.proofs.Rows.{left_here, left_next, later_asked, none_asked}
use Rattle.wit_package_order.proofs.order.ask_for.Goals as goal

pub loop-place-init : goal.loop-place-init
loop-place-init c =
    rw (c.into_iter-place-iterator.ensures.into_iter_gives, c.enumerate-place-items.ensures.count, c.enumerate-place-items.ensures.source, c.keys.ensures.rest) (record { left = refl; later = c.requires.asked })

pub returns-then-is_at : goal.returns-then-is_at
returns-then-is_at c =
    let s = c.in-Some.ensures.steps in
    record {
      place = c.in-Some.place;
      name = c.in-Some.name.now;
      asked_for = ap (slice_get (asked c.args.«package».now)) s.1 ∙ left_here (asked c.args.«package».now) c.loop-place.place-iterator.count c.in-Some.name.now c.next.new.self.iter (sym c.loop-place.invariant.left ∙ s.0);
      found = c.is_at.ensures.found c.if-is_at.true;
      stands = ap (λ (xs : _). slice_get xs c.in-Some.place) (sym c.as_slice-spans.ensures.value) ∙ c.span_at.ensures;
    }

pub loop-place-preserved : goal.loop-place-preserved
loop-place-preserved c =
    let s = c.in-Some.ensures.steps in
    record {
      left = left_next (asked c.args.«package».now) c.loop-place.place-iterator.count c.next.new.self.count c.in-Some.name.now c.next.new.self.iter s.2 (sym c.loop-place.invariant.left ∙ s.0);
      later = later_asked package_eq.it (names c.args.places.now.entries) c.in-Some.name.now c.loop-place.place-iterator.iter c.next.new.self.iter c.args.to s.0 (c.is_at.ensures.other c.if-is_at.false) c.loop-place.invariant.later;
    }

pub unreachable-requires : goal.unreachable-requires
unreachable-requires c = none_asked package_eq.it (names c.args.places.now.entries) c.loop-place.place-iterator.iter c.args.to c.in-None.ensures.steps.0.0 c.loop-place.invariant.later
