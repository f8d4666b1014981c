use Rattle.std.proofs.Common.{◌≡◌, ℕ, ◌+◌, ◌<◌, List, Some, length, arith, ap, ◌∙◌}
use Rattle.std.proofs.lemmas.Option.{slice_get_within}
use Rattle.std.specs.Prelude.{slice_get}
use Rattle.wit_types.specs.declared.«package».Package.{Package}
use Rattle.wit_types.specs.declared.«package».UnresolvedPackage.{UnresolvedPackage}
use Rattle.wit_types.specs.contracts.«package».PackageNamePartialEq.TheImpl.{eq-value as package_eq}
use Rattle.wit_package_order.specs.Packages.{AreAt}
use Rattle.wit_package_order.specs.Rows.{IsOrdered}
use Rattle.wit_groups.proofs.Pushing.{so_many, sorted_size, sorted_has}
use Rattle.wit_groups.proofs.push.push_together.Goals as goal

pub push_all-requires : goal.push_all-requires
push_all-requires c p h = c.requires.whole p (sorted_has c.args.packages.items c.in_ok-order.order.items c.in_ok-sorted.sorted.items p (rw c.as_slice-2.ensures.value at c.in_ok-sorted.ensures) h)

pub overflow_sub-len : goal.overflow_sub-len
overflow_sub-len c =
    let are : AreAt c.args.packages.items c.in_ok-order.order.items c.in_ok-sorted.sorted.items = rw c.as_slice-2.ensures.value at c.in_ok-sorted.ensures in
    let size = sorted_size c.args.packages.items c.in_ok-order.order.items c.in_ok-sorted.sorted.items are in
    let grown = so_many package_eq.it c.args.features.now c.args.graph.now c.push_all.new.graph c.in_ok-sorted.sorted.items c.in_ok-push_all.ensures.ok in
    let count : c.len.result ≡ length c.in_ok-order.order.items = c.len.ensures ∙ c.in_ok-order.order.ok.0 in
    let all : c.len-2.result ≡ length c.push_all.new.graph.tables.packages = c.len-2.ensures ∙ ap (λ (ps : List Package). length ps) c.packages.ensures in
    omega (arith, size, grown, count, all)

pub returns-clause-ok : goal.returns-clause-ok
returns-clause-ok c =
    let order : List ℕ = c.in_ok-order.order.items in
    let sorted : List UnresolvedPackage = c.in_ok-sorted.sorted.items in
    let ordered : IsOrdered package_eq.it c.args.packages.items order = rw c.as_slice.ensures.value at c.in_ok-order.ensures.ok in
    let are : AreAt c.args.packages.items order sorted = rw c.as_slice-2.ensures.value at c.in_ok-sorted.ensures in
    let first : slice_get order c.place_of_first-place.result ≡ Some 0 = rw c.as_slice-3.ensures.value at c.place_of_first-place.ensures in
    let size = sorted_size c.args.packages.items order sorted are in
    let within : c.place_of_first-place.result < length order = slice_get_within order c.place_of_first-place.result 0 first in
    let grown = so_many package_eq.it c.args.features.now c.args.graph.now c.push_all.new.graph sorted c.in_ok-push_all.ensures.ok in
    let count : c.len.result ≡ length order = c.len.ensures ∙ c.in_ok-order.order.ok.0 in
    let all : c.len-2.result ≡ length c.push_all.new.graph.tables.packages = c.len-2.ensures ∙ ap (λ (ps : List Package). length ps) c.packages.ensures in
    let id_is : c.from_index.result ≡ length c.args.graph.now.tables.packages + c.place_of_first-place.result = omega (arith, size, within, grown, count, all, c.from_index.ensures) in
    record {
      distinct = ordered.distinct;
      no_circle = ordered.no_circle;
      order = order;
      is_order = ordered.is_order;
      sorted = sorted;
      are_sorted = are;
      pushed = c.in_ok-push_all.ensures.ok;
      place = c.place_of_first-place.result;
      first = first;
      id_is = id_is;
    }
