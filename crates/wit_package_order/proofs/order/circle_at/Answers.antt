use Rattle.std.proofs.Common.{List, ℕ, subst}
use Rattle.wit_types.specs.declared.«package».PackageName.{PackageName}
use Rattle.wit_types.specs.contracts.«package».PackageNamePartialEq.TheImpl.{eq-value as package_eq}
use Rattle.wit_package_order.specs.Rows.{AreRows}
use Rattle.wit_package_order.proofs.Rows.{circle_within, circle_asked, circle_closes, has_there}
use Rattle.wit_package_order.proofs.order.circle_at.Goals as goal

pub row_at-row-requires : goal.row_at-row-requires
row_at-row-requires c = (circle_within package_eq.it c.args.packages.now c.args.rows.now (subst (λ (es : List (PackageName × ℕ)). AreRows package_eq.it es c.args.packages.now c.args.rows.now) c.requires.named c.requires.rows) c.args.circle.from c.args.circle.need c.requires.circle).0

pub package_at-requires : goal.package_at-requires
package_at-requires c = (circle_within package_eq.it c.args.packages.now c.args.rows.now (subst (λ (es : List (PackageName × ℕ)). AreRows package_eq.it es c.args.packages.now c.args.rows.now) c.requires.named c.requires.rows) c.args.circle.from c.args.circle.need c.requires.circle).1

pub ask_for-requires-clause-spans : goal.ask_for-requires-clause-spans
ask_for-requires-clause-spans c = c.requires.spans c.package_at.result.now (has_there c.args.packages.now c.args.circle.from c.package_at.result.now c.package_at.ensures)

pub ask_for-requires-clause-asked : goal.ask_for-requires-clause-asked
ask_for-requires-clause-asked c =
    rw (c.requires.named, c.row_at-row.ensures)
    (circle_asked package_eq.it c.args.packages.now c.args.rows.now (subst (λ (es : List (PackageName × ℕ)). AreRows package_eq.it es c.args.packages.now c.args.rows.now) c.requires.named c.requires.rows) c.args.circle.from c.args.circle.need c.requires.circle c.package_at.result.now c.package_at.ensures)

pub returns : goal.returns
returns c =
    circle_closes package_eq.it c.args.packages.now c.args.rows.now (subst (λ (es : List (PackageName × ℕ)). AreRows package_eq.it es c.args.packages.now c.args.rows.now) c.requires.named c.requires.rows) c.args.circle.from c.args.circle.need c.requires.circle c.package_at.result.now c.package_at.ensures c.ask_for.result
    (rw (c.requires.named, c.row_at-row.ensures) at c.ask_for.ensures)
