use Rattle.std.proofs.Common.{◌∙◌, ◌+◌, List, take, sym, subst, arith}
use Rattle.std.proofs.lemmas.List.{length-map}
use Rattle.wit_package_types.specs.Passed.wit_arena-Meaning.{Has}
use Rattle.wit_foreign.specs.declared.needs.Need.{Need}
use Rattle.wit_foreign.specs.View as seen
use Rattle.wit_foreign.specs.GroupView.{row, rows}
use Rattle.wit_foreign.specs.Groups.{package_key}
use Rattle.wit_foreign.specs.Deps.{PackageEntry, package_entries, IsPackageDep, AreEntries}
use Rattle.wit_foreign.proofs.Gathering.{next_at}
use Rattle.wit_foreign.proofs.Depending.{next_read, earlier_entry, row_at}
use Rattle.wit_foreign.proofs.deps.packages_in.Goals as goal

pub add_package-requires-clause-new : goal.add_package-requires-clause-new
add_package-requires-clause-new c = λ e has. (let h = earlier_entry (IsPackageDep c.args.items.now) c.args.firsts.now c.loop-place.place c.index-firsts-place.result c.loop-place-test.true c.index-firsts-place.is (rows c.args.rows.now) (package_entries c.loop-place.deps.entries) c.loop-place.invariant package_key c.requires.apart (length-map c.args.rows.now row ∙ c.requires.rows) e has in let is = h.2 in ((h.0).«package», is.name, h.3))

pub add_package-requires-clause-version : goal.add_package-requires-clause-version
add_package-requires-clause-version c = c.requires.versions _ (c.loop-place.place, next_at c.args.firsts.now c.loop-place.place c.index-firsts-place.result c.loop-place-test.true c.index-firsts-place.is)

pub add_package-requires-clause-there : goal.add_package-requires-clause-there
add_package-requires-clause-there c = λ n has.
    c.requires.there (row c.index-rows-place.result) (c.loop-place.place, (row_at c.args.rows.now c.loop-place.place c.index-rows-place.result (let l = c.loop-place-test.true in let e = c.requires.rows in omega (arith, l, e)) c.index-rows-place.is)) n (subst (λ (xs : List Need). Has (seen.needs xs) n) c.as_slice.ensures.value has)

pub add_package-requires-clause-gates : goal.add_package-requires-clause-gates
add_package-requires-clause-gates c = λ n has.
    c.requires.gates (row c.index-rows-place.result) (c.loop-place.place, (row_at c.args.rows.now c.loop-place.place c.index-rows-place.result (let l = c.loop-place-test.true in let e = c.requires.rows in omega (arith, l, e)) c.index-rows-place.is)) n (subst (λ (xs : List Need). Has (seen.needs xs) n) c.as_slice.ensures.value has)

pub loop-place-preserved : goal.loop-place-preserved
loop-place-preserved c =
    let added = c.in_ok-add_package.ensures in
    subst (λ (es : List PackageEntry). AreEntries (IsPackageDep c.args.items.now) (seen.needs (take (c.loop-place.place + 1) c.args.firsts.now)) (rows c.args.rows.now) es) (sym added.2)
    (next_read (IsPackageDep c.args.items.now) c.args.firsts.now c.loop-place.place c.index-firsts-place.result c.loop-place-test.true c.index-firsts-place.is (rows c.args.rows.now) (package_entries c.loop-place.deps.entries) c.loop-place.invariant c.index-rows-place.result c.as_slice.result.now added.0 c.as_slice.ensures.value (row_at c.args.rows.now c.loop-place.place c.index-rows-place.result (let l = c.loop-place-test.true in let e = c.requires.rows in omega (arith, l, e)) c.index-rows-place.is)
    added.1)
