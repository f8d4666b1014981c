use Rattle.std.proofs.Common.{drop}
use Rattle.wit_well_formed.specs.Passed.wit_package-GroupView.{texts}
use Rattle.wit_resolution.proofs.Coming.{Coming}
use Rattle.wit_resolution.proofs.texts.groups_of_texts.Given as goal

abbrev pub invariant-loop-path : goal.invariant-loop-path
invariant-loop-path l = Coming (texts l.main) l.deps (drop l.path-index l.deps) l.groups.items
