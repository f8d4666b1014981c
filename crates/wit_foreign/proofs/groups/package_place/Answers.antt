use Rattle.wit_foreign.proofs.PackagePaths.{package_eq}
use Rattle.wit_foreign.proofs.Grouping.{place_found, place_none}
use Rattle.wit_foreign.proofs.groups.package_place.Goals as goal

pub returns-clause-some : goal.returns-clause-some
unfolding package_eq
returns-clause-some c = place_found c.args.path.now c.args.packages.now.keys c.get_index_of.result c.get_index_of.ensures.index

pub returns-clause-none : goal.returns-clause-none
unfolding package_eq
returns-clause-none c = place_none c.args.path.now c.args.packages.now.keys c.get_index_of.result c.get_index_of.ensures.found
