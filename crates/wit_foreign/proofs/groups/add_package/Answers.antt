use Rattle.std.proofs.Common.{◌∙◌, ◌++◌, ◌∷◌, [], Bool, cond, map, ap}
use Rattle.std.proofs.lemmas.List.{map_push}
use Rattle.wit_foreign.specs.GroupView.{path_text}
use Rattle.wit_foreign.proofs.PackagePaths.{package_eq}
use Rattle.wit_foreign.proofs.Grouping.{package_new}
use Rattle.wit_foreign.proofs.groups.add_package.Goals as goal

pub returns : goal.returns
unfolding package_eq
returns c =
    let old = c.args.packages.now.keys in
    ap (map path_text) (c.in_ok-insert.ensures.keys ∙ ap (λ (b : Bool). cond b old (old ++ c.args.path ∷ [])) (package_new c.args.path old c.requires)) ∙ map_push path_text old c.args.path
