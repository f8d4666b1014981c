use Rattle.std.proofs.Common.{◌≡◌, ◌∙◌, ap, None}
use Rattle.std.proofs.lemmas.List.{map_push}
use Rattle.std.specs.Map.{lookup}
use Rattle.indexmap.proofs.CallerLemmas.{insert_entry-new}
use Rattle.wit_lookups.specs.Passed.wit_syntax-AstView as view
use Rattle.wit_package_types.proofs.Passed.wit_arena-Lists.{has_map}
use Rattle.wit_foreign.specs.Deps.{package_entries}
use Rattle.wit_foreign.proofs.Depending.{not_found}
use Rattle.wit_foreign.proofs.PackageNames.{name_eq, same_names}
use Rattle.wit_foreign.proofs.deps.add_package.Goals as goal
use Rattle.std.proofs.Common.{sym}

pub returns : goal.returns
unfolding name_eq
returns c =
    let old = c.args.deps.now.entries in
    let absent : lookup (name_eq c.in_ok-name.name) old ≡ None =
    not_found (name_eq c.in_ok-name.name) old
    (λ e has t. (let h = c.requires.new (e.0, e.1.entries) (has_map (λ d. (d.0, d.1.entries)) old e has) in h.2 (sym (same_names (view.package_name c.args.first.now.«package») h.0 c.in_ok-name.name e.0 c.in_ok-name.ensures h.1 t)))) in (
      (c.in_ok-name.name, c.in_ok-found.found.entries),
      record { name = c.in_ok-name.ensures; items_are = c.in_ok-found.ensures },
      ap package_entries (c.in_ok-insert.ensures.entries ∙ insert_entry-new name_eq c.args.deps.now c.in_ok-name.name c.in_ok-found.found absent) ∙ map_push (λ d. (d.0, d.1.entries)) old (c.in_ok-name.name, c.in_ok-found.found),
    )
