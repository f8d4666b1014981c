use Rattle.std.proofs.Common.{◌∙◌, ◌++◌, ◌∷◌, [], List, ℕ, ap}
use Rattle.std.proofs.lemmas.List.{map_push}
use Rattle.indexmap.proofs.CallerLemmas.{insert_entry-new}
use Rattle.std.specs.Map.{lookup}
use Rattle.wit_arena.proofs.Tables.{keyed_absent}
use Rattle.wit_package_types.specs.Foreign.{ForeignName, path_name, foreign_entries}
use Rattle.wit_package_types.specs.declared.foreign.TypePath.{TypePath}
use Rattle.wit_package_types.proofs.Paths.{path_eq, path_eq-Decides}
use Rattle.wit_package_types.proofs.foreign.ForeignTypes.add.Goals as goal

pub returns-clause-ok : goal.returns-clause-ok
unfolding path_eq
returns-clause-ok c =
    let inserted = rw c.unwrap.ensures at c.insert.ensures.entries in
    let absent = keyed_absent path_name (path_name c.args.path) (path_eq c.args.path) (path_eq-Decides c.args.path) c.args.self.now c.self.inside.inner.entries c.self.view_is c.requires in
    let none = ap (λ (es : List (TypePath × ℕ)). lookup (path_eq c.args.path) es) c.in_ok-reserve.ensures.entries ∙ absent in
    ap foreign_entries (inserted ∙ insert_entry-new path_eq c.reserve.new.self c.args.path c.index.result none)
    ∙ map_push (λ (e : TypePath × ℕ). (path_name e.0, e.1)) c.reserve.new.self.entries (c.args.path, c.index.result)
    ∙ ap (λ (es : List (TypePath × ℕ)). foreign_entries es ++ (path_name c.args.path, c.index.result) ∷ []) c.in_ok-reserve.ensures.entries
    ∙ ap (λ (es : List (ForeignName × ℕ)). es ++ (path_name c.args.path, c.index.result) ∷ []) c.self.view_is
    ∙ ap (λ (i : ℕ). c.args.self.now ++ (path_name c.args.path, i) ∷ []) c.index.ensures
