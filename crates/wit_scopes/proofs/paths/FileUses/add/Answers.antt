use Rattle.std.proofs.Common.{rules}
use Rattle.std.proofs.lemmas.Map.Text.{hash_map_updates_str}
use Rattle.indexmap.specs.IndexMap.{get_by}
use Rattle.std.specs.Prelude.{bytes_eq}
use Rattle.wit_syntax.specs.AstView as view
use Rattle.wit_scopes.proofs.Uses.{known_more}
use Rattle.wit_scopes.proofs.paths.FileUses.add.Goals as goal

pub returns-in_ok-insert-clause-known : goal.returns-in_ok-insert-clause-known
returns-in_ok-insert-clause-known c =
    known_more (λ n. get_by (λ k. bytes_eq n k.now) c.args.self.now.known) (λ n. get_by (λ k. bytes_eq n k.now) c.insert.new.self) (view.package_name c.args.self.now.me) (view.toplevel_use c.args.item.now) c.known_name.result.name.now c.path_by_itself.result
    (search rules) (search rules) (search rules)
    (hash_map_updates_str c.known_name.result.name.now c.args.self.now.known c.insert.new.self _ c.in_ok-insert.ensures.updates)
