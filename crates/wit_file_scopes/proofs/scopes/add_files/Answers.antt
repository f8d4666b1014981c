use Rattle.std.proofs.Common.{◌≡◌, ◌++◌, ◌+◌, ℕ, length, List, map, take, sym, ap, ◌∙◌, subst}
use Rattle.std.proofs.Math.Seq.{take-length}
use Rattle.std.proofs.lemmas.List.{length_push}
use Rattle.std.proofs.lemmas.Iterator.Adapters.{YieldsList-from_vec}
use Rattle.std.proofs.lemmas.Iterator.Consumers.{YieldsList-turn, YieldsList-end}
use Rattle.wit_syntax.specs.Ast.{FileTree}
use Rattle.wit_syntax.specs.declared.ast.File.{File}
use Rattle.wit_syntax.specs.AstView as view
use Rattle.wit_scopes.specs.Scopes.{ItemScope, items_scopes, package_scopes}
use Rattle.wit_scopes.specs.View.{ArePackageScopes, IsEmpty, item_scope}
use Rattle.wit_file_scopes.proofs.Files.{package_more, nothing_yet}
use Rattle.wit_file_scopes.proofs.scopes.add_files.Goals as goal

pub loop-file-preserved : goal.loop-file-preserved
loop-file-preserved c =
    let files = c.args.files.items in
    let yields = YieldsList-from_vec {s = c.into_iter-file-iterator.result} files c.into_iter-file-iterator.ensures.into_iter_gives.0 (c.into_iter-file-iterator.ensures.into_iter_gives.1 ∙ c.args.files.ok.0) in
    let turn = YieldsList-turn yields c.loop-file.yielded c.loop-file.file-iterator c.loop-file.yielded_by c.next.result c.next.new.self c.in-Some.file c.in-Some.is c.next.ensures.steps in
    let me = view.package_name c.args.me in
    let n = length c.loop-file.yielded in
    let items = (view.file c.in-Some.file).items in
    let added : map item_scope c.add_file.new.found.items.items ≡ map item_scope c.loop-file.found.items.items ++ items_scopes me n items =
    c.in_ok-add_file.ensures.items ∙ ap (λ (m : ℕ). map item_scope c.loop-file.found.items.items ++ items_scopes me m items) c.loop-file.invariant.0 in (
      ap (λ (m : ℕ). m + 1) c.loop-file.invariant.0 ∙ sym (length_push c.loop-file.yielded c.in-Some.file),
      subst (λ (m : ℕ). ArePackageScopes me (map view.file (take m files)) c.add_file.new.found) (sym (length_push c.loop-file.yielded c.in-Some.file))
          (package_more me files n c.in-Some.file turn.0 turn.1 c.loop-file.found c.add_file.new.found c.loop-file.invariant.1 c.in_ok-add_file.ensures.docs c.in_ok-add_file.ensures.uses added),
    )

pub returns : goal.returns
returns c =
    let files = c.args.files.items in
    let yields = YieldsList-from_vec {s = c.into_iter-file-iterator.result} files c.into_iter-file-iterator.ensures.into_iter_gives.0 (c.into_iter-file-iterator.ensures.into_iter_gives.1 ∙ c.args.files.ok.0) in
    let over = YieldsList-end yields c.loop-file.yielded c.loop-file.file-iterator c.loop-file.yielded_by c.next.result c.next.new.self c.in-None.is c.next.ensures.steps in
    let all : take (length c.loop-file.yielded) files ≡ files = rw over.1 (take-length files) in
    subst (λ (fs : List File). ArePackageScopes (view.package_name c.args.me) (map view.file fs) c.loop-file.found) all c.loop-file.invariant.1
