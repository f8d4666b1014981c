use Rattle.std.proofs.Common.{◌≡◌, ◌+◌, ◌∷◌, ◌++◌, [], ℕ, List, length, take, add-one, refl, sym, subst, ap, ◌∙◌, rules}
use Rattle.std.proofs.Math.Seq.{take-suc, take-length}
use Rattle.std.proofs.lemmas.List.{length_push, map_push}
use Rattle.std.proofs.lemmas.Option.{slice_get-map}
use Rattle.std.proofs.lemmas.Iterator.Adapters.{YieldsList-from_vec}
use Rattle.std.proofs.lemmas.Iterator.Consumers.{YieldsList-turn, YieldsList-end}
use Rattle.std.specs.Prelude.{option_map}
use Rattle.wit_syntax.specs.Ast.{FileTree}
use Rattle.wit_syntax.specs.declared.ast.File.{File}
use Rattle.wit_syntax.specs.AstView as view
use Rattle.wit_types.specs.declared.«package».UnresolvedPackage.{UnresolvedPackage}
use Rattle.wit_scopes.proofs.Outcomes.{if_err}
use Rattle.wit_rules.proofs.Places.{read_at}
use Rattle.wit_package.specs.Steps.{Refuses}
use Rattle.wit_package.specs.Group.{AreResolved, OneIsRefused, by_file}
use Rattle.wit_package.specs.GroupView as seen
use Rattle.wit_package.proofs.Reading.{resolved_more}
use Rattle.wit_package.proofs.group.resolved_each.Goals as goal

pub returns-in_err-package-clause-cause : goal.returns-in_err-package-clause-cause
returns-in_err-package-clause-cause c =
    let files = c.args.files.items in
    let yields = YieldsList-from_vec {s = c.into_iter-file-iterator.result} files c.into_iter-file-iterator.ensures.into_iter_gives.0 (c.into_iter-file-iterator.ensures.into_iter_gives.1 ∙ c.args.files.ok.0) in
    let turn = YieldsList-turn yields c.loop-file.yielded c.loop-file.file-iterator c.loop-file.yielded_by c.next.result c.next.new.self c.in-Some.file c.in-Some.is c.next.ensures.steps in
    let n = length c.loop-file.yielded in
    if_err c.from_residual.result (Refuses (view.file c.in-Some.file ∷ [])) (OneIsRefused (seen.trees files))
    (λ f h. by_file (view.file c.in-Some.file) (n, slice_get-map view.file files n ∙ ap (option_map view.file) (read_at files n c.in-Some.file turn.0 turn.1)) h) (search rules)

pub loop-file-preserved : goal.loop-file-preserved
loop-file-preserved c =
    let files = c.args.files.items in
    let yields = YieldsList-from_vec {s = c.into_iter-file-iterator.result} files c.into_iter-file-iterator.ensures.into_iter_gives.0 (c.into_iter-file-iterator.ensures.into_iter_gives.1 ∙ c.args.files.ok.0) in
    let turn = YieldsList-turn yields c.loop-file.yielded c.loop-file.file-iterator c.loop-file.yielded_by c.next.result c.next.new.self c.in-Some.file c.in-Some.is c.next.ensures.steps in
    let n = length c.loop-file.yielded in
    let more : seen.trees (take (n + 1) files) ≡ seen.trees (take n files) ++ view.file c.in-Some.file ∷ [] = rw (add-one, take-suc files n c.in-Some.file turn.0, ← turn.1, map_push view.file (take n files) c.in-Some.file) refl in
    subst (λ (m : ℕ). AreResolved (seen.trees (take m files)) c.push.new.self.items) (sym (length_push c.loop-file.yielded c.in-Some.file))
    (subst (λ (ps : List UnresolvedPackage). AreResolved (seen.trees (take (n + 1) files)) ps) (sym c.in_ok-push.ensures.items)
    (subst (λ (fs : List FileTree). AreResolved fs (c.loop-file.found.items ++ c.in_ok-package.package ∷ [])) (sym more)
    (resolved_more (seen.trees (take n files)) c.loop-file.found.items (view.file c.in-Some.file) c.in_ok-package.package c.loop-file.invariant c.in_ok-package.ensures.ok)))

pub returns-clause-ok : goal.returns-clause-ok
returns-clause-ok c =
    let files = c.args.files.items in
    let yields = YieldsList-from_vec {s = c.into_iter-file-iterator.result} files c.into_iter-file-iterator.ensures.into_iter_gives.0 (c.into_iter-file-iterator.ensures.into_iter_gives.1 ∙ c.args.files.ok.0) in
    let over = YieldsList-end yields c.loop-file.yielded c.loop-file.file-iterator c.loop-file.yielded_by c.next.result c.next.new.self c.in-None.is c.next.ensures.steps in
    let all : take (length c.loop-file.yielded) files ≡ files = rw over.1 (take-length files) in
    subst (λ (fs : List File). AreResolved (seen.trees fs) c.loop-file.found.items) all c.loop-file.invariant
